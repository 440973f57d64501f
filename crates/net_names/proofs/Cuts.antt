-- Cutting at a byte again and again gives the fields.
use Rattle.std.proofs.Common.{◌≡◌, ℕ, ◌+◌, ◌<◌, ◌≤◌, Bool, true, false, List, [], ◌∷◌, length, take, drop, Some, None, refl, ap, ◌∙◌, arith}
use Rattle.std.specs.Prelude.{◌==◌, nat_lt}
use Rattle.std.specs.List.{slice_split, onto_first, position_or_len}
use Rattle.std.proofs.lemmas.Bool.{ltb-false, ltb-true}
use Rattle.std.proofs.lemmas.List.Splits.{slice_split-cons_no, slice_split_first}
use Rattle.net_names.specs.Texts.{cut_at, fields}

none_here : (p : ℕ → Bool) (t : List ℕ) → length t ≤ position_or_len p t → slice_split p t ≡ t ∷ []
none_here p [] h = refl
none_here p (x ∷ xs) h =
    (elim (p x) as (λ v. p x ≡ v → slice_split p (x ∷ xs) ≡ (x ∷ xs) ∷ []) [
      | true ↦ λ e. let l = rw e at h in absurd (omega (arith, l))
      | false ↦ λ e. let l = rw e at h in slice_split-cons_no p x xs e ∙ ap (onto_first x) (none_here p xs (omega (arith, l)))
    ]) refl

pub fields_uncut : (byte : ℕ) (t : List ℕ) → cut_at byte t ≡ None → fields byte t ≡ t ∷ []
fields_uncut byte t e =
    let p : ℕ → Bool = λ b. b == byte in
    (elim (nat_lt (position_or_len p t) (length t)) as (λ v. nat_lt (position_or_len p t) (length t) ≡ v → slice_split p t ≡ t ∷ []) [
      | true ↦ λ h. let k = rw h at e in absurd (cc)
      | false ↦ λ h. none_here p t (ltb-false _ _ h)
    ]) refl

abbrev Parts : Type 0
Parts = List ℕ × List ℕ

same_parts : (p q : Parts) → Some p ≡ Some q → (p.0 ≡ q.0) × (p.1 ≡ q.1)
same_parts p q e = let r : p ≡ q = cc in (ap (λ (x : Parts). x.0) r, ap (λ (x : Parts). x.1) r)

pub fields_cut : (byte : ℕ) (t front back : List ℕ) → cut_at byte t ≡ Some (front, back) → fields byte t ≡ front ∷ fields byte back
fields_cut byte t front back e =
    let p : ℕ → Bool = λ b. b == byte in
    (elim (nat_lt (position_or_len p t) (length t)) as (λ v. nat_lt (position_or_len p t) (length t) ≡ v → slice_split p t ≡ front ∷ slice_split p back) [
      | true ↦ λ h. let k = rw h at e in let i : position_or_len p t < length t = ltb-true _ _ h in
          let q = same_parts (take (position_or_len p t) t, drop (position_or_len p t + 1) t) (front, back) k in
          slice_split_first p t 0 i ∙ rw (q.0, q.1) refl
      | false ↦ λ h. let k = rw h at e in absurd (cc)
    ]) refl
