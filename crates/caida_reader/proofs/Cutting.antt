-- Lines of a text that goes on.
use Rattle.std.proofs.Common.{◌≡◌, ◌≢◌, ℕ, ◌+◌, ◌<◌, ◌≤◌, Bool, true, false, nat_lt, List, [], ◌∷◌, ◌++◌, Option, Some, None, refl, sym, ap, subst, ◌∙◌, length, take, drop, get_or, position, option_map, arith, All, add-one, drop-cons, take-append-drop, ne_eqb, eqb-true, length-take}
use Rattle.std.specs.Prelude.{◌==◌}
use Rattle.std.proofs.lemmas.List.{get_or-take, append-nil}
use Rattle.std.proofs.lemmas.List.Elements.{All-nil, All-append}
use Rattle.std.proofs.lemmas.List.Quantifiers.{position-Some}
use Rattle.std.proofs.lemmas.List.Splits.{slice_split_at, slice_split_none}
use Rattle.std.specs.List.{position_or_len}
use Rattle.std.proofs.lemmas.Bool.{ltb-false}
use Rattle.std.proofs.lemmas.List.Sums.{fails_before_first}
use Rattle.net_names.specs.Texts.{cut_at, fields}
use Rattle.net_names.proofs.Cuts.{fields_uncut, fields_cut}
use Rattle.caida_reader.specs.Lines.{IsOneLine}

pub ruleset cutting = (fields_uncut, fields_cut)

pub nothing_is_one_line : IsOneLine []
nothing_is_one_line = All-nil (λ byte. byte ≢ 10)

pub one_line-append : (text more : List ℕ) → IsOneLine text → IsOneLine more → IsOneLine (text ++ more)
one_line-append text more = All-append (λ byte. byte ≢ 10) text more

no_break : (text : List ℕ) → IsOneLine text → All (λ byte. (byte == 10) ≡ false) text
no_break text h k d l = ne_eqb _ _ (h k d l)

-- a line that a line feed ends
pub lines-ended : (text more : List ℕ) → IsOneLine text → fields 10 (text ++ 10 ∷ more) ≡ text ∷ fields 10 more
lines-ended text more h = slice_split_at (λ byte. byte == 10) text 10 more (no_break text h) refl

-- a line without line feed
pub lines-last : (text : List ℕ) → IsOneLine text → fields 10 (text ++ []) ≡ text ∷ []
lines-last text h = ap (fields 10) (append-nil text) ∙ slice_split_none (λ byte. byte == 10) text (no_break text h)

abbrev Parts : Type 0
Parts = List ℕ × List ℕ

same_parts : (p q : Parts) → Some p ≡ Some q → (p.0 ≡ q.0) × (p.1 ≡ q.1)
same_parts p q e = let r : p ≡ q = cc in (ap (λ (x : Parts). x.0) r, ap (λ (x : Parts). x.1) r)

abbrev is_break : ℕ → Bool
is_break byte = byte == 10

module _ (text : List ℕ) (i : ℕ) (at : position is_break text ≡ Some i) where
  inside : i < length text
  inside = (position-Some is_break text i 0 at).0

  before : IsOneLine (take i text)
  before k d l = λ e.
      let lt : k < i = let n = length-take i text in omega (arith, n, l, inside) in
      let fails = (position-Some is_break text i d at).2 k lt in
      let same = sym (get_or-take i text k d lt) ∙ e in
      let f : (10 == 10) ≡ false = rw same at fails in
      cc

  whole : text ≡ take i text ++ 10 ∷ drop (i + 1) text
  whole =
      let lt = inside in
      let e : get_or text i 0 ≡ 10 = eqb-true (get_or text i 0) 10 (position-Some is_break text i 0 at).1 in
      sym (take-append-drop i text) ∙ ap (λ l. take i text ++ l) (rw (add-one, drop-cons text i 0 lt, e) refl)

abbrev parts_at : List ℕ → Option ℕ → Option Parts
parts_at text at = option_map (λ i. (take i text, drop (i + 1) text)) at

-- a text at its first line feed
pub first_line : (text line rest : List ℕ) → cut_at 10 text ≡ Some (line, rest) → IsOneLine line × (text ≡ line ++ 10 ∷ rest)
first_line text line rest h =
    let parts : Parts = (line, rest) in
    (elim (position is_break text) as (λ o. position is_break text ≡ o → parts_at text o ≡ Some parts → IsOneLine line × (text ≡ line ++ 10 ∷ rest)) [
      | None ↦ λ at e. absurd (cc)
      | Some i ↦ λ at e. let p = same_parts (take i text, drop (i + 1) text) parts e in (subst IsOneLine p.0 (before text i at), whole text i at ∙ rw (p.0, p.1) refl)
    ]) refl h

-- a text without line feed
pub uncut : (text : List ℕ) → cut_at 10 text ≡ None → IsOneLine text
uncut text h =
    (elim (nat_lt (position_or_len is_break text) (length text)) as (λ v. nat_lt (position_or_len is_break text) (length text) ≡ v → IsOneLine text) [
      | true ↦ λ lt. let some = rw lt at h in absurd (cc)
      | false ↦ λ lt. λ k d l e.
          let all : length text ≤ position_or_len is_break text = ltb-false _ _ lt in
          let fails = fails_before_first is_break text k d (omega (arith, l, all)) in
          let f : (10 == 10) ≡ false = rw e at fails in
          cc
    ]) refl
