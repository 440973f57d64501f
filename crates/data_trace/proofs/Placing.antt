-- Places of ASes, and lists of ASes that are gone through.
use Rattle.std.proofs.Common.{◌≡◌, ◌≢◌, ◌⊎◌, inl, inr, ⊎_elim, ℕ, ◌+◌, ◌<◌, ◌≤◌, true, false, eqb, Some, List, length, get_or, take, sym, ◌∙◌, subst, arith, true≢false}
use Rattle.std.specs.Prelude.{nat_eq}
use Rattle.std.specs.List.{list_any, slice_get, IsDistinct}
use Rattle.std.proofs.lemmas.Bool.{cases_eq, cases_lt, eq-eqb}
use Rattle.std.proofs.lemmas.List.{take_more}
use Rattle.std.proofs.lemmas.Option.{slice_get_within, get_or_from_slice_get}
use Rattle.std.proofs.lemmas.Map.Keys.{apart_from_distinct}
use Rattle.net_names.specs.Numbers.{occurs}
use Rattle.data_trace.specs.Traces.{IsIn}
use Rattle.data_trace.specs.Columns.{name_at}
use Rattle.data_trace.proofs.Traces.{at_in}
use Rattle.data_trace.proofs.Walking.{in_pushed, not_in_push}
use Rattle.data_trace.proofs.Naming.{occurs_in}

-- two places of one AS are one place
pub one_place : (keys : List ℕ) (x y : ℕ) → IsDistinct nat_eq keys → x < length keys → y < length keys → name_at keys x ≡ name_at keys y → x ≡ y
one_place keys x y d l m e = ⊎_elim (λ (q : x ≡ y). q) (λ (q : x ≢ y). ⊎_elim (λ (k : x < y). absurd (true≢false (sym (eq-eqb _ _ e) ∙ apart_from_distinct eqb keys x y 0 d k m)))
    (λ (k : y ≤ x). absurd (true≢false (sym (eq-eqb _ _ (sym e)) ∙ apart_from_distinct eqb keys y x 0 d (less y x k q) l))) (cases_lt x y)) (cases_eq x y)
  where
    less : (y x : ℕ) → y ≤ x → x ≢ y → y < x
    less y x k q = ⊎_elim (λ (l : y < x). l) (λ (l : x ≤ y). absurd (q (omega (arith, k, l)))) (cases_lt y x)

-- the place that was sought is that of the AS
pub found_at : (keys : List ℕ) (a place : ℕ) → slice_get keys place ≡ Some a → (place < length keys) × (name_at keys place ≡ a)
found_at keys a place e = (slice_get_within keys place a e, get_or_from_slice_get keys place a 0 e)

pub found_only : (keys : List ℕ) (a place x : ℕ) → IsDistinct nat_eq keys → slice_get keys place ≡ Some a → x < length keys → name_at keys x ≡ a → x ≡ place
found_only keys a place x d e l n = let q : (place < length keys) × (name_at keys place ≡ a) = found_at keys a place e in one_place keys x place d l q.0 (n ∙ sym q.1)

pub occurs_at : (keys : List ℕ) (x : ℕ) → x < length keys → occurs (name_at keys x) keys ≡ true
occurs_at keys x l = occurs_in (name_at keys x) keys ∙ at_in keys x l

-- an AS is one of the first i + 1 of a list where it is the last of them, or one of the first i
pub occurs_more : (a : ℕ) (xs : List ℕ) (i : ℕ) → i < length xs → occurs a (take (i + 1) xs) ≡ true → (a ≡ get_or xs i 0) ⊎ (occurs a (take i xs) ≡ true)
occurs_more a xs i l h =
    ⊎_elim (λ (e : a ≡ get_or xs i 0). inl e) (λ (e : IsIn a (take i xs)). inr (occurs_in a (take i xs) ∙ e))
    (in_pushed a (get_or xs i 0) (take i xs) (subst (IsIn a) (take_more xs i 0 l) (sym (occurs_in a (take (i + 1) xs)) ∙ h)))

pub occurs_not_more : (a : ℕ) (xs : List ℕ) (i : ℕ) → i < length xs → occurs a (take (i + 1) xs) ≡ false → (a ≢ get_or xs i 0) × (occurs a (take i xs) ≡ false)
occurs_not_more a xs i l h =
    let q : (a ≢ get_or xs i 0) × (list_any (nat_eq a) (take i xs) ≡ false) = not_in_push a (get_or xs i 0) (take i xs) (subst (λ ys. list_any (nat_eq a) ys ≡ false) (take_more xs i 0 l) (sym (occurs_in a (take (i + 1) xs)) ∙ h)) in
    (q.0, occurs_in a (take i xs) ∙ q.1)
