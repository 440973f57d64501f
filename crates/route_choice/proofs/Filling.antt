-- A table that takes the entries of slots, one AS after the other.
use Rattle.std.proofs.Common.{◌≡◌, ◌≢◌, ◌⊎◌, inl, inr, ℕ, zero, suc, ◌+◌, ◌<◌, Bool, true, false, cond, ◌||◌, ◌==◌, List, [], ◌∷◌, ◌++◌, Option, None, Some, nat_eq, length, get_or, slice_get, take, refl, ap, sym, subst, ◌∙◌, unwrap_or, if◌then◌else◌, true≢false, arith}
use Rattle.std.specs.List.{IsDistinct}
use Rattle.std.specs.Map.{keys_of, values_of, lookup}
use Rattle.std.specs.Prelude.{IsSome}
use Rattle.std.proofs.lemmas.Bool.{cases_eq, eq-eqb, ne_eqb}
use Rattle.std.proofs.lemmas.List.{get_or-take, length-take}
use Rattle.std.proofs.lemmas.List.Folds.{list_any_more}
use Rattle.std.proofs.lemmas.List.Sums.{sum_by-cons}
use Rattle.std.proofs.lemmas.Map.Keys.{apart_from_distinct}
use Rattle.net_names.specs.Numbers.{occurs}
use Rattle.as_places.proofs.PlaceLemmas.{eqb_comm}
use Rattle.route_choice.specs.declared.held.Held.{Held}
use Rattle.route_choice.specs.declared.row.Row.{Row}
use Rattle.route_choice.specs.Rows.{asns_of, entries_of, entry_in}
use Rattle.route_choice.specs.Slots.{Slots, slot_at, entry_at, entries_at, use_of, uses_in}
use Rattle.route_choice.proofs.RowLemmas.{slot_read}

-- one AS more
entries_suc : (m : Slots) (xs : List ℕ) (i : ℕ) → i < length xs → entries_at m (take (suc i) xs) ≡ entries_at m (take i xs) ++ (get_or xs i 0, entry_at m (get_or xs i 0)) ∷ []
entries_suc m [] i less = absurd (omega (arith, less))
entries_suc m (x ∷ xs) zero less = refl
entries_suc m (x ∷ xs) (suc i) less = ap (λ l. (x, entry_at m x) ∷ l) (entries_suc m xs i (omega (arith, less)))

entries_more : (m : Slots) (xs : List ℕ) (i : ℕ) → i < length xs → entries_at m (take (i + 1) xs) ≡ entries_at m (take i xs) ++ (get_or xs i 0, entry_at m (get_or xs i 0)) ∷ []
entries_more m xs i less = (let next : i + 1 ≡ suc i = omega arith in ap (λ n. entries_at m (take n xs)) next ∙ entries_suc m xs i less)

-- one row more
rows_more : (rows : List Row) (r : Row) → entries_of (rows ++ r ∷ []) ≡ entries_of rows ++ (r.asn, entry_in r.slot) ∷ []
rows_more [] r = refl
rows_more (q ∷ qs) r = ap (λ l. (q.asn, entry_in q.slot) ∷ l) (rows_more qs r)

-- its use of a path
uses_more : (es : List (ℕ × Option Held)) (a : ℕ) (e : Option Held) (k : ℕ) → uses_in (es ++ (a, e) ∷ []) k ≡ uses_in es k + use_of k e
uses_more [] a e k = omega (arith, sum_by-cons (use_of k) e [])
uses_more (p ∷ ps) a e k = omega (arith, sum_by-cons (use_of k) p.1 (values_of (ps ++ (a, e) ∷ [])), sum_by-cons (use_of k) p.1 (values_of ps), uses_more ps a e k)

pub row_uses : (rows : List Row) (r : Row) (k : ℕ) → uses_in (entries_of (rows ++ r ∷ [])) k ≡ uses_in (entries_of rows) k + use_of k (entry_in r.slot)
row_uses rows r k = ap (λ es. uses_in es k) (rows_more rows r) ∙ uses_more (entries_of rows) r.asn (entry_in r.slot) k

-- the ASes of rows that have these pairs
pub asns_listed : (m : Slots) (xs : List ℕ) (rows : List Row) → entries_of rows ≡ entries_at m xs → asns_of rows ≡ xs
asns_listed m xs rows same = sym (firsts rows) ∙ ap keys_of same ∙ listed xs
  where
    firsts : (rs : List Row) → keys_of (entries_of rs) ≡ asns_of rs
    firsts [] = refl
    firsts (r ∷ rs) = ap (λ l. r.asn ∷ l) (firsts rs)

    listed : (ys : List ℕ) → keys_of (entries_at m ys) ≡ ys
    listed [] = refl
    listed (y ∷ ys) = ap (λ l. y ∷ l) (listed ys)

-- what stands at an AS among the pairs
pub entry_listed : (m : Slots) (xs : List ℕ) (a : ℕ) → lookup (nat_eq a) (entries_at m xs) ≡ (if occurs a xs then Some (entry_at m a) else None)
entry_listed m [] a = refl
entry_listed m (x ∷ xs) a = ap (λ b. cond b (Some (entry_at m x)) (lookup (nat_eq a) (entries_at m xs))) (eqb_comm a x) ∙ by (cases_eq x a) (entry_listed m xs a)
  where
    by : (x ≡ a) ⊎ (x ≢ a) → lookup (nat_eq a) (entries_at m xs) ≡ (if occurs a xs then Some (entry_at m a) else None) → cond (x == a) (Some (entry_at m x)) (lookup (nat_eq a) (entries_at m xs)) ≡ (if (x == a) || occurs a xs then Some (entry_at m a) else None)
    by (inl same) ih = ap (λ b. cond b (Some (entry_at m x)) (lookup (nat_eq a) (entries_at m xs))) (eq-eqb x a same) ∙ ap (λ n. Some (entry_at m n)) same ∙ sym (ap (λ b. if b || occurs a xs then Some (entry_at m a) else None) (eq-eqb x a same))
    by (inr ne) ih = ap (λ b. cond b (Some (entry_at m x)) (lookup (nat_eq a) (entries_at m xs))) (ne_eqb x a ne) ∙ ih ∙ sym (ap (λ b. if b || occurs a xs then Some (entry_at m a) else None) (ne_eqb x a ne))

-- the AS at a place of a list in which none stands twice doesn't stand before it
differs_before : (xs : List ℕ) (a : ℕ) → ((k : ℕ) → k < length xs → nat_eq (get_or xs k 0) a ≡ false) → occurs a xs ≡ false
differs_before [] a apart = refl
differs_before (x ∷ xs) a apart = ap (λ b. b || occurs a xs) (apart 0 (omega arith)) ∙ differs_before xs a (λ k less. apart (suc k) (omega (arith, less)))

not_before : (xs : List ℕ) (i : ℕ) → IsDistinct nat_eq xs → i < length xs → occurs (get_or xs i 0) (take i xs) ≡ false
not_before xs i apart less = differs_before (take i xs) (get_or xs i 0) (λ k before.
    let inside : k < i = omega (arith, before, length-take i xs) in
    ap (λ n. nat_eq n (get_or xs i 0)) (get_or-take i xs k 0 inside) ∙ apart_from_distinct nat_eq xs k i 0 apart inside less)

or_left : (b c : Bool) → (b || c) ≡ true → c ≡ false → b ≡ true
or_left true c either out = refl
or_left false c either out = sym out ∙ either

neither_left : (b c : Bool) → (b || c) ≡ false → b ≡ false
neither_left true c none = none
neither_left false c none = refl

neither_right : (b c : Bool) → (b || c) ≡ false → c ≡ false
neither_right true c none = absurd (true≢false none)
neither_right false c none = none

-- the entry of the AS at a place is taken
module _ (first old new : Slots) (xs : List ℕ) (i x : ℕ) (less : i < length xs) (is : x ≡ get_or xs i 0)
    (others : (a : ℕ) → a ≢ x → slot_at new a ≡ slot_at old a) where
  more : (a : ℕ) → occurs a (take (i + 1) xs) ≡ (occurs a (take i xs) || (get_or xs i 0 == a))
  more a = list_any_more (λ y. y == a) xs i 0 less

  pub none_more : entry_at new x ≡ None → ((a : ℕ) → occurs a (take i xs) ≡ true → entry_at old a ≡ None) → (a : ℕ) → occurs a (take (i + 1) xs) ≡ true → entry_at new a ≡ None
  none_more this so_far a among = elim (cases_eq a x) [
    | inl same ↦ subst (λ b. entry_at new b ≡ None) (sym same) this
    | inr ne ↦ ap (λ (o : Option (Option Held)). unwrap_or o None) (others a ne)
        ∙ so_far a (or_left (occurs a (take i xs)) (get_or xs i 0 == a) (sym (more a) ∙ among) (ne_eqb (get_or xs i 0) a (λ e. ne (sym (is ∙ e)))))
  ]

  pub others_more : ((a : ℕ) → occurs a (take i xs) ≡ false → slot_at old a ≡ slot_at first a) → (a : ℕ) → occurs a (take (i + 1) xs) ≡ false → slot_at new a ≡ slot_at first a
  others_more so_far a away =
      let none : (occurs a (take i xs) || (get_or xs i 0 == a)) ≡ false = sym (more a) ∙ away in
      others a (λ same. true≢false (sym (eq-eqb (get_or xs i 0) a (sym (same ∙ is))) ∙ neither_right (occurs a (take i xs)) (get_or xs i 0 == a) none))
      ∙ so_far a (neither_left (occurs a (take i xs)) (get_or xs i 0 == a) none)

  pub kept_more : (IsSome (slot_at old x) → IsSome (slot_at new x)) → ((a : ℕ) → IsSome (slot_at first a) → IsSome (slot_at old a)) → (a : ℕ) → IsSome (slot_at first a) → IsSome (slot_at new a)
  kept_more this so_far a there = elim (cases_eq a x) [
    | inl same ↦ subst (λ b. IsSome (slot_at new b)) (sym same) (this (subst (λ b. IsSome (slot_at old b)) same (so_far a there)))
    | inr ne ↦ subst IsSome (sym (others a ne)) (so_far a there)
  ]

  pub pairs_more : IsDistinct nat_eq xs → ((a : ℕ) → occurs a (take i xs) ≡ false → slot_at old a ≡ slot_at first a)
      → (rows : List Row) (r : Row) → r.asn ≡ x → entry_in r.slot ≡ entry_at old x → entries_of rows ≡ entries_at first (take i xs) → entries_of (rows ++ r ∷ []) ≡ entries_at first (take (i + 1) xs)
  pairs_more apart so_far rows r here taken same =
      let there : entry_in r.slot ≡ entry_at first (get_or xs i 0) = taken ∙ ap (entry_at old) is ∙ ap (λ (o : Option (Option Held)). unwrap_or o None) (so_far (get_or xs i 0) (not_before xs i apart less)) in
      rows_more rows r ∙ ap (λ es. es ++ (r.asn, entry_in r.slot) ∷ []) same
      ∙ coe 0 1 (j. (entries_at first (take i xs) ++ (r.asn, entry_in r.slot) ∷ []) ≡ (entries_at first (take i xs) ++ ((here ∙ is) j, there j) ∷ [])) refl
      ∙ sym (entries_more first xs i less)

-- no path is used where no pair has an entry
unused : (es : List (ℕ × Option Held)) (k : ℕ) → ((i a : ℕ) (v : Option Held) → slice_get es i ≡ Some (a, v) → v ≡ None) → uses_in es k ≡ 0
unused [] k each = refl
unused (e ∷ es) k each = sum_by-cons (use_of k) e.1 (values_of es) ∙ omega (arith, ap (use_of k) (each 0 e.0 e.1 refl), unused es k (λ i. each (suc i)))

-- nor where no AS has one, and each stands once
pub unused_by_all : (es : List (ℕ × Option Held)) → IsDistinct nat_eq (keys_of es) → ((a : ℕ) → unwrap_or (lookup (nat_eq a) es) None ≡ None) → (k : ℕ) → uses_in es k ≡ 0
unused_by_all es apart none k = unused es k (λ i a v read. sym (ap (λ (o : Option (Option Held)). unwrap_or o None) (slot_read es i a v apart read)) ∙ none a)
