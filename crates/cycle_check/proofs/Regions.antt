-- The lists of a region.
use Rattle.std.proofs.Common.{◌≡◌, inl, inr, ℕ, zero, suc, ◌+◌, ◌-◌, ◌<◌, ◌≤◌, true, false, List, [], ◌++◌, length, get_or, take, drop, sym, ◌∙◌, ap, subst, arith, add-one}
use Rattle.std.proofs.lemmas.Bool.{cases_lt}
use Rattle.std.proofs.lemmas.List.{take-append-drop, take-take, drop-take, take_all, get_or_past, get_or-drop, length-drop}
use Rattle.net_names.specs.Numbers.{occurs}
use Rattle.cycle_check.specs.Rows.{count_of, row, AreRows}
use Rattle.cycle_check.specs.Stages.{times, waiting}
use Rattle.cycle_check.proofs.Listing.{occurs_get, occurs_take}
use Rattle.cycle_check.proofs.Tallies.{times_append}

take_split : (s m : ℕ) (xs : List ℕ) → take (s + m) xs ≡ take s xs ++ take m (drop s xs)
take_split s m xs =
    let whole = take-append-drop s (take (s + m) xs) in
    let front : take s (take (s + m) xs) ≡ take s xs = take-take s (s + m) xs (omega arith) in
    let back : drop s (take (s + m) xs) ≡ take m (drop s xs) = drop-take s m xs in
    sym whole ∙ ap (λ v. v ++ drop s (take (s + m) xs)) front ∙ ap (λ v. take s xs ++ v) back

module _ (starts items : List ℕ) (rows : AreRows starts items) where
  -- the lists up to a place are the front of the region
  waiting_front : (p b : ℕ) → b ≤ count_of starts → waiting (row starts items) [] p b ≡ times p (take (get_or starts b 0) items)
  waiting_front p zero h = ap (λ s. times p (take s items)) (sym rows.first)
  waiting_front p (suc b) h =
      let ih = waiting_front p b (omega arith) in
      let some = rows.some in
      let le : get_or starts b 0 ≤ get_or starts (b + 1) 0 = rows.rising b (b + 1) (omega arith) (omega arith) in
      let m : ℕ = get_or starts (b + 1) 0 - get_or starts b 0 in
      let sum : get_or starts b 0 + m ≡ get_or starts (suc b) 0 = omega (arith, le, ap (λ k. get_or starts k 0) (add-one b)) in
      let split = take_split (get_or starts b 0) m items in
      let whole : take (get_or starts (suc b) 0) items ≡ take (get_or starts b 0) items ++ row starts items b = sym (ap (λ s. take s items) sum) ∙ split in
      let parts : times p (take (get_or starts (suc b) 0) items) ≡ times p (take (get_or starts b 0) items) + times p (row starts items b) = ap (times p) whole ∙ times_append p (take (get_or starts b 0) items) (row starts items b) in
      omega (arith, ih, parts)

  pub waiting_all : (p : ℕ) → times p items ≡ waiting (row starts items) [] p (count_of starts)
  waiting_all p = ap (times p) (sym (take_all (length items) items (omega arith))) ∙ ap (λ s. times p (take s items)) (sym rows.last) ∙ sym (waiting_front p (count_of starts) (omega arith))

  -- past the last place there is no list
  pub row_inside : (a b : ℕ) → occurs a (row starts items b) ≡ true → b < count_of starts
  row_inside a b o = elim (cases_lt b (count_of starts)) [
    | inl less ↦ less
    | inr past ↦ (
        let some = rows.some in
        let end : get_or starts (b + 1) 0 ≡ 0 = get_or_past starts (b + 1) 0 (omega (arith, past, some)) in
        let none : get_or starts (b + 1) 0 - get_or starts b 0 ≡ 0 = omega (arith, end) in
        let empty : occurs a (take (get_or starts (b + 1) 0 - get_or starts b 0) (drop (get_or starts b 0) items)) ≡ false = ap (λ k. occurs a (take k (drop (get_or starts b 0) items))) none in
        cc)
  ]

  -- the lists hold places
  pub row_within : (a b : ℕ) → occurs a (row starts items b) ≡ true → a < count_of starts
  row_within a b o =
      let start : ℕ = get_or starts b 0 in
      let (i, low, less, is) = occurs_take (get_or starts (b + 1) 0 - start) a (drop start items) o in
      let at = get_or-drop start items i 0 in
      let long = length-drop start items in
      subst (λ x. x < count_of starts) (sym at ∙ is) (rows.within (start + i) (omega (arith, less, long)))

  -- also by index
  pub item_within : (list : List ℕ) (b i : ℕ) → list ≡ row starts items b → i < length list → get_or list i 0 < count_of starts
  item_within list b i is less = row_within (get_or list i 0) b (subst (λ xs. occurs (get_or list i 0) xs ≡ true) is (occurs_get list i 0 less))
