-- The lists of a plan's prefixes, announcers and leakers have all of them, each once.
use Rattle.std.proofs.Common.{◌≡◌, ℕ, zero, suc, ◌<◌, ◌≤◌, Bool, true, false, cond, ◌||◌, ◌&&◌, ◌==◌, IsTrue, is_some, T, List, [], ◌∷◌, map, length, drop, get_or, refl, sym, ap, subst, ◌∙◌, arith, Option, Some, None, IfSome, MatchOption, slice_get, take, ◌-◌, ◌⊎◌, inl, inr}
use Rattle.std.specs.Option.{option_copied}
use Rattle.std.specs.Borrow.{Bor}
use Rattle.std.proofs.Math.Seq.{take-length}
use Rattle.std.proofs.lemmas.List.{take-map, drop-map}
use Rattle.std.proofs.lemmas.List.Sorted.{IsPartitionedBy-leb, IsPartitionedBy-ltb}
use Rattle.std.proofs.Math.Dec.{leb, ltb}
use Rattle.net_names.specs.Numbers.{occurs}
use Rattle.stability_laws.proofs.Listing.{occurs-listed}
use Rattle.std.specs.Prelude.{nat_lt, filter}
use Rattle.std.proofs.lemmas.Bool.{true≢false, eqb-true, eqb-false, ltb-true, ltb-false, leb-true, leb-false, cases_lt, ne_eqb, eq-eqb}
use Rattle.std.proofs.lemmas.Option.{none-some, slice_get_past}
use Rattle.std.specs.List.{list_any, HoldsAt}
use Rattle.std.specs.List.Sorted.{IsNonDecreasingBy, IsPartitionPoint, IsPartitionedBy}
use Rattle.std.specs.declared.cmp.Ordering.{Ordering}
use Rattle.std.specs.declared.cmp.Ordering.TheVariants.{Less, Equal, Greater}
use Rattle.std.specs.Ordering.{nat_cmp, eq_by_cmp, is_eq, is_lt, ordering_then}
use Rattle.std.specs.Cmp.{nat_cmp_total, nat_cmp_is, ranked, unsigned_tied, nat_eq_equiv}
use Rattle.std.proofs.lemmas.Map.Lookups.{exact_unsigned}
use Rattle.std.specs.FinMap as fin
use Rattle.net_names.specs.Prefixes.{PrefixValue}
use Rattle.net_names.specs.Links.{pair_cmp}
use Rattle.net_names.proofs.Pairs.{exact_pair, pairs_total}
use Rattle.stability_laws.specs.Plans.{announcement_cmp, Plan, announcers_of, leaks_in, in_round, leakers_of, IsAnnouncer, ListsRising}
use Rattle.stability_laws.specs.PlanLists.{marks, IsRising, set_of, announcing_set}
use Rattle.net_names.specs.Orders.{announcement_total, exact_announcement}
use Rattle.net_names.proofs.Rising.{both}
use Rattle.stability_laws.proofs.KeyLists.{keys_listed, listed_as, eq_is, eq_same, keys_set_of, left, right, below_later, copied_at}
use Rattle.stability_laws.proofs.Announcements.{by_as, get-announcing_set}

-- an entry of the AS is found under its prefix
find_of_as : (a : ℕ) (es : List ((PrefixValue × ℕ) × List ℕ)) → is_some (fin.find nat_cmp a (by_as es)) ≡ true → (prefix : PrefixValue) × (path : List ℕ) × (fin.find announcement_cmp (prefix, a) es ≡ Some path)
find_of_as a [] h = absurd (true≢false (sym h))
find_of_as a (e ∷ es) h = by (eq_by_cmp nat_cmp a e.0.1) refl (find_of_as a es) h
  where
    later : (prefix : PrefixValue) (path : List ℕ) (b : Bool) → fin.find announcement_cmp (prefix, a) es ≡ Some path → (p : List ℕ) × (cond b (Some e.1) (fin.find announcement_cmp (prefix, a) es) ≡ Some p)
    later prefix path true is = (e.1, refl)
    later prefix path false is = (path, is)

    by : (b : Bool) → eq_by_cmp nat_cmp a e.0.1 ≡ b → (is_some (fin.find nat_cmp a (by_as es)) ≡ true → (prefix : PrefixValue) × (path : List ℕ) × (fin.find announcement_cmp (prefix, a) es ≡ Some path))
        → is_some (cond b (Some tt) (fin.find nat_cmp a (by_as es))) ≡ true → (prefix : PrefixValue) × (path : List ℕ) × (fin.find announcement_cmp (prefix, a) (e ∷ es) ≡ Some path)
    by true t rest h =
        let same : (e.0.0, a) ≡ e.0 = ap (λ (x : ℕ). (e.0.0, x)) (eq_is nat_cmp_total exact_unsigned a e.0.1 t) in
        (e.0.0, e.1, ap (λ (b : Bool). cond b (Some e.1) (fin.find announcement_cmp (e.0.0, a) es)) (eq_same announcement_total exact_announcement (e.0.0, a) e.0 same))
    by false t rest h = let r = rest h in let l = later r.0 r.1 (eq_by_cmp announcement_cmp (r.0, a) e.0) r.2 in (r.0, l.0, l.1)

as_of_find : (prefix : PrefixValue) (a : ℕ) (path : List ℕ) (es : List ((PrefixValue × ℕ) × List ℕ)) → fin.find announcement_cmp (prefix, a) es ≡ Some path → is_some (fin.find nat_cmp a (by_as es)) ≡ true
as_of_find prefix a path [] h = absurd (none-some path h)
as_of_find prefix a path (e ∷ es) h = by (eq_by_cmp announcement_cmp (prefix, a) e.0) refl (as_of_find prefix a path es) h
  where
    later : (b : Bool) → is_some (fin.find nat_cmp a (by_as es)) ≡ true → is_some (cond b (Some tt) (fin.find nat_cmp a (by_as es))) ≡ true
    later true is = refl
    later false is = is

    by : (b : Bool) → eq_by_cmp announcement_cmp (prefix, a) e.0 ≡ b → (fin.find announcement_cmp (prefix, a) es ≡ Some path → is_some (fin.find nat_cmp a (by_as es)) ≡ true)
        → cond b (Some e.1) (fin.find announcement_cmp (prefix, a) es) ≡ Some path → is_some (fin.find nat_cmp a (by_as (e ∷ es))) ≡ true
    by true t rest h =
        let same : a ≡ e.0.1 = ap (λ (x : PrefixValue × ℕ). x.1) (eq_is announcement_total exact_announcement (prefix, a) e.0 t) in
        ap (λ (b : Bool). is_some (cond b (Some tt) (fin.find nat_cmp a (by_as es)))) (eq_same nat_cmp_total exact_unsigned a e.0.1 same)
    by false t rest h = later (eq_by_cmp nat_cmp a e.0.1) (rest h)

-- the announcers are those who announce a prefix
pub announcers_listed : (plan : Plan) → ListsRising nat_cmp (IsAnnouncer plan) (announcers_of plan)
announcers_listed plan = listed_as nat_cmp (λ a. IsTrue (fin.contains_key (announcing_set plan) a)) (IsAnnouncer plan) (announcers_of plan) there back (keys_listed nat_cmp_total exact_unsigned (announcing_set plan))
  where
    there : (a : ℕ) → IsTrue (fin.contains_key (announcing_set plan) a) → IsAnnouncer plan a
    there a h = let r = find_of_as a (fin.entries plan.announced) (sym (ap is_some (get-announcing_set plan a)) ∙ h) in record { prefix = r.0; path = r.1; announced = fin.get-entries plan.announced (r.0, a) ∙ r.2 }

    back : (a : ℕ) → IsAnnouncer plan a → IsTrue (fin.contains_key (announcing_set plan) a)
    back a h = ap is_some (get-announcing_set plan a) ∙ as_of_find h.prefix a h.path (fin.entries plan.announced) (sym (fin.get-entries plan.announced (h.prefix, a)) ∙ h.announced)

pub then_tied : (o p : Ordering) → is_eq (ordering_then o p) ≡ (is_eq o && is_eq p)
then_tied Less p = refl
then_tied Equal p = refl
then_tied Greater p = refl

head_tied : (r a : ℕ) (x : ℕ × ℕ) → eq_by_cmp pair_cmp (r, a) x ≡ ((x.0 == r) && eq_by_cmp nat_cmp a x.1)
head_tied r a x = then_tied (nat_cmp r x.0) (nat_cmp a x.1) ∙ ap (λ b. b && eq_by_cmp nat_cmp a x.1) (unsigned_tied r x.0 ∙ nat_eq_equiv.symm r x.0)

any_in_round : (r a : ℕ) (xs : List (ℕ × ℕ)) → list_any (eq_by_cmp nat_cmp a) (in_round r xs) ≡ list_any (eq_by_cmp pair_cmp (r, a)) xs
any_in_round r a [] = refl
any_in_round r a (x ∷ xs) = by (x.0 == r) (any_in_round r a xs) ∙ ap (λ b. b || list_any (eq_by_cmp pair_cmp (r, a)) xs) (sym (head_tied r a x))
  where
    by : (b : Bool) → list_any (eq_by_cmp nat_cmp a) (in_round r xs) ≡ list_any (eq_by_cmp pair_cmp (r, a)) xs
        → list_any (eq_by_cmp nat_cmp a) (map (λ y. y.1) (cond b (x ∷ filter (λ y. y.0 == r) xs) (filter (λ y. y.0 == r) xs))) ≡ ((b && eq_by_cmp nat_cmp a x.1) || list_any (eq_by_cmp pair_cmp (r, a)) xs)
    by true rest = ap (λ b. eq_by_cmp nat_cmp a x.1 || b) rest
    by false rest = rest

second_less : (x y : ℕ × ℕ) → x.0 ≡ y.0 → T (is_lt (pair_cmp x y)) → T (is_lt (nat_cmp x.1 y.1))
second_less x y e h = subst (λ (o : Ordering). T (is_lt (ordering_then o (nat_cmp x.1 y.1)))) (sym (nat_cmp_is x.0 y.0 Equal e)) h

below_in_round : (r : ℕ) (x : ℕ × ℕ) (xs : List (ℕ × ℕ)) → x.0 ≡ r → T (fin.Entries.below_all pair_cmp x (marks xs)) → T (fin.Entries.below_all nat_cmp x.1 (marks (in_round r xs)))
below_in_round r x [] e h = tt
below_in_round r x (y ∷ xs) e h = by (y.0 == r) refl (below_in_round r x xs e (right _ _ h))
  where
    by : (b : Bool) → (y.0 == r) ≡ b → T (fin.Entries.below_all nat_cmp x.1 (marks (in_round r xs)))
        → T (fin.Entries.below_all nat_cmp x.1 (marks (map (λ z. z.1) (cond b (y ∷ filter (λ z. z.0 == r) xs) (filter (λ z. z.0 == r) xs)))))
    by true t rest = both _ _ (second_less x y (e ∙ sym (eqb-true y.0 r t)) (left _ _ h)) rest
    by false t rest = rest

rising_in_round : (r : ℕ) (xs : List (ℕ × ℕ)) → IsRising pair_cmp xs → IsRising nat_cmp (in_round r xs)
rising_in_round r [] h = tt
rising_in_round r (x ∷ xs) h = by (x.0 == r) refl (rising_in_round r xs (right _ _ h))
  where
    by : (b : Bool) → (x.0 == r) ≡ b → IsRising nat_cmp (in_round r xs) → IsRising nat_cmp (map (λ z. z.1) (cond b (x ∷ filter (λ z. z.0 == r) xs) (filter (λ z. z.0 == r) xs)))
    by true t rest = both _ _ (below_in_round r x xs (eqb-true x.0 r t) (left _ _ h)) rest
    by false t rest = rest

marks_of_keys : {K : Type 0} (es : List (K × Unit {0})) → marks (map (λ e. e.0) es) ≡ es
marks_of_keys [] = refl
marks_of_keys (e ∷ es) = ap (λ l. e ∷ l) (marks_of_keys es)

-- the leakers of a round are those who leak in it
pub leakers_listed : (plan : Plan) (round : ℕ) → ListsRising nat_cmp (λ a. IsTrue (leaks_in plan round a)) (leakers_of plan round)
leakers_listed plan round =
    let xs = fin.keys plan.leakers in
    let rises : IsRising nat_cmp (leakers_of plan round) = rising_in_round round xs (subst (λ es. T (fin.is_sorted pair_cmp es)) (sym (marks_of_keys (fin.entries plan.leakers))) (fin.entries_sorted plan.leakers)) in
    let keys = keys_set_of nat_cmp (leakers_of plan round) rises in
    let same : (a : ℕ) → fin.contains_key (set_of nat_cmp (leakers_of plan round)) a ≡ leaks_in plan round a = λ a.
    fin.contains_key-keys (set_of nat_cmp (leakers_of plan round)) a ∙ ap (list_any (eq_by_cmp nat_cmp a)) keys ∙ any_in_round round a xs ∙ sym (fin.contains_key-keys plan.leakers (round, a)) in
    listed_as nat_cmp (λ a. IsTrue (fin.contains_key (set_of nat_cmp (leakers_of plan round)) a)) (λ a. IsTrue (leaks_in plan round a)) (leakers_of plan round) (λ a h. sym (same a) ∙ h) (λ a h. same a ∙ h)
    (subst (λ (ys : List ℕ). ListsRising nat_cmp (λ a. IsTrue (fin.contains_key (set_of nat_cmp (leakers_of plan round)) a)) ys) keys (keys_listed nat_cmp_total exact_unsigned (set_of nat_cmp (leakers_of plan round))))

first_rises : (x y : ℕ × ℕ) → T (is_lt (pair_cmp x y)) → x.0 ≤ y.0
first_rises x y h = by (nat_cmp x.0 y.0) refl h
  where
    by : (o : Ordering) → nat_cmp x.0 y.0 ≡ o → T (is_lt (ordering_then o (nat_cmp x.1 y.1))) → x.0 ≤ y.0
    by Less e h = let p : x.0 < y.0 = ranked x.0 y.0 Less (sym e) in omega (arith, p)
    by Equal e h = let p : x.0 ≡ y.0 = ranked x.0 y.0 Equal (sym e) in omega (arith, p)
    by Greater e h = absurd h

-- those who leak in the round occur among its leakers, and nobody else
pub occurs_in_round : (plan : Plan) (round a : ℕ) → occurs a (leakers_of plan round) ≡ leaks_in plan round a
occurs_in_round plan round a =
    let xs = leakers_of plan round in
    ap (occurs a) (sym (take-length xs)) ∙ occurs-listed (leaks_in plan round) xs (leakers_listed plan round) (length xs) (slice_get_past xs (length xs) (omega arith)) a

-- the rounds do not fall
rounds_rise : (xs : List (ℕ × ℕ)) → IsRising pair_cmp xs → IsNonDecreasingBy (λ (y : ℕ × ℕ). y.0) xs
rounds_rise xs h i j d le within = elim (cases_lt i j) [
  | inl lt ↦ first_rises (get_or xs i d) (get_or xs j d) (subst (λ (o : Ordering). T (is_lt o)) (sym (below_later pairs_total exact_pair xs h i j d lt within)) tt)
  | inr ge ↦ (let same : i ≡ j = omega (arith, le, ge) in subst (λ (k : ℕ). (get_or xs i d).0 ≤ (get_or xs k d).0) same (omega arith))
]

pub earlier_first : (r : ℕ) (xs : List (ℕ × ℕ)) → IsRising pair_cmp xs → IsPartitionedBy (λ (y : ℕ × ℕ). ltb y.0 r) xs
earlier_first r xs h = IsPartitionedBy-ltb (λ (y : ℕ × ℕ). y.0) xs r (rounds_rise xs h)

pub later_last : (r : ℕ) (xs : List (ℕ × ℕ)) → IsRising pair_cmp xs → IsPartitionedBy (λ (y : ℕ × ℕ). leb y.0 r) xs
later_last r xs h = IsPartitionedBy-leb (λ (y : ℕ × ℕ). y.0) xs r (rounds_rise xs h)

-- the leakers of a round stand between those of earlier and those of later rounds
module _ (r : ℕ) where
  abbrev Begins : List (ℕ × ℕ) → ℕ → Type 0
  Begins = IsPartitionPoint (λ (y : ℕ × ℕ). ltb y.0 r ≡ true) (λ (y : ℕ × ℕ). ltb y.0 r ≡ false)

  abbrev Ends : List (ℕ × ℕ) → ℕ → Type 0
  Ends = IsPartitionPoint (λ (y : ℕ × ℕ). leb y.0 r ≡ true) (λ (y : ℕ × ℕ). leb y.0 r ≡ false)

  nothing : (m n : ℕ) → ◌≡◌ {A = List (ℕ × ℕ)} (take m (drop n [])) []
  nothing zero zero = refl
  nothing zero (suc n) = refl
  nothing (suc m) zero = refl
  nothing (suc m) (suc n) = refl

  rest : (x : ℕ × ℕ) (xs : List (ℕ × ℕ)) (P Q : ℕ × ℕ → Type 0) (i : ℕ) → IsPartitionPoint P Q (x ∷ xs) (suc i) → IsPartitionPoint P Q xs i
  rest x xs P Q i h = (λ k d from lt. h.0 (suc k) d (omega arith) (omega (arith, lt)), λ k d le within. h.1 (suc k) d (omega (arith, le)) (omega (arith, within)))

  all_after : (x : ℕ × ℕ) (xs : List (ℕ × ℕ)) (P Q : ℕ × ℕ → Type 0) → IsPartitionPoint P Q (x ∷ xs) 0 → IsPartitionPoint P Q xs 0
  all_after x xs P Q h = (λ k d from lt. absurd (omega (arith, lt)), λ k d le within. h.1 (suc k) d (omega arith) (omega (arith, within)))

  pub begins_before : (xs : List (ℕ × ℕ)) (first end : ℕ) → first ≤ length xs → Begins xs first → Ends xs end → first ≤ end
  begins_before xs first end within b e = elim (cases_lt end first) [
    | inl lt ↦ absurd (
        let d : ℕ × ℕ = (0, 0) in
        let below : (get_or xs end d).0 < r = ltb-true (get_or xs end d).0 r (b.0 end d (omega arith) lt) in
        let above : r < (get_or xs end d).0 = leb-false (get_or xs end d).0 r (e.1 end d (omega arith) (omega (arith, lt, within))) in
        omega (arith, below, above)
        )
    | inr ge ↦ ge
  ]

  span : (xs : List (ℕ × ℕ)) (first end : ℕ) → Begins xs first → Ends xs end → take (end - first) (drop first xs) ≡ filter (λ x. x.0 == r) xs
  span [] first end b e = nothing (end - first) first
  span (x ∷ xs) (suc first) zero b e =
      let below : x.0 < r = ltb-true x.0 r (b.0 0 x (omega arith) (omega arith)) in
      let above : r < x.0 = leb-false x.0 r (e.1 0 x (omega arith) (omega arith)) in
      absurd (omega (arith, below, above))
  span (x ∷ xs) (suc first) (suc end) b e =
      let below : x.0 < r = ltb-true x.0 r (b.0 0 x (omega arith) (omega arith)) in
      let apart : (x.0 == r) ≡ false = ne_eqb x.0 r (λ (same : x.0 ≡ r). omega (arith, same, below)) in
      let less : suc end - suc first ≡ end - first = omega arith in
      ap (λ n. take n (drop first xs)) less
      ∙ span xs first end (rest x xs (λ (y : ℕ × ℕ). ltb y.0 r ≡ true) (λ (y : ℕ × ℕ). ltb y.0 r ≡ false) first b) (rest x xs (λ (y : ℕ × ℕ). leb y.0 r ≡ true) (λ (y : ℕ × ℕ). leb y.0 r ≡ false) end e)
      ∙ ap (λ b. cond b (x ∷ filter (λ z. z.0 == r) xs) (filter (λ z. z.0 == r) xs)) (sym apart)
  span (x ∷ xs) zero (suc end) b e =
      let from : r ≤ x.0 = ltb-false x.0 r (b.1 0 x (omega arith) (omega arith)) in
      let to : x.0 ≤ r = leb-true x.0 r (e.0 0 x (omega arith) (omega arith)) in
      let same : (x.0 == r) ≡ true = eq-eqb x.0 r (omega (arith, from, to)) in
      let all : suc end - 0 ≡ suc end = omega arith in
      let less : end ≡ end - 0 = omega arith in
      ap (λ n. take n (x ∷ xs)) all
      ∙ ap (λ l. x ∷ l) (ap (λ n. take n xs) less ∙ span xs zero end (all_after x xs (λ (y : ℕ × ℕ). ltb y.0 r ≡ true) (λ (y : ℕ × ℕ). ltb y.0 r ≡ false) b) (rest x xs (λ (y : ℕ × ℕ). leb y.0 r ≡ true) (λ (y : ℕ × ℕ). leb y.0 r ≡ false) end e))
      ∙ ap (λ b. cond b (x ∷ filter (λ z. z.0 == r) xs) (filter (λ z. z.0 == r) xs)) (sym same)
  span (x ∷ xs) zero zero b e =
      let above : r < x.0 = leb-false x.0 r (e.1 0 x (omega arith) (omega arith)) in
      let apart : (x.0 == r) ≡ false = ne_eqb x.0 r (λ (same : x.0 ≡ r). omega (arith, same, above)) in
      span xs zero zero (all_after x xs (λ (y : ℕ × ℕ). ltb y.0 r ≡ true) (λ (y : ℕ × ℕ). ltb y.0 r ≡ false) b) (all_after x xs (λ (y : ℕ × ℕ). leb y.0 r ≡ true) (λ (y : ℕ × ℕ). leb y.0 r ≡ false) e)
      ∙ ap (λ b. cond b (x ∷ filter (λ z. z.0 == r) xs) (filter (λ z. z.0 == r) xs)) (sym apart)

  -- the ASes from the one place to the other are those of the round
  pub in_round_span : (xs : List (ℕ × ℕ)) (first end : ℕ) → Begins xs first → Ends xs end → take (end - first) (drop first (map (λ x. x.1) xs)) ≡ in_round r xs
  in_round_span xs first end b e =
      ap (take (end - first)) (drop-map (λ (x : ℕ × ℕ). x.1) first xs) ∙ take-map (λ (x : ℕ × ℕ). x.1) (end - first) (drop first xs) ∙ ap (map (λ x. x.1)) (span xs first end b e)
