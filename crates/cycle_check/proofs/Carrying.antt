-- Ranks and cycles of places are those of ASes.
use Rattle.std.proofs.Common.{◌≡◌, inl, inr, ℕ, ◌<◌, ◌≤◌, true, cond, Option, Some, None, List, [], ◌∷◌, length, map, get_or, refl, sym, ◌∙◌, ap, subst, arith}
use Rattle.std.proofs.lemmas.Bool.{cases_Bool, cases_lt}
use Rattle.std.proofs.lemmas.List.{get_or_past, length-map}
use Rattle.std.proofs.lemmas.List.Kept.{AllPairs-from_increasing}
use Rattle.net_names.specs.Numbers.{occurs, IsDistinct, last_or}
use Rattle.net_names.specs.declared.routes.Rel.{Rel}
use Rattle.net_names.specs.declared.routes.Rel.TheVariants.{Customer}
use Rattle.as_graph.specs.Hierarchy.{RankFits, IsDescent, IsProviderCycle}
use Rattle.as_graph.proofs.Told.{cycle_told, cycle_from}
use Rattle.cycle_check.specs.Cycles.{IsCycleFromLowest}
use Rattle.cycle_check.specs.Rows.{count_of, row, relation, AreRows}
use Rattle.cycle_check.specs.Places.{place_in}
use Rattle.cycle_check.specs.Providers.{AreProviderRows, rank_by}
use Rattle.cycle_check.proofs.Listing.{occurs_cons, occurs_head, occurs_rest, occurs_get}
use Rattle.cycle_check.proofs.Places.{place_less, place_none, place_at, at_place}
use Rattle.cycle_check.proofs.Regions.{row_inside, row_within}

module _ (w : ℕ → ℕ → Option Rel) (ases starts items ranks : List ℕ) (region : AreRows starts items) (r : AreProviderRows w ases starts items) (each : length ranks ≡ count_of starts) (fits : (p : ℕ) → RankFits (relation starts items) (λ x. get_or ranks x 0) p) where
  linked_places : (a b : ℕ) → w a b ≡ Some Customer → relation starts items (place_in ases a) (place_in ases b) ≡ Some Customer
  linked_places a b linked =
      let there_a = r.above a b linked in
      let there_b = r.below a b linked in
      let same : w (get_or ases (place_in ases a) 0) (get_or ases (place_in ases b) 0) ≡ Some Customer =
      subst (λ x. w x (get_or ases (place_in ases b) 0) ≡ Some Customer) (sym (at_place ases a 0 there_a)) (subst (λ x. w a x ≡ Some Customer) (sym (at_place ases b 0 there_b)) linked) in
      ap (λ t. cond t (Some Customer) None) ((r.rows (place_in ases a) (place_in ases b) (place_less ases a there_a) (place_less ases b there_b)).0 same)

  place_linked : (p q : ℕ) → relation starts items p q ≡ Some Customer → occurs p (row starts items q) ≡ true
  place_linked p q e = elim (cases_Bool (occurs p (row starts items q))) [ inl o ↦ o | inr o ↦ (let none = ap (λ t. cond t (Some Customer) None) o in cc) ]

  pub carried : (a : ℕ) → RankFits w (rank_by ases ranks) a
  carried a = record {
    above = λ b linked. (fits (place_in ases a)).above (place_in ases b) (linked_places a b linked);
    reached = elim (cases_Bool (occurs a ases)) [
      | inl there ↦ (elim (fits (place_in ases a)).reached [
        | inl e ↦ inl e
        | inr (q, linked, e) ↦ (
            let o = place_linked (place_in ases a) q linked in
            let inside = row_inside starts items region (place_in ases a) q o in
            let less : q < length ases = omega (arith, inside, r.places) in
            let up : w (get_or ases (place_in ases a) 0) (get_or ases q 0) ≡ Some Customer = (r.rows (place_in ases a) q (place_less ases a there) less).1 o in
            let here : w a (get_or ases q 0) ≡ Some Customer = subst (λ x. w x (get_or ases q 0) ≡ Some Customer) (at_place ases a 0 there) up in
            let back : get_or ranks (place_in ases (get_or ases q 0)) 0 ≡ get_or ranks q 0 = ap (λ k. get_or ranks k 0) (place_at ases r.rising q less) in
            inr (get_or ases q 0, here, omega (arith, e, back)))
      ])
      | inr away ↦ inl (get_or_past ranks (place_in ases a) 0 (let last = place_none ases a away in omega (arith, last, each, r.places)))
    ];
  }

module _ (w : ℕ → ℕ → Option Rel) (ases starts items : List ℕ) (region : AreRows starts items) (r : AreProviderRows w ases starts items) where
  customer_row : (p q : ℕ) → relation starts items p q ≡ Some Customer → occurs p (row starts items q) ≡ true
  customer_row p q e = elim (cases_Bool (occurs p (row starts items q))) [ inl o ↦ o | inr o ↦ (let none = ap (λ t. cond t (Some Customer) None) o in cc) ]

  provider_inside : (p q : ℕ) → relation starts items p q ≡ Some Customer → p < length ases
  provider_inside p q e = let less = row_within starts items region p q (customer_row p q e) in omega (arith, less, r.places)

  carried_link : (p q : ℕ) → relation starts items p q ≡ Some Customer → w (get_or ases p 0) (get_or ases q 0) ≡ Some Customer
  carried_link p q e =
      let o = customer_row p q e in
      let less = row_inside starts items region p q o in
      (r.rows p q (provider_inside p q e) (omega (arith, less, r.places))).1 o

  carried_descent : (xs : List ℕ) → IsDescent (relation starts items) xs → IsDescent w (map (λ p. get_or ases p 0) xs)
  carried_descent [] d = tt
  carried_descent (x ∷ []) d = tt
  carried_descent (x ∷ y ∷ ys) d = (carried_link x y d.0, carried_descent (y ∷ ys) d.1)

  carried_last : (d : ℕ) (xs : List ℕ) → last_or (get_or ases d 0) (map (λ p. get_or ases p 0) xs) ≡ get_or ases (last_or d xs) 0
  carried_last d [] = refl
  carried_last d (x ∷ xs) = carried_last x xs

  -- each place of a descent whose last has a customer is a place
  all_inside : (x : ℕ) (xs : List ℕ) (c : ℕ) → IsDescent (relation starts items) (x ∷ xs) → relation starts items (last_or x xs) c ≡ Some Customer → (z : ℕ) → occurs z (x ∷ xs) ≡ true → z < length ases
  all_inside x [] c d e z o = elim (occurs_cons z x [] o) [
    | inl is ↦ subst (λ t. t < length ases) is (provider_inside x c e)
    | inr none ↦ cc
  ]
  all_inside x (y ∷ ys) c d e z o = elim (occurs_cons z x (y ∷ ys) o) [
    | inl is ↦ subst (λ t. t < length ases) is (provider_inside x y d.0)
    | inr there ↦ all_inside y ys c d.1 e z there
  ]

  occurs_map : (z : ℕ) (xs : List ℕ) → occurs z (map (λ p. get_or ases p 0) xs) ≡ true → (y : ℕ) × (occurs y xs ≡ true) × (get_or ases y 0 ≡ z)
  occurs_map z [] o = cc
  occurs_map z (x ∷ xs) o = elim (occurs_cons z (get_or ases x 0) (map (λ p. get_or ases p 0) xs) o) [
    | inl is ↦ (x, occurs_head x xs, is)
    | inr there ↦ (let (y, at, is) = occurs_map z xs there in (y, occurs_rest y x xs at, is))
  ]

  carried_distinct : (xs : List ℕ) → IsDistinct xs → ((z : ℕ) → occurs z xs ≡ true → z < length ases) → IsDistinct (map (λ p. get_or ases p 0) xs)
  carried_distinct [] d inside = tt
  carried_distinct (x ∷ xs) d inside = (
    elim (cases_Bool (occurs (get_or ases x 0) (map (λ p. get_or ases p 0) xs))) [
      | inl o ↦ (
          let (y, at, is) = occurs_map (get_or ases x 0) xs o in
          let same : y ≡ x = sym (place_at ases r.rising y (inside y (occurs_rest y x xs at))) ∙ ap (place_in ases) is ∙ place_at ases r.rising x (inside x (occurs_head x xs)) in
          let there : occurs x xs ≡ true = subst (λ t. occurs t xs ≡ true) same at in
          let away = d.0 in
          cc)
      | inr o ↦ o
    ],
    carried_distinct xs d.1 (λ z o. inside z (occurs_rest z x xs o)),
  )

  pub carried_cycle : (xs : List ℕ) → IsProviderCycle (relation starts items) xs → IsProviderCycle w (map (λ p. get_or ases p 0) xs)
  carried_cycle [] h = let two : 2 ≤ 0 = h.two in absurd (omega arith)
  carried_cycle (x ∷ xs) c =
      let h = cycle_told (relation starts items) (x ∷ xs) c in
      cycle_from w (map (λ p. get_or ases p 0) (x ∷ xs)) (record {
        two = omega (arith, h.two, length-map (x ∷ xs) (λ (p : ℕ). get_or ases p 0));
        distinct = carried_distinct (x ∷ xs) h.distinct (all_inside x xs x h.descends h.closes);
        descends = carried_descent (x ∷ xs) h.descends;
        closes = subst (λ t. w t (get_or ases x 0) ≡ Some Customer) (sym (carried_last x xs)) (carried_link (last_or x xs) x h.closes);
      })

  -- each place of a provider cycle is a place
  pub cycle_inside : (xs : List ℕ) → IsProviderCycle (relation starts items) xs → (k : ℕ) → k < length xs → get_or xs k 0 < length ases
  cycle_inside [] h k less = absurd (omega (arith, less))
  cycle_inside (x ∷ xs) c k less = let h = cycle_told (relation starts items) (x ∷ xs) c in all_inside x xs x h.descends h.closes (get_or (x ∷ xs) k 0) (occurs_get (x ∷ xs) k 0 less)

  -- places rise as their ASes do, so a cycle that begins with its lowest place begins with its lowest number
  pub carried_lowest : (xs : List ℕ) → IsCycleFromLowest (relation starts items) xs → IsCycleFromLowest w (map (λ p. get_or ases p 0) xs)
  carried_lowest [] h = let two : 2 ≤ 0 = h.cycle.two in absurd (omega arith)
  carried_lowest (x ∷ xs) h = record {
    cycle = carried_cycle (x ∷ xs) h.cycle;
    lowest = λ a o. (
        let (y, at, is) = occurs_map a (x ∷ xs) o in
        let low : x ≤ y = h.lowest y at in
        let inside : y < length ases = all_inside x xs x (cycle_told (relation starts items) (x ∷ xs) h.cycle).descends h.cycle.closes y at in
        elim (cases_lt x y) [
          | inl less ↦ (let rises : get_or ases x 0 < get_or ases y 0 = AllPairs-from_increasing ases r.rising x y 0 less inside in omega (arith, rises, is))
          | inr same ↦ (let own : get_or ases x 0 ≡ get_or ases y 0 = ap (λ k. get_or ases k 0) (omega (arith, low, same)) in omega (arith, own, is))
        ]);
  }
