-- Which provider cycles a new provider link closes.
use Rattle.std.proofs.Common.{◌≡◌, ◌≢◌, ◌⊎◌, inl, inr, ℕ, ◌≤◌, Bool, true, false, Option, None, Some, option_map, List, [], ◌∷◌, ◌++◌, length, sym, ◌∙◌, ap, subst, arith, get_or}
use Rattle.std.proofs.lemmas.Bool.{cases_Bool, cases_eq, true≢false}
use Rattle.net_names.specs.declared.routes.Rel.{Rel}
use Rattle.net_names.specs.declared.routes.Rel.TheVariants.{Customer, Provider}
use Rattle.net_names.specs.Links.{converse}
use Rattle.net_names.specs.Numbers.{last_or}
use Rattle.as_graph.specs.Topology.{Topology}
use Rattle.as_graph.specs.Edits.{with_link}
use Rattle.as_graph.specs.Hierarchy.{IsDescent, IsProviderCycle, HasNoProviderCycle}
use Rattle.as_graph.proofs.Told.{IsCycleTold, cycle_told, cycle_from}
use Rattle.as_graph.proofs.EditsLemmas.{links_are_set_lem, links_are_sound_lem}
use Rattle.as_graph.proofs.TakenLinks.{links_are_taken_lem}
use Rattle.cycle_check.specs.Cycles.{IsClosedBy, with_provider, without_pair}
use Rattle.cycle_check.specs.Searches.{IsWayTo}
use Rattle.cycle_check.proofs.Descents.{last_or_push}
use Rattle.cycle_check.proofs.Turning.{turns}

module _ (g : Topology) (p c : ℕ) (differ : p ≢ c) where
  -- the new link
  new_link : with_provider g p c p c ≡ Some Customer
  new_link = links_are_set_lem.at g p c Customer differ

  back_link : with_provider g p c c p ≡ Some Provider
  back_link = links_are_sound_lem.alike (with_link g p c Customer) p c ∙ ap (option_map converse) new_link

  same_link : (x y : ℕ) → ((x ≡ p) × (y ≡ c) → ⊥) → ((x ≡ c) × (y ≡ p) → ⊥) → with_provider g p c x y ≡ without_pair g p c x y
  same_link x y straight turned = links_are_set_lem.others g p c Customer x y differ straight turned ∙ sym (links_are_taken_lem.others g p c x y straight turned)

  -- whether x and y are the pair
  abbrev ByPair : ℕ → ℕ → Type 0
  ByPair x y = ((x ≡ p) × (y ≡ c)) ⊎ (((x ≡ c) × (y ≡ p)) ⊎ (((x ≡ p) × (y ≡ c) → ⊥) × ((x ≡ c) × (y ≡ p) → ⊥)))

  by_pair : (x y : ℕ) → ByPair x y
  by_pair x y = elim (cases_eq x p) [
    | inl xp ↦ elim (cases_eq y c) [
      | inl yc ↦ inl (xp, yc)
      | inr nyc ↦ inr (inr (λ e. nyc e.1, λ e. differ (sym xp ∙ e.0)))
    ]
    | inr nxp ↦ elim (cases_eq x c) [
      | inl xc ↦ elim (cases_eq y p) [
        | inl yp ↦ inr (inl (xc, yp))
        | inr nyp ↦ inr (inr (λ e. nxp e.0, λ e. nyp e.1))
      ]
      | inr nxc ↦ inr (inr (λ e. nxp e.0, λ e. nxc e.0))
    ]
  ]

  no_some : (o : Option Rel) (r : Rel) → o ≡ None → o ≡ Some r → ⊥
  no_some o r e f = none_some (sym e ∙ f)
    where
      none_some : None ≡ Some r → ⊥
      none_some e = cc

  -- a link of the others is there with the new one too
  pub more_links : (x y : ℕ) → without_pair g p c x y ≡ Some Customer → with_provider g p c x y ≡ Some Customer
  more_links x y h = by (by_pair x y)
    where
      by : ByPair x y → with_provider g p c x y ≡ Some Customer
      by (inl e) = absurd (no_some _ Customer (links_are_taken_lem.at g p c) ((λ i. without_pair g p c (sym e.0 i) (sym e.1 i)) ∙ h))
      by (inr (inl e)) = absurd (no_some _ Customer (links_are_taken_lem.back g p c) ((λ i. without_pair g p c (sym e.0 i) (sym e.1 i)) ∙ h))
      by (inr (inr n)) = same_link x y n.0 n.1 ∙ h

  -- and each but the new one was there
  fewer_links : (x y : ℕ) → ((x ≡ p) × (y ≡ c) → ⊥) → with_provider g p c x y ≡ Some Customer → without_pair g p c x y ≡ Some Customer
  fewer_links x y other h = by (by_pair x y)
    where
      up_down : Some Provider ≡ Some Customer → ⊥
      up_down e = cc

      by : ByPair x y → without_pair g p c x y ≡ Some Customer
      by (inl e) = absurd (other e)
      by (inr (inl e)) = absurd (up_down (sym back_link ∙ (λ i. with_provider g p c (sym e.0 i) (sym e.1 i)) ∙ h))
      by (inr (inr n)) = sym (same_link x y n.0 n.1) ∙ h

  -- ---- no cycle

  module _ (inside : ℕ → Bool) (in_c : inside c ≡ true) (out_p : inside p ≡ false) (closed : (a b : ℕ) → without_pair g p c a b ≡ Some Customer → inside a ≡ true → inside b ≡ true) where
    from_inside : (a b : ℕ) → with_provider g p c a b ≡ Some Customer → inside a ≡ true → without_pair g p c a b ≡ Some Customer
    from_inside a b h i = fewer_links a b (λ e. true≢false (sym i ∙ ap inside e.0 ∙ out_p)) h

    to_outside : (a b : ℕ) → with_provider g p c a b ≡ Some Customer → inside b ≡ false → without_pair g p c a b ≡ Some Customer
    to_outside a b h o = fewer_links a b (λ e. true≢false (sym in_c ∙ ap inside (sym e.1) ∙ o)) h

    spread : (a : ℕ) (xs : List ℕ) → IsDescent (with_provider g p c) (a ∷ xs) → inside a ≡ true → IsDescent (without_pair g p c) (a ∷ xs) × (inside (last_or a xs) ≡ true)
    spread a [] h i = (tt, i)
    spread a (b ∷ xs) h i =
        let link = from_inside a b h.0 i in
        let rest = spread b xs h.1 (closed a b link i) in
        ((link, rest.0), rest.1)

    stays_out : (a : ℕ) (xs : List ℕ) → IsDescent (with_provider g p c) (a ∷ xs) → inside (last_or a xs) ≡ false → IsDescent (without_pair g p c) (a ∷ xs)
    stays_out a [] h o = tt
    stays_out a (b ∷ xs) h o = elim (cases_Bool (inside b)) [
      | inl i ↦ absurd (true≢false (sym (spread b xs h.1 i).1 ∙ o))
      | inr ob ↦ (to_outside a b h.0 ob, stays_out b xs h.1 o)
    ]

    same_cycle : (xs : List ℕ) → IsCycleTold (with_provider g p c) xs → IsCycleTold (without_pair g p c) xs
    same_cycle [] h = let two : 2 ≤ 0 = h.two in absurd (omega arith)
    same_cycle (a ∷ xs) h = elim (cases_Bool (inside a)) [
      | inl i ↦
          let rest = spread a xs h.descends i in
          record { two = h.two; distinct = h.distinct; descends = rest.0; closes = from_inside (last_or a xs) a h.closes rest.1 }
      | inr o ↦ elim (cases_Bool (inside (last_or a xs))) [
        | inl i ↦
            let link = from_inside (last_or a xs) a h.closes i in
            absurd (true≢false (sym (closed (last_or a xs) a link i) ∙ o))
        | inr last ↦ record { two = h.two; distinct = h.distinct; descends = stays_out a xs h.descends last; closes = to_outside (last_or a xs) a h.closes o }
      ]
    ]

    -- a set of ASes with the customer and without the provider, and with all customers of its own, keeps the new link from closing a cycle
    pub none_closed : HasNoProviderCycle (without_pair g p c) → HasNoProviderCycle (with_provider g p c)
    none_closed none xs h = none xs (cycle_from (without_pair g p c) xs (same_cycle xs (cycle_told (with_provider g p c) xs h)))

  -- ---- a cycle

  descent_more : (xs : List ℕ) → IsDescent (without_pair g p c) xs → IsDescent (with_provider g p c) xs
  descent_more [] h = tt
  descent_more (a ∷ []) h = tt
  descent_more (a ∷ b ∷ xs) h = (more_links a b h.0, descent_more (b ∷ xs) h.1)

  at_least_two : (xs : List ℕ) → get_or xs 0 0 ≡ c → last_or 0 xs ≡ p → 2 ≤ length xs
  at_least_two [] e f = absurd (differ (sym f ∙ e))
  at_least_two (x ∷ []) e f = absurd (differ (sym f ∙ e))
  at_least_two (x ∷ y ∷ xs) e f = omega arith

  pub way_length : (xs : List ℕ) → IsWayTo (without_pair g p c) c p xs → 2 ≤ length xs
  way_length xs h = at_least_two xs h.first h.last

  way_cycle : (xs : List ℕ) → IsWayTo (without_pair g p c) c p xs → IsProviderCycle (with_provider g p c) xs
  way_cycle xs h = cycle_from (with_provider g p c) xs (record {
    two = at_least_two xs h.first h.last;
    distinct = h.distinct;
    descends = descent_more xs h.descends;
    closes = (λ i. with_provider g p c (h.last i) (h.first i)) ∙ new_link;
  })

  begins_so : (ys : List ℕ) → get_or (ys ++ p ∷ []) 0 0 ≡ c → (rest : List ℕ) × (p ∷ ys ≡ p ∷ c ∷ rest)
  begins_so [] e = absurd (differ e)
  begins_so (y ∷ ys) e = (ys, ap (λ t. p ∷ t ∷ ys) e)

  -- a way down from the customer to the provider, told from the provider on
  pub way_closes : (xs ys : List ℕ) (last : ℕ) → xs ≡ ys ++ last ∷ [] → IsWayTo (without_pair g p c) c p xs → IsClosedBy g p c (p ∷ ys)
  way_closes xs ys last is h =
      let same : last ≡ p = sym (last_or_push 0 ys last) ∙ ap (last_or 0) (sym is) ∙ h.last in
      let all : xs ≡ ys ++ p ∷ [] = is ∙ ap (λ t. ys ++ t ∷ []) same in
      record {
        cycle = turns (with_provider g p c) ys (p ∷ []) (subst (IsProviderCycle (with_provider g p c)) all (way_cycle xs h));
        begins = begins_so ys (ap (λ (ys : List ℕ). get_or ys 0 0) (sym all) ∙ h.first);
      }
