-- A tree that grows upwards.
use Rattle.std.proofs.Common.{◌≡◌, ◌≢◌, ◌<◌, ◌+◌, ℕ, true, inl, inr, Option, Some, None, length, option_map, slice_get, slice_index, take, refl, sym, ◌∙◌, ap, subst, arith}
use Rattle.std.proofs.lemmas.Bool.{cases_Bool, cases_eq}
use Rattle.as_graph.specs.Topology.{relation}
use Rattle.net_names.specs.Numbers.{occurs}
use Rattle.net_names.specs.declared.routes.Rel.{Rel}
use Rattle.net_names.specs.declared.routes.Rel.TheVariants.{Customer, Provider}
use Rattle.policy_laws.specs.Policy.{Policy, is_own_or_customers}
use Rattle.policy_laws.specs.declared.policy.View.{View}
use Rattle.stability_laws.specs.declared.entry.Entry.{Entry}
use Rattle.stability_laws.specs.declared.entry.Seed.{Seed}
use Rattle.stability_laws.specs.Entries.{class_of, seed_entry}
use Rattle.stability_laws.specs.Laws.{customer_offer, if_customer}
use Rattle.stability_laws.specs.Offers.{Offer, offer}
use Rattle.stability_laws.specs.Stable.{IsRightGiven}
use Rattle.stability_laws.specs.Steps.{IsStepUp, low}
use Rattle.stability_laws.proofs.Passes.{customer_made, up_is_low}
use Rattle.route_choice.specs.declared.choice.Part.TheVariants.{Up}
use Rattle.three_pass.proofs.InOrder.{loops_upwards, up_more}
use Rattle.routing_tree.specs.declared.choosing.Best.{Best}
use Rattle.routing_tree.specs.declared.tree.Placed.{Placed}
use Rattle.routing_tree.specs.declared.tree.RoutingTree.{RoutingTree}
use Rattle.routing_tree.specs.Cases.{Case, IsCaseOf, IsUpTo, setting_of}
use Rattle.routing_tree.specs.Chosen.{IsChosen, IsFirst, LooksUpAt, seen_at, state_at}
use Rattle.routing_tree.specs.Links.{list_at}
use Rattle.routing_tree.specs.Puts.{AreSameAt, IsPut}
use Rattle.routing_tree.specs.Trees.{HasPlaces, IsHeldAt, IsLowAt, IsNode, ParentsComeFirst}
use Rattle.routing_tree.proofs.Cases.{announcers_named, begin_more, hands_all, is_announcer, low_class, no_loops_at, ranked, with_entry, with_here, with_others}
use Rattle.routing_tree.proofs.Givers.{offer_begins, offer_seen, offer_taken, seen_made}
use Rattle.routing_tree.proofs.Offered.{AreSeen, best_offered, made_of, none_offered}
use Rattle.routing_tree.proofs.Parents.{first_still, held_still}
use Rattle.routing_tree.proofs.Places.{all_occurring, apart, customer_lower, stands}

module _ {P : Type 0} {meaning : P → Policy} {c : Case} {p : Placed P} (is : IsCaseOf meaning c p) (i : ℕ) (t : RoutingTree) (within : i < length p.ases.now) (so : IsUpTo c p.ases.now i t) where
  abbrev here : ℕ
  here = slice_index p.ases.now i

  -- the offers that the AS at the place gets of its customers
  abbrev offers : ℕ → Option Offer
  offers n = customer_offer (setting_of c) so.routing n here

  -- the next place has what the AS there is right with
  up_next : (u : RoutingTree) (h : Option Entry) → IsRightGiven (c.policy here) (c.seeds here) offers h → ((e : Entry) → h ≡ Some e → slice_get e.path 0 ≡ Some here) → IsHeldAt c.state p.ases.now u i h →
      ((k : ℕ) → k ≢ i → AreSameAt t u k) → HasPlaces (length p.ases.now) u → ParentsComeFirst u (length p.ases.now) → IsUpTo c p.ases.now (i + 1) u
  up_next u h right begins held others places order = record {
    routing = with_entry so.routing here h;
    so_far = up_more (ranked is) c.seeds i here so.routing (with_entry so.routing here h) (stands (ranked is) i within) step so.so_far;
    begins = begin_more so.routing here h begins so.begins;
    places = places;
    visited = λ k less. elim (cases_eq k i) [
      | inl same ↦ subst (λ m. IsHeldAt c.state p.ases.now u m (with_entry so.routing here h (slice_index p.ases.now m))) (sym same) (subst (IsHeldAt c.state p.ases.now u i) (sym (with_here so.routing here h)) held)
      | inr other ↦ subst (IsHeldAt c.state p.ases.now u k) (sym (with_others so.routing here h (slice_index p.ases.now k) (apart p.ases.now k i (ranked is).order.apart (omega (arith, less, within)) within other)))
          (held_still c.state p.ases.now t u k (so.routing (slice_index p.ases.now k)) (others k other) (so.visited k (omega (arith, less, other))))
    ];
    ahead = λ k from less. held_still c.state p.ases.now t u k (option_map seed_entry (c.seeds (slice_index p.ases.now k))) (others k (λ same. omega (arith, from, same))) (so.ahead k (omega (arith, from)) less);
    order = order;
  }
    where
      step : IsStepUp (setting_of c) c.seeds so.routing here (with_entry so.routing here h)
      step = record { others = with_others so.routing here h; right = subst (IsRightGiven (c.policy here) (c.seeds here) offers) (sym (with_here so.routing here h)) right }

  same_tree : (k : ℕ) → k ≢ i → AreSameAt t t k
  same_tree k other = record { lengths = refl; lows = refl; states = refl; parents = refl }

  -- an announced path begins with the announcer
  seed_begins : (s : Seed) → c.seeds here ≡ Some s → (e : Entry) → ◌≡◌ {A = Option Entry} (Some (seed_entry s)) (Some e) → slice_get e.path 0 ≡ Some here
  seed_begins s at e both = (let same : seed_entry s ≡ e = cc in ap (λ (d : Entry). slice_get d.path 0) (sym same) ∙ ap (λ (d : Seed). slice_get d.path 0) (is.alone here s at))

  -- an announcer keeps its own route
  pub up_seeded : slice_index t.lengths.items i ≢ 0 → IsUpTo c p.ases.now (i + 1) t
  up_seeded some = by (c.seeds here) refl (so.ahead i (omega arith) within)
    where
      by : (s : Option Seed) → c.seeds here ≡ s → IsHeldAt c.state p.ases.now t i (option_map seed_entry s) → IsUpTo c p.ases.now (i + 1) t
      by None at none = absurd (some none)
      by (Some s) at held =
          up_next t (Some (seed_entry s)) (subst (λ (o : Option Seed). IsRightGiven (c.policy here) o offers (Some (seed_entry s))) (sym at) refl) (seed_begins s at) held same_tree so.places so.order

  module _ (none : slice_index t.lengths.items i ≡ 0) where
    -- who holds nothing yet announces nothing
    unseeded : c.seeds here ≡ None
    unseeded = by (c.seeds here) refl (so.ahead i (omega arith) within)
      where
        by : (s : Option Seed) → c.seeds here ≡ s → IsHeldAt c.state p.ases.now t i (option_map seed_entry s) → c.seeds here ≡ None
        by None at held = at
        by (Some s) at held = absurd (omega (arith, none, held.length_is, held.some))

    right_with : (h : Option Entry) → IsRightGiven (c.policy here) None offers h → IsRightGiven (c.policy here) (c.seeds here) offers h
    right_with h right = subst (λ (s : Option Seed). IsRightGiven (c.policy here) s offers h) (sym unseeded) right

    -- upwards all that is held is of class Origin or Customer
    low_is : (n : ℕ) → low (so.routing n) ≡ so.routing n
    low_is n = elim (cases_Bool (occurs n (take i p.ases.now))) [
      | inl there ↦ up_is_low (setting_of c) is.placed.lawful (c.seeds n) so.routing n (so.routing n) (so.so_far.right n there)
      | inr away ↦ ap low (so.so_far.rest n away) ∙ sym (so.so_far.rest n away)
    ]

    -- a customer's place
    customer_at : (j : ℕ) → occurs j (list_at p.links.now.customers i) ≡ true → (j < length p.ases.now) × (relation c.graph here (slice_index p.ases.now j) ≡ Some Customer)
    customer_at j there = all_occurring (λ k. (k < length p.ases.now) × (relation c.graph here (slice_index p.ases.now k) ≡ Some Customer)) (list_at p.links.now.customers i) j (is.placed.links.customers i within).each there

    held_lower : (j : ℕ) → j < length p.ases.now → relation c.graph here (slice_index p.ases.now j) ≡ Some Customer → IsHeldAt c.state p.ases.now t j (so.routing (slice_index p.ases.now j))
    held_lower j less linked = so.visited j (customer_lower (ranked is) i j within less linked)

    own_class : (n : ℕ) (e : Entry) → so.routing n ≡ Some e → is_own_or_customers e.class ≡ true
    own_class n e held = low_class e (ap low (sym held) ∙ low_is n ∙ held)

    are_seen : AreSeen (c.policy here) p.ases.now t (LooksUpAt p.links.now i) offers
    are_seen = record { made = made; found = found }
      where
        made : (r : Rel) (j : ℕ) (v : View) → LooksUpAt p.links.now i r j → seen_at p.ases.now t r j ≡ Some v → (c.policy here).accepts v ≡ true → (o : Offer) × (offers (slice_index p.ases.now j) ≡ Some o) × (o.view ≡ v)
        made r j v looks seen accepted =
            let (less, linked) = customer_at j looks.1 in
            let n = slice_index p.ases.now j in
            let (o, offered, same) = seen_made is so.routing i j t Customer v linked (held_lower j less linked) (λ e held node. (
              hands_all (c.policy n) (is.placed.plainly n) e Provider (own_class n e held),
              no_loops_at is Up so.routing here unseeded (loops_upwards (ranked is) c.seeds (is_announcer c.seeds) (announcers_named is) (take i p.ases.now) so.routing so.so_far here) n Customer e linked refl held (hands_all (c.policy n) (is.placed.plainly n) e Provider (own_class n e held)),
            )) (sym (ap (λ x. seen_at p.ases.now t x j) looks.0) ∙ seen) accepted in
            (o, ap (λ x. if_customer x (offer (setting_of c) so.routing n here)) linked ∙ offered, same)

        found : (n : ℕ) (o : Offer) → offers n ≡ Some o → (r : Rel) × (j : ℕ) × LooksUpAt p.links.now i r j × (slice_index p.ases.now j ≡ n) × (seen_at p.ases.now t r j ≡ Some o.view) × ((c.policy here).accepts o.view ≡ true)
        found n o offered =
            let (linked, by_link) = customer_made (setting_of c) is.placed.lawful so.routing n here o offered in
            let m = made_of (c.policy n) (c.policy here) c.state n here (relation c.graph here n) (so.routing n) o by_link in
            let (j, less, at, there) = (is.placed.links.customers i within).complete n linked in
            let both : Some m.from ≡ Some Customer = sym m.linked ∙ linked in
            let customer : m.from ≡ Customer = cc in
            (m.from, j, (customer, there), at, offer_seen is so.routing i j t n here o at (held_lower j less (ap (relation c.graph here) at ∙ linked)) m, m.accepted)

    -- an AS without an offer of a customer holds nothing
    pub up_nothing : IsChosen (c.policy here) p.ases.now t (LooksUpAt p.links.now i) None → IsUpTo c p.ases.now (i + 1) t
    up_nothing chosen = up_next t None (right_with None (none_offered (c.policy here) p.ases.now t (LooksUpAt p.links.now i) offers are_seen chosen)) (λ e z. cc) none same_tree so.places so.order

    -- else it takes the best one
    pub up_taken : (b : Best) → IsFirst (c.policy here) p.ases.now t (LooksUpAt p.links.now i) b → (u : RoutingTree) → IsPut t u i (slice_index t.lengths.items b.place + 1) true (state_at t b.place) b.place → HasPlaces (length p.ases.now) u → IsUpTo c p.ases.now (i + 1) u
    up_taken b first u put places =
        let n = slice_index p.ases.now b.place in
        let (o, best, same) = best_offered (c.policy here) p.ases.now t (LooksUpAt p.links.now i) offers are_seen b first in
        let (less, linked) = customer_at b.place first.looks.1 in
        let by_link = customer_made (setting_of c) is.placed.lawful so.routing n here o best.made in
        let m = made_of (c.policy n) (c.policy here) c.state n here (relation c.graph here n) (so.routing n) o by_link.1 in
        let both : Some m.from ≡ Some Customer = sym m.linked ∙ linked in
        let customer : m.from ≡ Customer = cc in
        let held = held_lower b.place less linked in
        let node : IsNode c.state p.ases.now t b.place m.entry = subst (λ h. IsHeldAt c.state p.ases.now t b.place h) m.holds held in
        let giver : IsLowAt t b.place = record { some = omega (arith, node.some, node.length_is); low = node.low ∙ ap Some (own_class n m.entry m.holds) } in
        up_next u (Some o.entry) (right_with (Some o.entry) (n, o, best, refl)) (offer_begins is so.routing i b.place t n here o m)
        (offer_taken is so.routing i b.place t so.begins u true o less held m (sym (ap (λ r. is_own_or_customers (class_of r)) customer)) put) put.others places
        (first_still t u i (slice_index t.lengths.items b.place + 1) true (state_at t b.place) b.place (length p.ases.now) put none (λ yes. (customer_lower (ranked is) i b.place within less linked, giver)) (λ no. cc) so.order)
