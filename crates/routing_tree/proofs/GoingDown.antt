-- A tree that grows downwards.
use Rattle.std.proofs.Common.{◌≡◌, ◌≢◌, ◌<◌, ◌+◌, ◌⊎◌, ℕ, true, false, inl, inr, Option, Some, None, length, slice_get, slice_index, refl, sym, ◌∙◌, ap, subst, arith}
use Rattle.std.proofs.lemmas.Bool.{cases_eq}
use Rattle.as_graph.specs.Topology.{has, relation}
use Rattle.net_names.specs.Links.{converse}
use Rattle.net_names.specs.Numbers.{occurs}
use Rattle.net_names.specs.declared.routes.Rel.{Rel}
use Rattle.net_names.specs.declared.routes.Rel.TheVariants.{Customer, Peer, Provider}
use Rattle.policy_laws.specs.Policy.{Policy, is_own_or_customers}
use Rattle.policy_laws.specs.declared.policy.View.{View}
use Rattle.stability_laws.specs.declared.entry.Entry.{Entry}
use Rattle.stability_laws.specs.declared.entry.Seed.{Seed}
use Rattle.stability_laws.specs.Entries.{class_of, seed_entry}
use Rattle.stability_laws.specs.Laws.{customer_offer, if_customer}
use Rattle.stability_laws.specs.Offers.{Offer, offer}
use Rattle.stability_laws.specs.Stable.{IsRightGiven}
use Rattle.stability_laws.specs.Steps.{IsStepWhole, low, lows}
use Rattle.stability_laws.proofs.Passes.{low_offer}
use Rattle.route_choice.specs.declared.choice.Part.TheVariants.{Whole}
use Rattle.three_pass.proofs.ByRank.{is_listed, is_reached}
use Rattle.three_pass.proofs.InOrder.{down_more, loops_downwards}
use Rattle.three_pass.proofs.Settled.{settled}
use Rattle.routing_tree.specs.declared.choosing.Best.{Best}
use Rattle.routing_tree.specs.declared.tree.Placed.{Placed}
use Rattle.routing_tree.specs.declared.tree.RoutingTree.{RoutingTree}
use Rattle.routing_tree.specs.Cases.{Case, IsCaseOf, IsDownTo, setting_of}
use Rattle.routing_tree.specs.Chosen.{IsChosen, IsFirst, LooksDownAt, seen_at, state_at}
use Rattle.routing_tree.specs.Links.{list_at}
use Rattle.routing_tree.specs.Puts.{AreSameAt, IsPut}
use Rattle.routing_tree.specs.Trees.{HasPlaces, IsHeldAt, IsLowAt, IsNode, ParentsComeFirst}
use Rattle.routing_tree.proofs.Cases.{announcers_named, begin_more, hands_all, is_announcer, no_loops_at, ranked, with_entry, with_here, with_others}
use Rattle.routing_tree.proofs.Givers.{offer_begins, offer_seen, offer_taken, seen_made}
use Rattle.routing_tree.proofs.Offered.{AreSeen, IsMadeOf, best_offered, made_of, none_offered}
use Rattle.routing_tree.proofs.Parents.{first_still, held_still}
use Rattle.routing_tree.proofs.Places.{all_occurring, apart, provider_higher, stands}

module _ {P : Type 0} {meaning : P → Policy} {c : Case} {p : Placed P} (is : IsCaseOf meaning c p) (i : ℕ) (t : RoutingTree) (within : i < length p.ases.now) (so : IsDownTo c p.ases.now (i + 1) t) where
  abbrev here : ℕ
  here = slice_index p.ases.now i

  -- the offers that the AS at the place gets
  abbrev offers : ℕ → Option Offer
  offers n = offer (setting_of c) so.routing n here

  -- it is an AS
  here_is : has c.graph here ≡ true
  here_is = sym (is.placed.order.complete here) ∙ is_listed p.ases.now i here (stands (ranked is) i within)

  -- so far nothing but an own or a customer's route
  still : low (so.routing here) ≡ so.routing here
  still = so.so_far.still here (is_reached p.ases.now i here (stands (ranked is) i within))

  -- who holds something is right with it
  pub down_settled : slice_index t.lengths.items i ≢ 0 → IsDownTo c p.ases.now i t
  down_settled some = record {
    routing = so.routing;
    so_far = down_more (ranked is) c.seeds i here so.routing so.routing (stands (ranked is) i within) step so.so_far;
    begins = so.begins;
    tree = so.tree;
    order = so.order;
  }
    where
      holds : so.routing here ≢ None
      holds none = some (subst (λ h. IsHeldAt c.state p.ases.now t i h) none (so.tree.held i within))

      step : IsStepWhole (setting_of c) c.seeds so.routing here so.routing
      step = (let taken = settled (setting_of c) is.placed.lawful so.routing here c.seeds holds still (so.so_far.low here here_is) in record { others = taken.others; right = taken.right })

  module _ (none : slice_index t.lengths.items i ≡ 0) where
    nothing : so.routing here ≡ None
    nothing = by (so.routing here) refl (so.tree.held i within)
      where
        by : (h : Option Entry) → so.routing here ≡ h → IsHeldAt c.state p.ases.now t i h → so.routing here ≡ None
        by None at held = at
        by (Some e) at held = absurd (omega (arith, none, held.length_is, held.some))

    -- nothing is right by the customers' offers
    right_up : IsRightGiven (c.policy here) (c.seeds here) (λ n. customer_offer (setting_of c) (lows so.routing) n here) None
    right_up = subst (λ h. IsRightGiven (c.policy here) (c.seeds here) (λ n. customer_offer (setting_of c) (lows so.routing) n here) (low h)) nothing (so.so_far.low here here_is)

    -- so the AS announces nothing
    unseeded : c.seeds here ≡ None
    unseeded = by (c.seeds here) refl right_up
      where
        by : (s : Option Seed) → c.seeds here ≡ s → IsRightGiven (c.policy here) s (λ n. customer_offer (setting_of c) (lows so.routing) n here) None → c.seeds here ≡ None
        by None at right = at
        by (Some s) at right = (let z : None ≡ Some (seed_entry s) = right in cc)

    right_with : (h : Option Entry) → IsRightGiven (c.policy here) None offers h → IsRightGiven (c.policy here) (c.seeds here) offers h
    right_with h right = subst (λ (s : Option Seed). IsRightGiven (c.policy here) s offers h) (sym unseeded) right

    -- and no customer makes it an offer
    no_customers : (n : ℕ) → relation c.graph here n ≡ Some Customer → offers n ≡ None
    no_customers n linked =
        low_offer (setting_of c) is.placed.lawful so.routing n here (λ up. (let both : Some Customer ≡ Some Provider = sym linked ∙ up in cc))
        ∙ sym (ap (λ r. if_customer r (offer (setting_of c) (lows so.routing) n here)) linked)
        ∙ subst (λ (s : Option Seed). IsRightGiven (c.policy here) s (λ m. customer_offer (setting_of c) (lows so.routing) m here) None) unseeded right_up n

    -- the place has what the AS is right with
    down_next : (u : RoutingTree) (h : Option Entry) → IsRightGiven (c.policy here) None offers h → ((e : Entry) → h ≡ Some e → slice_get e.path 0 ≡ Some here) → IsHeldAt c.state p.ases.now u i h →
        ((k : ℕ) → k ≢ i → AreSameAt t u k) → HasPlaces (length p.ases.now) u → ParentsComeFirst u (length p.ases.now) → IsDownTo c p.ases.now i u
    down_next u h right begins held others places order = record {
      routing = with_entry so.routing here h;
      so_far = down_more (ranked is) c.seeds i here so.routing (with_entry so.routing here h) (stands (ranked is) i within) step so.so_far;
      begins = begin_more so.routing here h begins so.begins;
      tree = record {
        places = places;
        held = λ k less. elim (cases_eq k i) [
          | inl same ↦ subst (λ m. IsHeldAt c.state p.ases.now u m (with_entry so.routing here h (slice_index p.ases.now m))) (sym same) (subst (IsHeldAt c.state p.ases.now u i) (sym (with_here so.routing here h)) held)
          | inr other ↦ subst (IsHeldAt c.state p.ases.now u k) (sym (with_others so.routing here h (slice_index p.ases.now k) (apart p.ases.now k i (ranked is).order.apart less within other)))
              (held_still c.state p.ases.now t u k (so.routing (slice_index p.ases.now k)) (others k other) (so.tree.held k less))
        ];
      };
      order = order;
    }
      where
        step : IsStepWhole (setting_of c) c.seeds so.routing here (with_entry so.routing here h)
        step = record { others = with_others so.routing here h; right = subst (IsRightGiven (c.policy here) (c.seeds here) offers) (sym (with_here so.routing here h)) (right_with h right) }

    same_tree : (k : ℕ) → k ≢ i → AreSameAt t t k
    same_tree k other = record { lengths = refl; lows = refl; states = refl; parents = refl }

    peer_at : (j : ℕ) → occurs j (list_at p.links.now.peers i) ≡ true → (j < length p.ases.now) × (relation c.graph here (slice_index p.ases.now j) ≡ Some Peer)
    peer_at j there = all_occurring (λ k. (k < length p.ases.now) × (relation c.graph here (slice_index p.ases.now k) ≡ Some Peer)) (list_at p.links.now.peers i) j (is.placed.links.peers i within).each there

    provider_at : (j : ℕ) → occurs j (list_at p.links.now.providers i) ≡ true → (j < length p.ases.now) × (relation c.graph here (slice_index p.ases.now j) ≡ Some Provider)
    provider_at j there = all_occurring (λ k. (k < length p.ases.now) × (relation c.graph here (slice_index p.ases.now k) ≡ Some Provider)) (list_at p.links.now.providers i) j (is.placed.links.providers i within).each there

    -- where the AS looks a neighbour stands
    neighbour_at : (r : Rel) (j : ℕ) → LooksDownAt t p.links.now i r j → (j < length p.ases.now) × (relation c.graph here (slice_index p.ases.now j) ≡ Some r)
    neighbour_at r j (inl (peer, there, low)) = (let at = peer_at j there in (at.0, at.1 ∙ ap Some (sym peer)))
    neighbour_at r j (inr (provider, there)) = (let at = provider_at j there in (at.0, at.1 ∙ ap Some (sym provider)))

    -- who hands on what it holds
    handed : (r : Rel) (j : ℕ) (e : Entry) → LooksDownAt t p.links.now i r j → IsNode c.state p.ases.now t j e → (c.policy (slice_index p.ases.now j)).exports e.class e.otc (converse r) ≡ true
    handed r j e (inl (peer, there, low)) node =
        let both : Some true ≡ Some (is_own_or_customers e.class) = sym low ∙ node.low in
        let own : is_own_or_customers e.class ≡ true = cc in
        hands_all (c.policy (slice_index p.ases.now j)) (is.placed.plainly (slice_index p.ases.now j)) e (converse r) own
    handed r j e (inr (provider, there)) node =
        ap (λ x. (c.policy (slice_index p.ases.now j)).exports e.class e.otc (converse x)) provider ∙ (is.placed.plainly (slice_index p.ases.now j)).to_customers e.class e.otc

    -- the AS looks at whoever makes it an offer
    looks_at : (n : ℕ) (o : Offer) → offers n ≡ Some o → (m : IsMadeOf (c.policy n) (c.policy here) c.state n here (relation c.graph here n) (so.routing n) o) → (r : Rel) → m.from ≡ r →
        (j : ℕ) × LooksDownAt t p.links.now i m.from j × (slice_index p.ases.now j ≡ n)
    looks_at n o offered m Customer from = (let z : None ≡ Some o = sym (no_customers n (m.linked ∙ ap Some from)) ∙ offered in cc)
    looks_at n o offered m Peer from =
        let (j, less, at, there) = (is.placed.links.peers i within).complete n (m.linked ∙ ap Some from) in
        let node : IsNode c.state p.ases.now t j m.entry = subst (λ h. IsHeldAt c.state p.ases.now t j h) (ap so.routing at ∙ m.holds) (so.tree.held j less) in
        let own : is_own_or_customers m.entry.class ≡ true = sym ((is.placed.plainly n).to_others m.entry.class m.entry.otc Peer (λ z. cc)) ∙ sym (ap (λ x. (c.policy n).exports m.entry.class m.entry.otc (converse x)) from) ∙ m.exported in
        (j, inl (from, there, node.low ∙ ap Some own), at)
    looks_at n o offered m Provider from =
        let (j, less, at, there) = (is.placed.links.providers i within).complete n (m.linked ∙ ap Some from) in
        (j, inr (from, there), at)

    are_seen : AreSeen (c.policy here) p.ases.now t (LooksDownAt t p.links.now i) offers
    are_seen = record { made = made; found = found }
      where
        made : (r : Rel) (j : ℕ) (v : View) → LooksDownAt t p.links.now i r j → seen_at p.ases.now t r j ≡ Some v → (c.policy here).accepts v ≡ true → (o : Offer) × (offers (slice_index p.ases.now j) ≡ Some o) × (o.view ≡ v)
        made r j v looks seen accepted =
            let (less, linked) = neighbour_at r j looks in
            let n = slice_index p.ases.now j in
            seen_made is so.routing i j t r v linked (so.tree.held j less) (λ e held node. (
              handed r j e looks node,
              no_loops_at is Whole so.routing here unseeded (loops_downwards (ranked is) c.seeds (is_announcer c.seeds) (announcers_named is) i here so.routing (stands (ranked is) i within) so.so_far nothing) n r e linked refl held (handed r j e looks node),
            )) seen accepted

        found : (n : ℕ) (o : Offer) → offers n ≡ Some o → (r : Rel) × (j : ℕ) × LooksDownAt t p.links.now i r j × (slice_index p.ases.now j ≡ n) × (seen_at p.ases.now t r j ≡ Some o.view) × ((c.policy here).accepts o.view ≡ true)
        found n o offered =
            let m = made_of (c.policy n) (c.policy here) c.state n here (relation c.graph here n) (so.routing n) o offered in
            let (j, looks, at) = looks_at n o offered m m.from refl in
            (m.from, j, looks, at, offer_seen is so.routing i j t n here o at (so.tree.held j (neighbour_at m.from j looks).0) m, m.accepted)

    -- an AS without an offer holds nothing
    pub down_nothing : IsChosen (c.policy here) p.ases.now t (LooksDownAt t p.links.now i) None → IsDownTo c p.ases.now i t
    down_nothing chosen = down_next t None (none_offered (c.policy here) p.ases.now t (LooksDownAt t p.links.now i) offers are_seen chosen) (λ e z. cc) none same_tree so.tree.places so.order

    -- else it takes the best one
    pub down_taken : (b : Best) → IsFirst (c.policy here) p.ases.now t (LooksDownAt t p.links.now i) b → (u : RoutingTree) → IsPut t u i (slice_index t.lengths.items b.place + 1) false (state_at t b.place) b.place → HasPlaces (length p.ases.now) u → IsDownTo c p.ases.now i u
    down_taken b first u put places =
        let n = slice_index p.ases.now b.place in
        let (o, best, same) = best_offered (c.policy here) p.ases.now t (LooksDownAt t p.links.now i) offers are_seen b first in
        let (less, linked) = neighbour_at b.view.rel b.place first.looks in
        let m = made_of (c.policy n) (c.policy here) c.state n here (relation c.graph here n) (so.routing n) o best.made in
        let both : Some m.from ≡ Some b.view.rel = sym m.linked ∙ linked in
        let from : m.from ≡ b.view.rel = cc in
        let node : IsNode c.state p.ases.now t b.place m.entry = subst (λ h. IsHeldAt c.state p.ases.now t b.place h) m.holds (so.tree.held b.place less) in
        let some : 0 < slice_index t.lengths.items b.place = omega (arith, node.some, node.length_is) in
        down_next u (Some o.entry) (n, o, best, refl) (offer_begins is so.routing i b.place t n here o m)
        (offer_taken is so.routing i b.place t so.begins u false o less (so.tree.held b.place less) m (sym (ap (λ r. is_own_or_customers (class_of r)) from ∙ high b.view.rel first.looks)) put) put.others places
        (first_still t u i (slice_index t.lengths.items b.place + 1) false (state_at t b.place) b.place (length p.ases.now) put none (λ yes. cc) (λ no. giver b.view.rel first.looks less linked some) so.order)
      where
        high : (r : Rel) → LooksDownAt t p.links.now i r b.place → is_own_or_customers (class_of r) ≡ false
        high r (inl (peer, there, low)) = ap (λ x. is_own_or_customers (class_of x)) peer
        high r (inr (provider, there)) = ap (λ x. is_own_or_customers (class_of x)) provider

        giver : (r : Rel) → LooksDownAt t p.links.now i r b.place → b.place < length p.ases.now → relation c.graph here (slice_index p.ases.now b.place) ≡ Some r → 0 < slice_index t.lengths.items b.place →
            IsLowAt t b.place ⊎ ((i < b.place) × (0 < slice_index t.lengths.items b.place))
        giver r (inl (peer, there, low)) less linked some = inl (record { some = some; low = low })
        giver r (inr (provider, there)) less linked some = inr (provider_higher (ranked is) i b.place within less (linked ∙ ap Some provider), some)
