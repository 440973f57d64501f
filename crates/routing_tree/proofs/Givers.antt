-- A neighbour's offer, and what stands at its place.
use Rattle.std.proofs.Common.{◌≡◌, ◌<◌, ◌+◌, ℕ, Bool, true, false, Option, Some, None, length, slice_get, slice_index, refl, sym, ◌∙◌, ap, subst}
use Rattle.as_graph.specs.Topology.{relation}
use Rattle.net_names.specs.Links.{converse}
use Rattle.net_names.specs.Numbers.{occurs}
use Rattle.net_names.specs.declared.routes.Rel.{Rel}
use Rattle.policy_laws.specs.Policy.{Policy, is_own_or_customers}
use Rattle.policy_laws.specs.declared.policy.View.{View}
use Rattle.stability_laws.specs.declared.entry.Entry.{Entry}
use Rattle.stability_laws.specs.Entries.{class_of}
use Rattle.stability_laws.specs.Offers.{Offer, offer, offer_given, passed_on, view_of}
use Rattle.routing_tree.specs.declared.tree.Placed.{Placed}
use Rattle.routing_tree.specs.declared.tree.RoutingTree.{RoutingTree}
use Rattle.routing_tree.specs.Cases.{BeginWithHolders, Case, IsCaseOf, setting_of}
use Rattle.routing_tree.specs.Chosen.{seen_at, state_at}
use Rattle.routing_tree.specs.Puts.{IsPut}
use Rattle.routing_tree.specs.Trees.{IsHeldAt, IsNode}
use Rattle.routing_tree.proofs.Cases.{ranked}
use Rattle.routing_tree.proofs.Offered.{IsMadeOf, node_seen, node_taken, none_seen, offer_is}
use Rattle.routing_tree.proofs.Places.{elsewhere}

module _ {P : Type 0} {meaning : P → Policy} {c : Case} {p : Placed P} (is : IsCaseOf meaning c p) (f : ℕ → Option Entry) (i j : ℕ) (t : RoutingTree) where
  -- what the offer of the AS at the second place to that at the first is made of
  abbrev pub OfferTo : ℕ → ℕ → Offer → Type 0
  OfferTo n a o = IsMadeOf (c.policy n) (c.policy a) c.state n a (relation c.graph a n) (f n) o

  -- what an AS sees at a neighbour's place, and accepts, is an offer, if it is exported and doesn't go through the AS
  pub seen_made : (r : Rel) (v : View) → relation c.graph (slice_index p.ases.now i) (slice_index p.ases.now j) ≡ Some r → IsHeldAt c.state p.ases.now t j (f (slice_index p.ases.now j)) →
      ((e : Entry) → f (slice_index p.ases.now j) ≡ Some e → IsNode c.state p.ases.now t j e → ((c.policy (slice_index p.ases.now j)).exports e.class e.otc (converse r) ≡ true) × (occurs (slice_index p.ases.now i) e.path ≡ false)) →
      seen_at p.ases.now t r j ≡ Some v → (c.policy (slice_index p.ases.now i)).accepts v ≡ true → (o : Offer) × (offer (setting_of c) f (slice_index p.ases.now j) (slice_index p.ases.now i) ≡ Some o) × (o.view ≡ v)
  seen_made r v linked held fine seen accepted = by (f (slice_index p.ases.now j)) refl held
    where
      by : (h : Option Entry) → f (slice_index p.ases.now j) ≡ h → IsHeldAt c.state p.ases.now t j h → (o : Offer) × (offer (setting_of c) f (slice_index p.ases.now j) (slice_index p.ases.now i) ≡ Some o) × (o.view ≡ v)
      by None holds none = (let z : None ≡ Some v = sym (none_seen p.ases.now t j r none) ∙ seen in cc)
      by (Some e) holds node =
          let n = slice_index p.ases.now j in
          let a = slice_index p.ases.now i in
          let (exported, away) = fine e holds node in
          let both : Some (view_of (c.policy n).marks c.state n r e) ≡ Some v = sym (node_seen (c.policy n).marks (is.placed.plainly n).unmarked c.state p.ases.now t j r e node) ∙ seen in
          let same : view_of (c.policy n).marks c.state n r e ≡ v = cc in (
            record { view = view_of (c.policy n).marks c.state n r e; entry = passed_on (c.policy n).marks (c.policy a).marks n a r e },
            (λ k. offer_given (c.policy n) (c.policy a) c.state n a (linked k) (holds k)) ∙ offer_is (c.policy n) (c.policy a) c.state n a r e exported node.some away (ap (c.policy a).accepts same ∙ accepted),
            same,
          )

  -- an offer is seen at the place of who makes it
  pub offer_seen : (n a : ℕ) (o : Offer) → slice_index p.ases.now j ≡ n → IsHeldAt c.state p.ases.now t j (f (slice_index p.ases.now j)) → (m : OfferTo n a o) → seen_at p.ases.now t m.from j ≡ Some o.view
  offer_seen n a o at held m =
      let node : IsNode c.state p.ases.now t j m.entry = subst (λ h. IsHeldAt c.state p.ases.now t j h) (ap f at ∙ m.holds) held in
      node_seen (c.policy n).marks (is.placed.plainly n).unmarked c.state p.ases.now t j m.from m.entry node ∙ ap Some (ap (λ b. view_of (c.policy n).marks c.state b m.from m.entry) at ∙ sym m.seen)

  -- the place that an offer is taken from has what is taken
  pub offer_taken : BeginWithHolders f → (u : RoutingTree) (low : Bool) (o : Offer) → j < length p.ases.now → IsHeldAt c.state p.ases.now t j (f (slice_index p.ases.now j)) → (m : OfferTo (slice_index p.ases.now j) (slice_index p.ases.now i) o) →
      low ≡ is_own_or_customers (class_of m.from) → IsPut t u i (slice_index t.lengths.items j + 1) low (state_at t j) j → IsNode c.state p.ases.now u i o.entry
  offer_taken begins u low o less held m low_is put =
      let n = slice_index p.ases.now j in
      let a = slice_index p.ases.now i in
      let node : IsNode c.state p.ases.now t j m.entry = subst (λ h. IsHeldAt c.state p.ases.now t j h) m.holds held in
      subst (IsNode c.state p.ases.now u i) (sym m.passed)
      (node_taken c.state p.ases.now t u i j low m.from m.entry (c.policy n).marks (c.policy a).marks (is.placed.plainly n).unmarked (is.placed.plainly a).unmarked node (begins n m.entry m.holds) low_is less (elsewhere (ranked is) i j m.from m.linked) put)

  -- and its path begins with the AS
  pub offer_begins : (n a : ℕ) (o : Offer) → OfferTo n a o → (e : Entry) → ◌≡◌ {A = Option Entry} (Some o.entry) (Some e) → slice_get e.path 0 ≡ Some a
  offer_begins n a o m e both = (let same : o.entry ≡ e = cc in ap (λ (d : Entry). slice_get d.path 0) (sym same ∙ m.passed))
