-- Which path an offer has.
use Rattle.std.specs.Prelude.{◌≡◌, ℕ, Option, Some, ◌∷◌}
use Rattle.net_names.specs.declared.routes.State.{State}
use Rattle.policy_laws.specs.Policy.{Policy}
use Rattle.as_graph.specs.Topology.{Topology}
use Rattle.stability_laws.specs.declared.entry.Entry.{Entry}
use Rattle.stability_laws.specs.Book.{PolicyBook}
use Rattle.stability_laws.specs.Offers.{Offer, offer}
use Rattle.stability_laws.specs.World.{setting}

-- n makes a an offer of an entry that it holds, and the offer's path is a followed by that entry's
-- path (RFC 4271, section 5.1.2)
abbrev pub OfferPath : {P : Type 0} → (P → Policy) → Type 0
OfferPath {P} meaning =
    (w : Topology) (book : PolicyBook P) (state : ℕ → State) (f : ℕ → Option Entry) (n a : ℕ) (o : Offer) →
    offer (setting meaning w book state) f n a ≡ Some o → (e : Entry) × (f n ≡ Some e) × (o.entry.path ≡ a ∷ e.path)
