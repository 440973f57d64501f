-- The path of an offer.
use Rattle.std.proofs.Common.{◌≡◌, ℕ, Option, Some, None, ◌∷◌, refl, sym, ap}
use Rattle.net_names.specs.declared.routes.Rel.{Rel}
use Rattle.net_names.specs.declared.routes.State.{State}
use Rattle.policy_laws.specs.Policy.{Policy}
use Rattle.stability_laws.specs.declared.entry.Entry.{Entry}
use Rattle.stability_laws.specs.Offers.{Offer, offer_given}
use Rattle.stability_laws.proofs.Local.{given_when}

pub path_given : (s r : Policy) (st : ℕ → State) (n a : ℕ) (relation : Option Rel) (held : Option Entry) (o : Offer) → offer_given s r st n a relation held ≡ Some o → (e : Entry) × (held ≡ Some e) × (o.entry.path ≡ a ∷ e.path)
path_given s r st n a None held o made = cc
path_given s r st n a (Some from) None o made = cc
path_given s r st n a (Some from) (Some e) o made =
    let offered = given_when _ _ o made in
    (e, refl, sym (ap (λ (t : Offer). t.entry.path) offered))
