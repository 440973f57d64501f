-- Which entry an offer is of, and which one is held where an AS is right.
use Rattle.std.proofs.Common.{◌≡◌, ℕ, Option, Some, None, sym, ◌∙◌, ap}
use Rattle.net_names.specs.declared.routes.Rel.{Rel}
use Rattle.net_names.specs.declared.routes.State.{State}
use Rattle.policy_laws.specs.Policy.{Policy, RanksOffers}
use Rattle.stability_laws.specs.declared.entry.Entry.{Entry}
use Rattle.stability_laws.specs.declared.entry.Seed.{Seed}
use Rattle.stability_laws.specs.Offers.{Offer, offer_given, passed_on}
use Rattle.stability_laws.specs.Stable.{IsBest, IsRightGiven}
use Rattle.stability_laws.proofs.Local.{one_best, given_when}

pub entry_of : (s r : Policy) (st : ℕ → State) (n a : ℕ) (relation : Option Rel) (held : Option Entry) (o : Offer) (e : Entry) → offer_given s r st n a relation held ≡ Some o → held ≡ Some e → o.entry ≡ passed_on s.marks r.marks n a o.view.rel e
entry_of s r st n a None held o e h k = cc
entry_of s r st n a (Some from) None o e h k = cc
entry_of s r st n a (Some from) (Some d) o e h k =
    let is = given_when _ _ o h in
    let same : d ≡ e = cc in
    sym (ap (λ (t : Offer). t.entry) is) ∙ (λ i. passed_on s.marks r.marks n a (is i).view.rel (same i))

-- without a seed, the entry that is held where an AS is right is the best offer's
pub held_is_best : (p : Policy) → RanksOffers p → (seed : Option Seed) (offers : ℕ → Option Offer) (held : Option Entry) (e : Entry) (n : ℕ) (o : Offer) → seed ≡ None → held ≡ Some e → IsBest p offers n o → IsRightGiven p seed offers held → e ≡ o.entry
held_is_best p r (Some s) offers held e n o unseeded is best right = cc
held_is_best p r None offers None e n o unseeded is best right = cc
held_is_best p r None offers (Some d) e n o unseeded is best (m, q, best', is') =
    let same : d ≡ e = cc in sym same ∙ is' ∙ ap (λ (t : Offer). t.entry) (one_best p r offers m n q o best' best)
