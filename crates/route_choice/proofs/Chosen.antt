-- The offers of a part, and that the entry that a choice names is right with them.
use Rattle.std.proofs.Common.{◌≡◌, ℕ, Option, Some, None, option_map, refl, sym, ◌∙◌, ap}
use Rattle.net_names.specs.declared.routes.Rel.{Rel}
use Rattle.net_names.specs.declared.routes.Rel.TheVariants.{Customer, Peer, Provider}
use Rattle.stability_laws.specs.declared.entry.Entry.{Entry}
use Rattle.stability_laws.specs.declared.entry.Seed.{Seed}
use Rattle.stability_laws.specs.Offers.{Setting, Offer, GivenBy, offer, offer_given, passed_on}
use Rattle.stability_laws.specs.Stable.{IsRightGiven}
use Rattle.stability_laws.specs.Laws.{if_customer}
use Rattle.stability_laws.proofs.Local.{given_by}
use Rattle.stability_laws.proofs.Verdicts.{entry_of}
use Rattle.route_choice.specs.declared.choice.Part.{Part}
use Rattle.route_choice.specs.declared.choice.Part.TheVariants.{Up, Whole}
use Rattle.route_choice.specs.declared.choice.Choice.{Choice}
use Rattle.route_choice.specs.declared.choice.Choice.TheVariants as choice
use Rattle.route_choice.specs.Choices.{offers_of, IsChoice, named_by}

-- an offer that the part looks at is an offer
pub made_of : (part : Part) (w : Setting) (f : ℕ → Option Entry) (a n : ℕ) (o : Offer) → offers_of part w f a n ≡ Some o → offer w f n a ≡ Some o
made_of Whole w f a n o made = made
made_of Up w f a n o made = by (w.relation a n) made
  where
    by : (r : Option Rel) → if_customer r (offer w f n a) ≡ Some o → offer w f n a ≡ Some o
    by None e = cc
    by (Some Customer) e = e
    by (Some Peer) e = cc
    by (Some Provider) e = cc

pub given_in_part : (part : Part) (w : Setting) (f : ℕ → Option Entry) (a n : ℕ) (o : Offer) → offers_of part w f a n ≡ Some o → GivenBy (w.relation a n) n o
given_in_part part w f a n o made = given_by (w.policy n) (w.policy a) w.state n a (w.relation a n) (f n) o (made_of part w f a n o made)

-- the entry that a choice names is right with the offers of the part
pub named_is_right : (part : Part) (w : Setting) (f : ℕ → Option Entry) (a : ℕ) (seed : Option Seed) (c : Choice) → IsChoice (w.policy a) seed (λ n. offers_of part w f a n) c → IsRightGiven (w.policy a) seed (λ n. offers_of part w f a n) (named_by w.policy seed f a c)
named_is_right part w f a None choice.Nothing h = h.1
named_is_right part w f a (Some s) choice.Nothing h = (let x : Some s ≡ None = h.0 in cc)
named_is_right part w f a None choice.Seed (s, e) = cc
named_is_right part w f a (Some s) choice.Seed h = refl
named_is_right part w f a (Some s) (choice.Via n r) h = (let x : Some s ≡ None = h.0 in cc)
named_is_right part w f a None (choice.Via n r) (none, (o, best, is_r)) = by (f n) refl
  where
    made : offer w f n a ≡ Some o
    made = made_of part w f a n o best.made

    by : (held : Option Entry) → f n ≡ held → IsRightGiven (w.policy a) None (λ n. offers_of part w f a n) (option_map (passed_on (w.policy n).marks (w.policy a).marks n a r) held)
    by None e =
        let linked : w.relation a n ≡ Some (given_in_part part w f a n o best.made).from = (given_in_part part w f a n o best.made).linked in
        let none : offer w f n a ≡ None = (λ i. offer_given (w.policy n) (w.policy a) w.state n a (linked i) (e i)) in
        let clash : None ≡ Some o = sym none ∙ made in
        cc
    by (Some d) e =
        (n, o, best, sym (entry_of (w.policy n) (w.policy a) w.state n a (w.relation a n) (f n) o d made e ∙ ap (λ r. passed_on (w.policy n).marks (w.policy a).marks n a r d) is_r))
