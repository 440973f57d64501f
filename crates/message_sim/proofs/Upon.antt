-- The offers to an AS that is about to receive a message.
use Rattle.std.proofs.Common.{◌≡◌, ◌≢◌, ℕ, Option, Some, option_copied, option_map, subst}
use Rattle.net_names.specs.Prefixes.{PrefixValue}
use Rattle.net_names.specs.declared.routes.State.{State}
use Rattle.policy_laws.specs.declared.policy.View.{View}
use Rattle.policy_laws.specs.Policy.{Policy, RanksOffers}
use Rattle.as_graph.specs.Topology.{relation}
use Rattle.stability_laws.specs.declared.entry.Entry.{Entry}
use Rattle.stability_laws.specs.Book.{policy_at}
use Rattle.stability_laws.specs.BestView.{IsBestView, better_of}
use Rattle.stability_laws.specs.Offers.{GivenBy, Offer}
use Rattle.stability_laws.proofs.Local.{given_by}
use Rattle.message_sim.specs.Arrivals.{offers_before, offers_upon, setting_of}
use Rattle.message_sim.specs.Best.{received_with, IsChosen, IsKeptView, IsNoWorse}
use Rattle.message_sim.specs.Rows.{received_at}
use Rattle.message_sim.specs.declared.arrival.Arrival.{Arrival}
use Rattle.message_sim.proofs.Choices.{kept_choice, other_best, others_stay, same_best}

module _ {P V : Type 0} (meaning : P → Policy) (state_of : V → PrefixValue → ℕ → State) (x : Arrival P V) where
  -- an offer of an AS is one over its link
  pub given_upon : (n : ℕ) (o : Offer) → offers_upon meaning state_of x n ≡ Some o → GivenBy (relation x.ground.now.graph.now x.to n) n o
  given_upon n o e =
      let here = setting_of meaning state_of x in
      let heard = received_with (λ k. received_at x.lines.now.entries k x.to) x.from (option_copied x.message) in
      given_by (here.policy n) (here.policy x.to) here.state n x.to (relation x.ground.now.graph.now x.to n) (heard n) o e

  -- an offer is of the AS that makes it
  pub from_its_neighbour : (n : ℕ) (o : Offer) → offers_upon meaning state_of x n ≡ Some o → o.view.neighbour ≡ n
  from_its_neighbour n o e = (given_upon n o e).neighbour

  -- another AS than the sender offers what it did before
  pub others_stay_upon : (n : ℕ) → n ≢ x.from → offers_upon meaning state_of x n ≡ offers_before meaning state_of x n
  others_stay_upon = others_stay (setting_of meaning state_of x) x.lines.now.entries x.to x.from (option_copied x.message)

  -- the view of the best offer of the receiver, by how the message compares with the best one before
  module _ (ranks : RanksOffers (meaning (policy_at x.ground.now.book.now x.to))) where
    abbrev own : Policy
    own = meaning (policy_at x.ground.now.book.now x.to)

    abbrev before : ℕ → Option Offer
    before = offers_before meaning state_of x

    abbrev after : ℕ → Option Offer
    after = offers_upon meaning state_of x

    pub other_best_upon : (best : Option View) (old : View) → best ≡ Some old → old.neighbour ≢ x.from → IsBestView own before best → IsBestView own after (better_of own (Some old) (option_map (λ o. o.view) (after x.from)))
    other_best_upon best old is ne right = other_best own ranks before after x.from others_stay_upon from_its_neighbour old ne (subst (IsBestView own before) is right)

    pub same_best_upon : (best : Option View) (old : View) → best ≡ Some old → old.neighbour ≡ x.from → IsBestView own before best → (new : Option View) → new ≡ option_map (λ o. o.view) (after x.from) → IsNoWorse own old new → IsBestView own after new
    same_best_upon best old is at right = same_best own ranks before after x.from others_stay_upon from_its_neighbour old at (subst (IsBestView own before) is right)

    pub kept_choice_upon : (best new : Option View) → IsKeptView x.from best new → IsBestView own after new → (held : Option Entry) → IsChosen own before best held → IsChosen own after best held
    kept_choice_upon = kept_choice own ranks before after x.from others_stay_upon from_its_neighbour
