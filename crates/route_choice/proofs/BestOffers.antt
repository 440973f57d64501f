-- The best offer of a part, found among the neighbours that may make one.
use Rattle.std.proofs.Common.{◌≡◌, ℕ, ◌⊎◌, true, Option, Some, List, option_map, refl}
use Rattle.net_names.specs.Numbers.{occurs}
use Rattle.policy_laws.specs.Policy.{RanksOffers}
use Rattle.policy_laws.specs.declared.policy.View.{View}
use Rattle.as_graph.specs.declared.neighbour.Neighbour.{Neighbour}
use Rattle.as_graph.specs.Neighbours.{asns}
use Rattle.stability_laws.specs.declared.entry.Entry.{Entry}
use Rattle.stability_laws.specs.BestView.{IsBestView, IsBestViewOf, better_of}
use Rattle.stability_laws.specs.Offers.{Setting, Offer}
use Rattle.stability_laws.proofs.BestViews.{one_more, best_of_all}
use Rattle.route_choice.specs.declared.choice.Part.{Part}
use Rattle.route_choice.specs.Choices.{offers_of}
use Rattle.route_choice.specs.Givers.{AreGivers}
use Rattle.route_choice.proofs.Chosen.{given_in_part}
use Rattle.route_choice.proofs.Givers.{Giver, giver}

module _ (part : Part) (w : Setting) (f : ℕ → Option Entry) (a : ℕ) (ranks : RanksOffers (w.policy a)) where
  -- an offer that comes from an AS names it
  names_giver : (n : ℕ) (o : Offer) → offers_of part w f a n ≡ Some o → o.view.neighbour ≡ n
  names_giver n o e = (given_in_part part w f a n o e).neighbour

  -- the better one of the best offer of a list and the offer of x is the best of the list with x
  pub best_with : (x : ℕ) (xs ys : List ℕ) → ((m : ℕ) → occurs m ys ≡ true → (x ≡ m) ⊎ (occurs m xs ≡ true)) → (best : Option View) → IsBestViewOf (w.policy a) (λ n. offers_of part w f a n) xs best →
      IsBestViewOf (w.policy a) (λ n. offers_of part w f a n) ys (better_of (w.policy a) best (option_map (λ (o : Offer). o.view) (offers_of part w f a x)))
  best_with x xs ys splits best is =
      one_more (w.policy a) ranks (λ n. offers_of part w f a n) names_giver x xs ys splits best (option_map (λ (o : Offer). o.view) (offers_of part w f a x)) refl is

  -- the best offer of all that may make one is the best of all
  pub best_of_givers : (xs : List Neighbour) → AreGivers part w.relation w.policy f a xs → (best : Option View) → IsBestViewOf (w.policy a) (λ n. offers_of part w f a n) (asns xs) best → IsBestView (w.policy a) (λ n. offers_of part w f a n) best
  best_of_givers xs givers best is =
      best_of_all (w.policy a) ranks (λ n. offers_of part w f a n) names_giver (asns xs)
      (λ n o e. let by : Giver part w f a n = giver part w f a n o e in
      givers.complete n by.exports.from by.exports.entry by.exports.linked by.looked by.exports.is by.exports.exported) best is
