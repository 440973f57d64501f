-- The best offer to an AS in a routing, over its neighbours one by one.
use Rattle.std.proofs.Common.{◌≡◌, ◌⊎◌, ℕ, ◌+◌, ◌<◌, true, Option, Some, option_map, List, length, take, slice_index_or, sym, subst}
use Rattle.policy_laws.specs.declared.policy.View.{View}
use Rattle.policy_laws.specs.Policy.{RanksOffers}
use Rattle.net_names.specs.Numbers.{occurs}
use Rattle.net_names.specs.declared.routes.Rel.{Rel}
use Rattle.as_graph.specs.declared.neighbour.Neighbour.{Neighbour}
use Rattle.as_graph.specs.Neighbours.{asns}
use Rattle.stability_laws.specs.declared.entry.Entry.{Entry}
use Rattle.stability_laws.specs.Offers.{Offer, Setting, offer, GivenBy}
use Rattle.stability_laws.specs.BestView.{IsBestView, IsBestViewOf, better_of}
use Rattle.stability_laws.proofs.Local.{given_by}
use Rattle.stability_laws.proofs.BestViews.{among_more, one_more, best_of_all}

module _ (w : Setting) (f : ℕ → Option Entry) (a : ℕ) (ranks : RanksOffers (w.policy a)) where
  -- the offers to the AS
  abbrev offers : ℕ → Option Offer
  offers n = offer w f n a

  given : (n : ℕ) (o : Offer) → offers n ≡ Some o → GivenBy (w.relation a n) n o
  given n o e = given_by (w.policy n) (w.policy a) w.state n a (w.relation a n) (f n) o e

  pub one_neighbour_more : (xs : List Neighbour) (i : ℕ) (x : Neighbour) → i < length xs → x ≡ slice_index_or xs i x → (best new : Option View) → new ≡ option_map (λ o. o.view) (offer w f x.asn a)
      → IsBestViewOf (w.policy a) (λ n. offer w f n a) (asns (take i xs)) best → IsBestViewOf (w.policy a) (λ n. offer w f n a) (asns (take (i + 1) xs)) (better_of (w.policy a) best new)
  one_neighbour_more xs i x inside at best new is before =
      one_more (w.policy a) ranks offers (λ n o e. (given n o e).neighbour) x.asn (asns (take i xs)) (asns (take (i + 1) xs))
      (λ m h. subst (λ t. (t.asn ≡ m) ⊎ (occurs m (asns (take i xs)) ≡ true)) (sym at) (among_more xs i m x inside h))
      best new is before

  pub best_of_neighbours : (xs : List Neighbour) → ((n : ℕ) (from : Rel) → w.relation a n ≡ Some from → occurs n (asns xs) ≡ true) → (best : Option View)
      → IsBestViewOf (w.policy a) (λ n. offer w f n a) (asns xs) best → IsBestView (w.policy a) (λ n. offer w f n a) best
  best_of_neighbours xs complete best is =
      best_of_all (w.policy a) ranks offers (λ n o e. (given n o e).neighbour) (asns xs)
      (λ n o e. let from : GivenBy (w.relation a n) n o = given n o e in complete n from.from from.linked) best is
