-- The ASes of a course by their ranks, and the laws by which passes go along them.
use Rattle.std.proofs.Common.{◌≡◌, ◌==◌, ◌||◌, ◌<◌, ◌≤◌, ℕ, suc, true, false, Some, None, List, ◌+◌, ◌++◌, ◌∷◌, [], length, take, slice_index_or, refl, sym, ap, ◌∙◌}
use Rattle.std.proofs.lemmas.Bool.{eq-eqb, or_right}
use Rattle.std.proofs.lemmas.List.{take_more}
use Rattle.std.proofs.lemmas.List.Folds.{list_any-append, list_any_at}
use Rattle.net_names.specs.Numbers.{occurs}
use Rattle.net_names.specs.declared.routes.Rel.TheVariants.{Customer}
use Rattle.net_names.specs.declared.routes.State.{State}
use Rattle.net_names.specs.Prefixes.{PrefixValue}
use Rattle.policy_laws.specs.Policy.{Policy, RanksOffers, PrefersCustomers, ExportsDownOnly}
use Rattle.as_graph.specs.Topology.{relation, ases}
use Rattle.as_graph.specs.Hierarchy.{HasNoProviderCycle}
use Rattle.as_graph.proofs.Chains.{IsMutual}
use Rattle.as_graph.proofs.Links.{relation_mutual, relation_self, topology-AreLinks}
use Rattle.as_graph.proofs.Ranks.{ranks_fall}
use Rattle.rank_order.specs.Ranks.{IsRankOrder}
use Rattle.stability_laws.specs.Book.{policy_at}
use Rattle.stability_laws.specs.Offers.{Setting}
use Rattle.stability_laws.specs.Stable.{IsLawful}
use Rattle.route_choice.specs.declared.prefix_world.PrefixWorld.{PrefixWorld}
use Rattle.route_choice.specs.PrefixWorlds.{setting_at}
use Rattle.three_pass.specs.declared.course.Course.{Course}
use Rattle.three_pass.specs.Courses.{IsCourse}

-- the policies are lawful, each link has two ends, and the ASes stand by a rank that falls from providers to customers
pub record IsByRank (w : Setting) (xs : List ℕ) : Type 0 where
  pub lawful : (a : ℕ) → IsLawful (w.policy a)
  pub mutual_links : IsMutual w.relation
  pub alone : (a : ℕ) → w.relation a a ≡ None
  pub rank : ℕ → ℕ
  pub falls : (a b : ℕ) → w.relation a b ≡ Some Customer → suc (rank b) ≤ rank a
  pub order : IsRankOrder w.has rank xs

-- the AS stands at this place of the list
pub record StandsAt (xs : List ℕ) (i a : ℕ) : Type 0 where
  pub within : i < length xs
  pub is : a ≡ slice_index_or xs i a
  pub more : take (i + 1) xs ≡ take i xs ++ a ∷ []

pub stands_at : (xs : List ℕ) (i a : ℕ) → i < length xs → a ≡ slice_index_or xs i a → StandsAt xs i a
stands_at xs i a within is = record { within = within; is = is; more = take_more xs i a within ∙ ap (λ t. take i xs ++ t ∷ []) (sym is) }

-- it is one of the list, and of its front up to there
pub is_listed : (xs : List ℕ) (i a : ℕ) → StandsAt xs i a → occurs a xs ≡ true
is_listed xs i a at = list_any_at (λ y. y == a) xs i a at.within (eq-eqb _ a (sym at.is))

pub is_reached : (xs : List ℕ) (i a : ℕ) → StandsAt xs i a → occurs a (take (i + 1) xs) ≡ true
is_reached xs i a at = ap (occurs a) at.more ∙ list_any-append (λ y. y == a) (take i xs) (a ∷ []) ∙ or_right (occurs a (take i xs)) _ (ap (λ t. t || false) (eq-eqb a a refl))

module _ {P : Type 0} (meaning : P → Policy) (ranks_offers : (p : P) → RanksOffers (meaning p)) (prefers_customers : (p : P) → PrefersCustomers (meaning p)) (exports_down_only : (p : P) → ExportsDownOnly (meaning p)) where
  pub all_lawful : (policy : ℕ → P) (a : ℕ) → IsLawful (meaning (policy a))
  all_lawful policy a = record { ranks_offers = ranks_offers (policy a); prefers_customers = prefers_customers (policy a); exports_down_only = exports_down_only (policy a) }

  pub by_rank : {V : Type 0} (state_of : V → PrefixValue → ℕ → State) (at : PrefixWorld P V) (course : Course) → HasNoProviderCycle (relation at.graph.now) → IsCourse at.graph.now course → IsByRank (setting_at meaning state_of at) course.order.ases.items
  by_rank state_of at course no_cycle is = record {
    lawful = all_lawful (policy_at at.book.now);
    mutual_links = relation_mutual at.graph.now;
    alone = relation_self at.graph.now;
    rank = is.rank;
    falls = (ranks_fall (relation at.graph.now) (ases at.graph.now) (topology-AreLinks at.graph.now) no_cycle is.rank is.ranks).falls;
    order = is.order;
  }
