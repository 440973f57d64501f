-- What the steps of a pass find at a place of the order.
use Rattle.std.proofs.Common.{◌≡◌, ℕ, ◌<◌, false, None, List, length, slice_index, sym, subst}
use Rattle.net_names.specs.declared.routes.State.{State}
use Rattle.net_names.specs.Prefixes.{PrefixValue as Prefix}
use Rattle.as_graph.specs.Topology.{relation}
use Rattle.as_graph.specs.Prelude.{HasNoProviderCycle}
use Rattle.policy_laws.specs.declared.policy.Stance.{Stance}
use Rattle.policy_laws.specs.Policy.{Policy, RanksOffers, PrefersCustomers, ExportsDownOnly}
use Rattle.path_pool.specs.declared.pool.PathPool.{PathPool}
use Rattle.stability_laws.specs.Book.{policy_at}
use Rattle.route_choice.specs.declared.choice.Part.{Part}
use Rattle.route_choice.specs.declared.overlay.Overlay.{Overlay}
use Rattle.route_choice.specs.AsnSets.{is_among}
use Rattle.route_choice.specs.PrefixWorlds.{setting_at, AreGiversAt}
use Rattle.route_choice.specs.Tables.{seed_at}
use Rattle.three_pass.specs.declared.pass.Passing.{Passing}
use Rattle.three_pass.specs.declared.told.Told.{Told}
use Rattle.three_pass.specs.Courses.{IsCourse}
use Rattle.three_pass.specs.Lists.{AreProviders, list_at}
use Rattle.three_pass.specs.Passings.{IsPassing, IsReady, order_of, routing_in}
use Rattle.three_pass.specs.Told.{IsTold}
use Rattle.three_pass.specs.Ways.{AreStances}
use Rattle.three_pass.proofs.ByRank.{IsByRank, all_lawful, by_rank}
use Rattle.three_pass.proofs.Quiet.{givers}

-- the list at a place has the providers of the AS there
pub above_at : {P V : Type 0} (meaning : P → Policy) (p : Passing P V) (a k : ℕ) → IsPassing meaning p → k < length (order_of p) → slice_index (order_of p) k ≡ a → AreProviders (relation p.at.graph.now) a (list_at p.course.now.above k)
above_at meaning p a k passing inside there = subst (λ (b : ℕ). AreProviders (relation p.at.graph.now) b (list_at p.course.now.above k)) there (passing.course.above.each k inside)

-- an AS that was told nothing gets offers from its providers alone
pub untold_givers : {P V : Type 0} (meaning : P → Policy) (ranks_offers : (x : P) → RanksOffers (meaning x)) (prefers_customers : (x : P) → PrefersCustomers (meaning x)) (exports_down_only : (x : P) → ExportsDownOnly (meaning x))
    (state_of : V → Prefix → ℕ → State) (p : Passing P V) (notes : Told) (pool : PathPool) (overlay : Overlay) (part : Part) (a k : ℕ)
    → IsReady meaning state_of p notes pool overlay part a k → ((b : ℕ) → ¬ IsTold notes a b) → AreGiversAt meaning p.at pool overlay part a (list_at p.course.now.above k)
untold_givers meaning ranks_offers prefers_customers exports_down_only state_of p notes pool overlay part a k ready untold =
    let above = above_at meaning p a k ready.passing ready.inside ready.there in
    let lawful = all_lawful meaning ranks_offers prefers_customers exports_down_only (policy_at p.at.book.now) in
    givers (setting_at meaning state_of p.at) lawful (routing_in p pool overlay) a part (IsTold notes) (list_at p.course.now.above k) ready.told
    above.each (λ b told. absurd (untold b told)) (λ whole. above.complete)

-- what the passes go along is one of the world's graph, and what they know of it is right
pub passing_is : {P V : Type 0} (meaning : P → Policy) (p : Passing P V) (stances : List Stance) → HasNoProviderCycle (relation p.at.graph.now) → IsCourse p.at.graph.now p.course.now → p.stances.now ≡ stances
    → AreStances (λ a. meaning (policy_at p.at.book.now a)) p.course.now p.all stances → ((a : ℕ) → is_among p.named.asns a ≡ false → seed_at p.at.seeds.now a ≡ None) → IsPassing meaning p
passing_is meaning p stances no_cycle course same are unnamed = record {
  no_cycle = no_cycle;
  course = course;
  stances = subst (AreStances (λ a. meaning (policy_at p.at.book.now a)) p.course.now p.all) (sym same) are;
  unnamed = unnamed;
}

-- the order has the laws by which the passes go along it
pub ranked_by : {P V : Type 0} (meaning : P → Policy) (ranks_offers : (x : P) → RanksOffers (meaning x)) (prefers_customers : (x : P) → PrefersCustomers (meaning x)) (exports_down_only : (x : P) → ExportsDownOnly (meaning x))
    (state_of : V → Prefix → ℕ → State) (p : Passing P V) → IsPassing meaning p → IsByRank (setting_at meaning state_of p.at) (order_of p)
ranked_by meaning ranks_offers prefers_customers exports_down_only state_of p passing = by_rank meaning ranks_offers prefers_customers exports_down_only state_of p.at p.course.now passing.no_cycle passing.course
