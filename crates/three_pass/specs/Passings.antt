-- What the steps of a pass take for granted, and what they leave.
use Rattle.std.specs.Prelude.{◌≡◌, ◌<◌, ℕ, Bool, false, Option, None, List, length, slice_index}
use Rattle.net_names.specs.declared.routes.State.{State}
use Rattle.net_names.specs.Prefixes.{PrefixValue as Prefix}
use Rattle.as_graph.specs.Topology.{relation}
use Rattle.as_graph.specs.Prelude.{HasNoProviderCycle}
use Rattle.policy_laws.specs.Plain.{IsOf}
use Rattle.policy_laws.specs.Policy.{Policy}
use Rattle.path_pool.specs.declared.pool.PathPool.{PathPool}
use Rattle.stability_laws.specs.declared.entry.Entry.{Entry}
use Rattle.stability_laws.specs.declared.entry.Seed.{Seed}
use Rattle.stability_laws.specs.Book.{policy_at}
use Rattle.route_choice.specs.declared.choice.Part.{Part}
use Rattle.route_choice.specs.declared.overlay.Overlay.{Overlay}
use Rattle.route_choice.specs.AsnSets.{is_among}
use Rattle.route_choice.specs.NamedSets.{is_named}
use Rattle.route_choice.specs.PrefixWorlds.{setting_at, HasLoopsFromAt}
use Rattle.route_choice.specs.Resources.{CanStep}
use Rattle.route_choice.specs.Routings.{routing_of, seeds_of}
use Rattle.route_choice.specs.Tables.{seed_at}
use Rattle.route_choice.specs.Visits.{IsVisit}
use Rattle.three_pass.specs.declared.pass.Passing.{Passing}
use Rattle.three_pass.specs.declared.told.Told.{Told}
use Rattle.three_pass.specs.Courses.{IsCourse}
use Rattle.three_pass.specs.Origins.{AreHeldOf}
use Rattle.three_pass.specs.Spending.{CanGo, HasSpent}
use Rattle.three_pass.specs.Telling.{HaveTold}
use Rattle.three_pass.specs.Told.{AreTrue, IsTold}
use Rattle.three_pass.specs.Ways.{AreStances}

-- the ASes in the order in which the passes go
abbrev pub order_of : {P V : Type 0} → Passing P V → List ℕ
order_of p = p.course.now.order.ases.items

-- what each AS holds, with the changes of the overlay in place
abbrev pub routing_in : {P V : Type 0} → Passing P V → PathPool → Overlay → ℕ → Option Entry
routing_in p pool overlay = routing_of pool p.at.table.now overlay

-- what each AS announces by itself
abbrev pub seeds_in : {P V : Type 0} → Passing P V → PathPool → ℕ → Option Seed
seeds_in p pool = seeds_of pool p.at.seeds.now

-- the graph has no provider cycle, the course is one of the graph, the stances are those of the policies, and only an AS on a seed's path has a seed
pub record IsPassing {P V : Type 0} (meaning : P → Policy) (p : Passing P V) : Type 0 where
  pub no_cycle : HasNoProviderCycle (relation p.at.graph.now)
  pub course : IsCourse p.at.graph.now p.course.now
  pub stances : AreStances (λ a. meaning (policy_at p.at.book.now a)) p.course.now p.all p.stances.now
  pub unnamed : (a : ℕ) → is_among p.named.asns a ≡ false → seed_at p.at.seeds.now a ≡ None

-- what a pass takes for granted stands, the AS is at the place of the order and can take a step, each customer and peer of it with an Origin or a Customer entry told it so, all that is held has origins of the state of all seeds' origins, if that is one, and if it holds nothing, an offer of the part with a path through it comes from an origin of a seed's path on which it stands
pub record IsReady {P V : Type 0} (meaning : P → Policy) (state_of : V → Prefix → ℕ → State) (p : Passing P V) (notes : Told) (pool : PathPool) (overlay : Overlay) (part : Part) (a place : ℕ) : Type 0 where
  pub passing : IsPassing meaning p
  pub inside : place < length (order_of p)
  pub there : slice_index (order_of p) place ≡ a
  pub can : CanStep pool p.at.seeds.now p.at.table.now overlay 1
  pub true_notes : AreTrue (relation p.at.graph.now) notes
  pub told : HaveTold (IsTold notes) (setting_at meaning state_of p.at) (routing_in p pool overlay) a
  pub origins : AreHeldOf (IsOf p.all) (setting_at meaning state_of p.at).state (routing_in p pool overlay)
  pub loops : routing_in p pool overlay a ≡ None → HasLoopsFromAt meaning p.at pool overlay part a (is_named p.named a)

-- what a step of the AS leaves
abbrev pub IsVisitIn : {P V : Type 0} → (P → Policy) → (V → Prefix → ℕ → State) → Passing P V → Part → PathPool → PathPool → Overlay → Overlay → ℕ → Bool → Type 0
IsVisitIn meaning state_of p part pool pool' overlay overlay' a answer =
    IsVisit part (setting_at meaning state_of p.at) p.at.seeds.now p.at.table.now pool pool' overlay overlay' a answer

-- the passes can go on along the order
abbrev pub CanPass : {P V : Type 0} → Passing P V → PathPool → Overlay → Type 0
CanPass p pool overlay = CanGo pool p.at.seeds.now p.at.table.now overlay (order_of p)

-- what steps along the order took
abbrev pub HasPassed : {P V : Type 0} → Passing P V → PathPool → PathPool → Overlay → Overlay → Type 0
HasPassed p pool pool' overlay overlay' = HasSpent pool pool' p.at.seeds.now p.at.table.now overlay overlay' (order_of p)
