-- What is known of the policies along a course.
use Rattle.std.specs.Prelude.{◌≡◌, ℕ, Option, Some, List, length, slice_get, slice_index}
use Rattle.net_names.specs.declared.routes.State.{State}
use Rattle.policy_laws.specs.declared.policy.Stance.{Stance}
use Rattle.policy_laws.specs.Policy.{Policy}
use Rattle.stability_laws.specs.Book.{policy_at}
use Rattle.stability_laws.specs.declared.world.World.{World}
use Rattle.route_choice.specs.Leads.{ArePlainSenders}
use Rattle.three_pass.specs.declared.course.Course.{Course}
use Rattle.three_pass.specs.declared.way.Way.{Way}
use Rattle.three_pass.specs.Courses.{IsCourse}
use Rattle.three_pass.specs.Lists.{list_at}
use Rattle.three_pass.specs.Stances.{IsStanceUnder, stances_of}

-- the stance is that of the AS at a place of the order, with its providers
abbrev pub IsStanceAt : (ℕ → Policy) → Course → Option State → ℕ → Stance → Type 0
IsStanceAt policy c all k s = IsStanceUnder (policy (slice_index c.order.ases.items k)) all (ArePlainSenders policy (list_at c.above k)) s

-- each place of the order that has a stance has that of its AS
abbrev pub AreStances : (ℕ → Policy) → Course → Option State → List Stance → Type 0
AreStances policy c all stances = (k : ℕ) (s : Stance) → slice_get stances k ≡ Some s → IsStanceAt policy c all k s

-- the course is one of the world's graph, and each place of its order has a stance, by the world's policies
pub record IsWay {P V : Type 0} (meaning : P → Policy) (w : World P V) (way : Way) : Type 0 where
  pub course : IsCourse w.graph.now way.course.now
  pub count : (all : Option State) → length (stances_of way.stances all) ≡ length way.course.now.order.ases.items
  pub stances : (all : Option State) → AreStances (λ a. meaning (policy_at w.book.now a)) way.course.now all (stances_of way.stances all)
