-- What activations and deliveries name is in the world.
use Rattle.std.proofs.Common.{◌≡◌, ◌&&◌, ℕ, Bool, true, false, Option, Some, None, [], ◌∷◌, if◌then◌else◌, refl}
use Rattle.activations.specs.Named.{first_foreign_in}
use Rattle.activations.specs.declared.acts.Acts.{Acts}
use Rattle.as_graph.specs.Topology.{has, relation}
use Rattle.message_sim.specs.Turns.{first_foreign_in as first_unlinked_in}
use Rattle.message_sim.specs.declared.steps.Deliveries.{Deliveries}
use Rattle.net_names.specs.Prefixes.{PrefixValue}
use Rattle.scenario_text.specs.declared.acts.Query.TheVariants.{Routes}
use Rattle.sim_core.specs.Answers.{refusal_of}
use Rattle.sim_core.specs.World.{World, has_round, topology}
use Rattle.stability_laws.specs.Plans.{has_prefix}
use Rattle.asprop_run.specs.Task.{outside}
use Rattle.task_reading.specs.Jobs.{acts_job, messages_job}

-- a query for the routes of a round and a prefix that are there is accepted
pub accepted_routes : (w : World) (round : ℕ) (prefix : PrefixValue) → has_round w round ≡ true → has_prefix w.plan prefix ≡ true → refusal_of w (Routes round prefix) ≡ None
accepted_routes w round prefix there known = rw (there, known) refl

passes_by : (a b : Bool) (found : Option ℕ) (line : ℕ) → (if a && b then found else Some line) ≡ None → ((a ≡ true) × (b ≡ true)) × (found ≡ None)
passes_by true true found line h = ((refl, refl), h)
passes_by true false found line h = cc
passes_by false b found line h = cc

-- the round and the prefix of activations, and the ASes that they name
pub acts_named : (w : World) (acts : Acts) → outside w (acts_job acts ∷ []) ≡ None → ((has_round w acts.round ≡ true) × (has_prefix w.plan acts.prefix ≡ true)) × (first_foreign_in (has (topology w)) acts.named ≡ None)
acts_named w acts = passes_by (has_round w acts.round) (has_prefix w.plan acts.prefix) (first_foreign_in (has (topology w)) acts.named) acts.for_line

-- the round and the prefix of deliveries, and the links that they name
pub deliveries_named : (w : World) (d : Deliveries) → outside w (messages_job d ∷ []) ≡ None → ((has_round w d.round ≡ true) × (has_prefix w.plan d.prefix ≡ true)) × (first_unlinked_in (relation (topology w)) d.steps ≡ None)
deliveries_named w d = passes_by (has_round w d.round) (has_prefix w.plan d.prefix) (first_unlinked_in (relation (topology w)) d.steps) d.for_line
