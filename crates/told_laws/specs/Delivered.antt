-- How many messages deliveries take out.
use Rattle.std.specs.Prelude.{◌≡◌, ◌≤◌, ◌*◌, ◌^◌, ◌⊎◌, ℕ, Bool, false, not, filter, length, List, [], ◌∷◌, ◌++◌, Option, None}
use Rattle.std.specs.Option.{is_some}
use Rattle.clap.specs.Walk.{Text}
use Rattle.scenario_text.specs.declared.acts.Act.TheVariants as act
use Rattle.scenario_text.specs.declared.acts.Query.TheVariants.{Routes}
use Rattle.net_names.specs.declared.routes.State.{State}
use Rattle.policy_laws.specs.Policy.{Policy}
use Rattle.as_graph.specs.Topology.{Topology, as_count, has, relation}
use Rattle.as_graph.specs.Hierarchy.{HasNoProviderCycle}
use Rattle.stability_laws.specs.declared.entry.Seed.{Seed}
use Rattle.stability_laws.specs.Book.{PolicyBook}
use Rattle.stability_laws.specs.Laws.{IsHeight}
use Rattle.stability_laws.specs.World.{setting}
use Rattle.message_sim.specs.Messages.{MessageNet, IsStart}
use Rattle.message_sim.specs.Turns.{AreTurns, turns_of}
use Rattle.message_sim.specs.declared.steps.Deliveries.{Deliveries}
use Rattle.sim_core.specs.World.{HasCycle, World, topology}
use Rattle.task_reading.specs.Jobs.{line_job, messages_job}
use Rattle.asprop_run.specs.Delivering.{message_rows}
use Rattle.asprop_run.specs.Replies.{AnswersJob}
use Rattle.asprop_run.specs.Task.{outside}

-- turns from the start take out at most n ^ (2 * h) messages, where the world has n ASes, its longest chain has h, and
-- it has no provider cycle (Gao and Rexford 2001, safety)
abbrev pub TurnsAreFew : {P : Type 0} → (P → Policy) → Type 0
TurnsAreFew {P} meaning =
    (g : Topology) (book : PolicyBook P) (state : ℕ → State) (seeds : ℕ → Option Seed) (height made : ℕ) (turns : List (Option (ℕ × ℕ))) (x y : MessageNet) →
    let w = setting meaning g book state in
    HasNoProviderCycle (relation g) → IsHeight g height → ((a : ℕ) → has g a ≡ false → seeds a ≡ None) → IsStart w seeds x → AreTurns w seeds turns x made y →
    made ≤ as_count g ^ (2 * height)

-- deliveries are answered by rows, and then by what is said of the messages: at most n ^ (2 * h) were taken out. Where
-- none is under way in the end, or where as many turns as n ^ (2 * h) name no link, none is under way, and the rows are
-- those of the query for the routes of the round and the prefix; the world has n ASes, and its longest chain has h (Gao
-- and Rexford 2001, safety)
abbrev pub DeliveriesSettleSoon : Type 0
DeliveriesSettleSoon = (w after : World) (d : Deliveries) (height : ℕ) (text : Text) (refused : Bool) →
    (HasCycle w → ⊥) → outside w (messages_job d ∷ []) ≡ None → IsHeight (topology w) height → AnswersJob w (messages_job d) text refused after →
    (rows : Text) × (made queued : ℕ) × (text ≡ rows ++ message_rows made queued) × (made ≤ as_count (topology w) ^ (2 * height))
    × ((later : World) (number : ℕ) (routes : Text) (other : Bool) → AnswersJob w (line_job false (record { number = number; act = act.Query (Routes d.round d.prefix) })) routes other later →
    (queued ≡ 0) ⊎ (as_count (topology w) ^ (2 * height) ≤ length (filter (λ t. not (is_some t)) (turns_of d.steps))) → (rows ≡ routes) × (queued ≡ 0))
