-- How many steps an edit may take.
use Rattle.std.specs.Prelude.{◌≡◌, ◌≢◌, ◌⊎◌, ℕ, ◌+◌, ◌-◌, ◌*◌, ◌≤◌, IsTrue, true, Option, Some, List, length}
use Rattle.net_names.specs.Coverage.{covers}
use Rattle.net_names.specs.Prefixes.{PrefixValue}
use Rattle.net_names.specs.declared.routes.Rel.{Rel}
use Rattle.as_graph.specs.Topology.{relation}
use Rattle.policy_kinds.specs.Kinds.{kind_policy}
use Rattle.stability_laws.specs.Plans.{Plan, has_prefix}
use Rattle.stability_laws.specs.Rounds.{seeds_of}
use Rattle.leak_round.specs.Entries.{AreApart, StandsIn}
use Rattle.scenario_text.specs.declared.acts.Edit.{Edit}
use Rattle.scenario_text.specs.declared.acts.Edit.TheVariants as edit
use Rattle.sim_core.specs.Families.{Family}
use Rattle.sim_core.specs.World.{World, kind_at, topology}

-- the edit touches the AS for the prefix: it is an end of the link; it has the policy, or where that begins or ceases to mark it is a neighbour; or its policy reads the states, and the payload covers the prefix
abbrev pub IsTouched : World → Edit → PrefixValue → ℕ → Type 0
IsTouched w (edit.Link a b rel) prefix x = (x ≡ a) ⊎ (x ≡ b)
IsTouched w (edit.Unlink a b) prefix x = (x ≡ a) ⊎ (x ≡ b)
IsTouched w (edit.Policy a kind) prefix x = (x ≡ a) ⊎ (((kind_policy kind).marks ≢ (kind_policy (kind_at w a)).marks) × (r : Rel) × (relation (topology w) a x ≡ Some r))
IsTouched w (edit.VrpAdd vrp) prefix x = (covers vrp.prefix prefix ≡ true) × ((kind_policy (kind_at w x)).reads_state ≡ true)
IsTouched w (edit.VrpTake vrp) prefix x = (covers vrp.prefix prefix ≡ true) × ((kind_policy (kind_at w x)).reads_state ≡ true)
IsTouched w (edit.Announce prefix path) p x = ⊥
IsTouched w (edit.Withdraw prefix a) p x = ⊥

-- a triple of round, prefix and AS counts where the AS is touched for the prefix, its seed of the round differs, or the entry of a neighbour differs
pub record Counts (relation : ℕ → ℕ → Option Rel) (plan after : Plan) (old new : Family) (Touched : PrefixValue → ℕ → Type 0) (rounds : ℕ) (x : ℕ × (PrefixValue × ℕ)) : Type 0 where
  pub from : 1 ≤ x.0
  pub to : x.0 ≤ rounds
  pub known : IsTrue (has_prefix plan x.1.0)
  pub counts : Touched x.1.0 x.1.1 ⊎ ((seeds_of after x.0 x.1.0 (new (x.0 - 1) x.1.0) x.1.1 ≢ seeds_of plan x.0 x.1.0 (old (x.0 - 1) x.1.0) x.1.1) ⊎ ((c : ℕ) × (r : Rel) × (relation x.1.1 c ≡ Some r) × (new x.0 x.1.0 c ≢ old x.0 x.1.0 c)))

-- the steps from the first count to the last are at most two for each of some distinct triples that count
pub record AreFewSteps (relation : ℕ → ℕ → Option Rel) (plan after : Plan) (old new : Family) (Touched : PrefixValue → ℕ → Type 0) (rounds first last : ℕ) : Type 0 where
  pub triples : List (ℕ × (PrefixValue × ℕ))
  pub apart : AreApart triples
  pub counted : (x : ℕ × (PrefixValue × ℕ)) → StandsIn x triples → Counts relation plan after old new Touched rounds x
  pub enough : last ≤ first + 2 * length triples

-- the steps of an edit are at most two for each round, prefix and AS that it touches, whose seed differs, or that has a neighbour in the edited world whose entry differs
abbrev pub IsQuick : World → World → Edit → Family → Family → ℕ → ℕ → Type 0
IsQuick w after e old new first last = AreFewSteps (relation (topology after)) w.plan after.plan old new (IsTouched w e) w.rounds first last
