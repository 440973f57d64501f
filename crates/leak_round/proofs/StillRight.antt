-- An end of an edited link that stays right in each round is so by the rounds of the world before.
use Rattle.std.proofs.Common.{◌≡◌, ◌≢◌, ◌<◌, ℕ, suc, true}
use Rattle.std.specs.Prelude.{IsTrue}
use Rattle.net_names.specs.Prefixes.{PrefixValue}
use Rattle.net_names.specs.declared.routes.State.{State}
use Rattle.policy_laws.specs.Policy.{Policy}
use Rattle.as_graph.specs.Topology.{Topology, has, relation}
use Rattle.stability_laws.specs.declared.world.World.{World}
use Rattle.stability_laws.specs.Laws.{PathsGoOn}
use Rattle.stability_laws.specs.Plans.{IsSound, has_prefix}
use Rattle.stability_laws.specs.Rounds.{AreRounds, seeds_of}
use Rattle.stability_laws.specs.Stable.{IsRight}
use Rattle.stability_laws.specs.World.{setting, setting_in}
use Rattle.leak_round.specs.declared.rounds.Rounds.{Rounds}
use Rattle.leak_round.specs.Rounds.{kept, plan_of, round_count}
use Rattle.leak_round.specs.Staying.{StaysRightInRounds}

pub right_in_rounds : {P V : Type 0} (meaning : P → Policy) (state_of : V → PrefixValue → ℕ → State) (w : World P V) (rounds : Rounds) (v : Topology) (prefix : PrefixValue) (a end : ℕ) →
    PathsGoOn meaning → IsSound (plan_of rounds) → AreRounds (λ p. setting meaning v w.book.now (state_of w.states.now p)) (plan_of rounds) (round_count rounds) (kept rounds) →
    IsTrue (has_prefix (plan_of rounds) prefix) → has v a ≡ true → ((n : ℕ) → n ≢ end → relation v a n ≡ relation w.graph.now a n) →
    StaysRightInRounds meaning state_of w rounds prefix a end →
    (before : ℕ) → before < round_count rounds → IsRight (setting_in meaning state_of w prefix) (seeds_of (plan_of rounds) (suc before) prefix (kept rounds before prefix)) (kept rounds (suc before) prefix) a
right_in_rounds meaning state_of w rounds v prefix a end paths sound old known there links stays before less =
    stays before less v (seeds_of (plan_of rounds) (suc before) prefix (kept rounds before prefix)) links
    (λ n e held. (paths v w.book.now (state_of w.states.now) (plan_of rounds) (round_count rounds) (kept rounds) sound old before prefix less known n e held).0)
    ((old before prefix less known).right a there)
