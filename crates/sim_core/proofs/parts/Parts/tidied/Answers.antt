use Rattle.std.proofs.Common.{arith}
use Rattle.net_names.specs.Prefixes.{PrefixValue}
use Rattle.origin_validation.specs.Judging.{state_of}
use Rattle.policy_kinds.specs.Kinds.{kind_policy}
use Rattle.stability_laws.specs.World.{setting}
use Rattle.leak_round.specs.Rounds.{kept, plan_of, round_count}
use Rattle.sim_core.proofs.Doing.{belongs}
use Rattle.sim_core.proofs.Tidying.{few_hold, holder_is_as}
use Rattle.sim_core.proofs.parts.Parts.tidied.Goals as goal

pub tidy-requires-clause-stable : goal.tidy-requires-clause-stable
tidy-requires-clause-stable c =
    let s = c.args.self.now in
    ((λ (p : PrefixValue). setting kind_policy s.graph s.book (state_of s.vrps p)), (belongs s c.requires.right c.requires.no_cycle).rounds_are.stable)

pub tidy-requires-clause-few : goal.tidy-requires-clause-few
tidy-requires-clause-few c = λ before prefix less known.
    let s = c.args.self.now in
    few_hold (λ (p : PrefixValue). setting kind_policy s.graph s.book (state_of s.vrps p)) (plan_of s.rounds) (round_count s.rounds) (kept s.rounds) (belongs s c.requires.right c.requires.no_cycle).rounds_are.stable before prefix less known
    s.graph (λ a h. h) (omega (arith, c.as_count-count.ensures.value, c.as_count-count.ensures.few))

pub tidy-requires-clause-among : goal.tidy-requires-clause-among
tidy-requires-clause-among c = λ before prefix a less known h.
    let s = c.args.self.now in
    c.rows.ensures.complete a (holder_is_as (λ (p : PrefixValue). setting kind_policy s.graph s.book (state_of s.vrps p)) (plan_of s.rounds) (round_count s.rounds) (kept s.rounds) (belongs s c.requires.right c.requires.no_cycle).rounds_are.stable before prefix less known a h)
