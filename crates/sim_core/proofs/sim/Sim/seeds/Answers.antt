use Rattle.std.proofs.Common.{◌-◌, refl, sym, subst, ◌∙◌}
use Rattle.scenario_text.specs.declared.acts.Query.TheVariants as query
use Rattle.stability_laws.specs.Plans.{IsSound}
use Rattle.sim_core.specs.Answers.{IsQueryRefusal}
use Rattle.sim_core.specs.Sims.{kept, world_seen}
use Rattle.sim_core.specs.World.{topology}
use Rattle.sim_core.specs.declared.errors.QueryError.TheVariants.{Memory}
use Rattle.sim_core.proofs.Exits.{handed_on}
use Rattle.sim_core.proofs.Replies.{query_refused}
use Rattle.sim_core.proofs.Lent.{seed_starts}
use Rattle.sim_core.proofs.Unnamed.{gone_unnamed, unseeded}
use Rattle.sim_core.proofs.Watches.{round_within}
use Rattle.sim_core.proofs.sim.Sim.seeds.Goals as goal

pub seeds-requires-clause-from : goal.seeds-requires-clause-from
seeds-requires-clause-from c = (round_within (world_seen c.args.self.now).rounds c.args.round c.in_ok-_table.ensures.found.round_there).0

pub returns-clause-inside : goal.returns-clause-inside
returns-clause-inside c = λ a gone.
    let w = world_seen c.args.self.now in
    c.in_ok-seeds.ensures.seeds a
    ∙ unseeded w.plan w.kinds a (gone_unnamed (topology w) w.plan w.kinds a refl gone) c.args.round c.args.prefix ((kept c.args.self.now).routings (c.args.round - 1) c.args.prefix)

pub returns-clause-own : goal.returns-clause-own
returns-clause-own c = λ is a seed at.
    seed_starts c.paths_go_on.ensures (world_seen c.args.self.now) (kept c.args.self.now) (subst IsSound c.seed_plan.ensures c.plans_are_sound.ensures) is c.args.round c.args.prefix c.in_ok-_table.ensures.found.round_there c.in_ok-_table.ensures.found.prefix_there a seed
    (sym (c.in_ok-seeds.ensures.seeds a) ∙ at)

pub returns-in_err-_table-clause-refused : goal.returns-in_err-_table-clause-refused
returns-in_err-_table-clause-refused c =
    let w = world_seen c.args.self.now in
    let q = query.Routes c.args.round c.args.prefix in
    let e = c.in_err-_table.field-0.0 in
    handed_on (IsQueryRefusal w q) e c.from_residual.result c.from_residual.ensures.1 (query_refused w q e c.in_err-_table.ensures.refused)

pub returns-in_err-seeds-clause-refused : goal.returns-in_err-seeds-clause-refused
returns-in_err-seeds-clause-refused c =
    handed_on (IsQueryRefusal (world_seen c.args.self.now) (query.Routes c.args.round c.args.prefix)) Memory c.from_residual-in_err-seeds.result c.from_residual-in_err-seeds.ensures.1 tt
