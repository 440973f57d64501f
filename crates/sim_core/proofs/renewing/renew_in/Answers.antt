use Rattle.std.proofs.Common.{◌≡◌, ◌<◌, ℕ, Option, length, sym, ap, subst, ◌∙◌, arith}
use Rattle.net_names.specs.Prefixes.{PrefixValue}
use Rattle.path_pool.specs.declared.pool.PathPool.{PathPool}
use Rattle.policy_kinds.specs.Kinds.{label}
use Rattle.stability_laws.specs.Book.{policy_at}
use Rattle.stability_laws.specs.Plans.{Plan}
use Rattle.stability_laws.specs.declared.entry.Entry.{Entry}
use Rattle.route_choice.specs.RoundTables.{round_routing}
use Rattle.data_trace.specs.Hops.{next_hop}
use Rattle.data_trace.specs.Kept.{KeepsHops}
use Rattle.data_trace.specs.Views.{addr_of, rows_of}
use Rattle.data_trace.specs.Watches.{AreRows}
use Rattle.leak_round.specs.Rounds.{kept, plan_of}
use Rattle.sim_core.proofs.Hops.{inside_tables, same_rows}
use Rattle.sim_core.proofs.Renewals.{IsRenewed, left_roomy, left_seen, next_worked, renewed_rows}
use Rattle.sim_core.proofs.Working.{map_worked, more_worked}
use Rattle.sim_core.proofs.renewing.renew_in.Goals as goal

pub update-requires-clause-spare : goal.update-requires-clause-spare
update-requires-clause-spare c =
    left_roomy c.args.graph.now (plan_of c.args.rounds.now) (kept c.args.rounds.now c.args.round) c.args.book.now c.args.one.now c.loop-place.one.watches.items c.loop-place.place c.index_mut.result.now c.loop-place.invariant
    (omega (arith, c.loop-place.invariant.count, c.len-place-end.ensures, c.loop-place-test.true)) c.index_mut.ensures.value c.requires.roomy

pub update-requires-clause-inside : goal.update-requires-clause-inside
update-requires-clause-inside c =
    inside_tables c.args.graph.now c.pool-pool.result.now c.in-Some.tables.now c.seed_plan-plan.result.now (plan_of c.args.rounds.now) (kept c.args.rounds.now c.args.round)
    c.seed_plan-plan.ensures (λ p b. ap (λ (pool : PathPool). round_routing pool c.in-Some.tables.now p b) c.pool-pool.ensures.value ∙ c.in-Some.ensures.routing p b) c.in-Some.ensures.prefixes c.requires.inside

pub update-requires-clause-hops : goal.update-requires-clause-hops
update-requires-clause-hops c =
    let y = c.index_mut.result.now in
    let left = left_seen c.args.graph.now (plan_of c.args.rounds.now) (kept c.args.rounds.now c.args.round) c.args.book.now c.args.changed.now c.args.ends.now c.args.one.now.watches.items c.loop-place.one.watches.items c.loop-place.place c.index_mut.result.now c.loop-place.invariant
    (omega (arith, c.loop-place.invariant.count, c.len-place-end.ensures, c.loop-place-test.true)) c.index_mut.ensures.value c.requires.follow in
    let each : (p : PrefixValue) (b : ℕ) → kept c.args.rounds.now c.args.round p b ≡ round_routing c.pool-pool.result.now c.in-Some.tables.now p b =
    λ p b. sym (ap (λ (pool : PathPool). round_routing pool c.in-Some.tables.now p b) c.pool-pool.ensures.value ∙ c.in-Some.ensures.routing p b) in
    subst (λ (s : Plan × (PrefixValue → ℕ → Option Entry)). KeepsHops c.args.graph.now (next_hop s.0 s.1 (addr_of y)) c.args.changed.now c.args.ends.now (rows_of y)) (λ i. (sym c.seed_plan-plan.ensures i, λ p b. each p b i)) left.hops

pub update-requires-clause-groups : goal.update-requires-clause-groups
update-requires-clause-groups c =
    let left = left_seen c.args.graph.now (plan_of c.args.rounds.now) (kept c.args.rounds.now c.args.round) c.args.book.now c.args.changed.now c.args.ends.now c.args.one.now.watches.items c.loop-place.one.watches.items c.loop-place.place c.index_mut.result.now c.loop-place.invariant
    (omega (arith, c.loop-place.invariant.count, c.len-place-end.ensures, c.loop-place-test.true)) c.index_mut.ensures.value c.requires.follow in
    left.groups

pub loop-place-preserved : goal.loop-place-preserved
loop-place-preserved c =
    let old = c.args.one.now.watches.items in
    let mid = c.loop-place.one.watches.items in
    let n = c.loop-place.place in
    let y = c.index_mut.result.now in
    let x = c.update.new.self in
    let plan = plan_of c.args.rounds.now in
    let held = kept c.args.rounds.now c.args.round in
    let less : n < length mid = omega (arith, c.loop-place.invariant.count, c.len-place-end.ensures, c.loop-place-test.true) in
    let rows = same_rows x c.args.graph.now (λ a. label (policy_at c.args.book.now a)) c.seed_plan-plan.result.now plan (round_routing c.pool-pool.result.now c.in-Some.tables.now) held (addr_of y)
    c.seed_plan-plan.ensures (λ p b. ap (λ (pool : PathPool). round_routing pool c.in-Some.tables.now p b) c.pool-pool.ensures.value ∙ c.in-Some.ensures.routing p b) c.update.ensures.rows in
    next_worked (IsRenewed c.args.graph.now plan held c.args.book.now) old mid n y x c.loop-place.invariant less c.index_mut.ensures.value
    (c.update.ensures.addr, coe 1 0 (i. AreRows c.args.graph.now (next_hop plan held (c.update.ensures.addr i)) (λ a. label (policy_at c.args.book.now a)) (rows_of x)) rows)

pub returns-clause-rows : goal.returns-clause-rows
returns-clause-rows c =
    renewed_rows c.args.graph.now (plan_of c.args.rounds.now) (kept c.args.rounds.now c.args.round) c.args.book.now c.args.one.now.watches.items c.loop-place.one.watches.items c.loop-place.place c.loop-place.invariant
    (omega (arith, c.loop-place.invariant.count, c.len-place-end.ensures, c.loop-place-test.false))

pub returns-clause-addrs : goal.returns-clause-addrs
returns-clause-addrs c =
    let old = c.args.one.now.watches.items in
    let new = c.loop-place.one.watches.items in
    map_worked addr_of old new c.loop-place.place (more_worked (IsRenewed c.args.graph.now (plan_of c.args.rounds.now) (kept c.args.rounds.now c.args.round) c.args.book.now) (λ u x. addr_of x ≡ addr_of u) (λ u x p. p.0) old new c.loop-place.place c.loop-place.invariant)
