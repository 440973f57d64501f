use Rattle.std.proofs.Common.{arith}
use Rattle.route_choice.specs.Routings.{seeds_of}
use Rattle.dirty_recompute.proofs.Going.{kept_more}
use Rattle.dirty_recompute.proofs.plan.put_changes.Goals as goal

pub go_up-requires-clause-can : goal.go_up-requires-clause-can
go_up-requires-clause-can g c = record {
  few = omega (arith, c.as_count.ensures.value, c.as_count.ensures.few);
  named = c.new-named.ensures (seeds_of c.args.pool.now c.args.world.now.at.seeds.now);
  can = (c.args.pool.now, c.requires.can);
}

pub go_down-requires-clause-can : goal.go_down-requires-clause-can
go_down-requires-clause-can g c = record {
  few = omega (arith, c.as_count.ensures.value, c.as_count.ensures.few);
  named = c.in_ok-queues.ensures.named;
  can = (c.args.pool.now, c.in_ok-queues.ensures.can c.args.pool.now c.requires.can);
}

pub returns-in_err-go_down-clause-kept : goal.returns-in_err-go_down-clause-kept
returns-in_err-go_down-clause-kept g c = kept_more c.args.pool.now c.go_up.new.pool c.go_down.new.pool c.args.world.now.at.seeds.now c.args.overlay.now c.go_up.new.overlay c.go_down.new.overlay c.go_up.ensures.kept c.go_down.ensures.kept

pub returns-clause-enough : goal.returns-clause-enough
returns-clause-enough g c =
    let (n, count, work) = c.in_ok-queues.ensures.done in
    c.in_ok-go_down.ensures.enough c.args.steps.now n count work

pub returns-clause-can : goal.returns-clause-can
returns-clause-can g c = c.in_ok-go_down.ensures.can c.args.pool.now (c.in_ok-queues.ensures.can c.args.pool.now c.requires.can)

pub returns-clause-kept : goal.returns-clause-kept
returns-clause-kept g c = kept_more c.args.pool.now c.go_up.new.pool c.go_down.new.pool c.args.world.now.at.seeds.now c.args.overlay.now c.go_up.new.overlay c.go_down.new.overlay c.go_up.ensures.kept c.go_down.ensures.kept

pub go_up-requires-clause-fresh : goal.go_up-requires-clause-fresh
go_up-requires-clause-fresh g c = c.requires.fresh

pub go_up-requires-clause-right : goal.go_up-requires-clause-right
go_up-requires-clause-right g c = c.requires.right

pub go_down-requires-clause-work : goal.go_down-requires-clause-work
go_down-requires-clause-work g c = let (n, count, work) = c.in_ok-queues.ensures.done in (n, work)

pub returns-clause-exact : goal.returns-clause-exact
returns-clause-exact g c = c.in_ok-go_down.ensures.exact
