use Rattle.std.proofs.Common.{arith}
use Rattle.leak_round.proofs.Owning.{own_none}
use Rattle.leak_round.proofs.rounds.closed_rounds.Goals as goal

pub invariant_of-result : goal.invariant_of-result
invariant_of-result c = record {
  announcements = c.requires.announced;
  own_seeds = own_none c.args.plan c.args.announced.items c.new.result.items c.new.ensures.items;
  full = c.requires.full;
  held = λ k. omega (arith, c.requires.holds k);
  closed = λ shut k. c.requires.holds k;
  limits = c.requires.limits;
  few = c.requires.few;
  cells = c.requires.cells;
}
