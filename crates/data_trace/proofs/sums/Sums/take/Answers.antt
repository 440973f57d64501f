use Rattle.std.proofs.Common.{ap, arith}
use Rattle.std.specs.List.{sum_by}
use Rattle.data_trace.specs.Sums.{part, is_key}
use Rattle.data_trace.proofs.Summing.{none_counted, key_self}
use Rattle.data_trace.proofs.sums.Sums.take.Goals as goal

pub unreachable-requires : goal.unreachable-requires
unreachable-requires c =
    let one = c.requires (is_key c.args.end c.args.stub c.args.label) (key_self c.args.end c.args.stub c.args.label) in
    let none = none_counted c.args.end c.args.stub c.args.label c.deref.result.now c.in_default.ensures.none in
    absurd (omega (arith, one, none, ap (sum_by (part (is_key c.args.end c.args.stub c.args.label))) c.deref.ensures.value))
