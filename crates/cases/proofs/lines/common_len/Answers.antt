use Rattle.std.proofs.Common.{nat_eq, drop, length-drop, arith}
use Rattle.std.proofs.lemmas.List.Sums.{common_prefix_len-le}
use Rattle.cases.proofs.lines.common_len.Goals as goal

pub returns-else-len-other : goal.returns-else-len-other
returns-else-len-other c =
    let none = (common_prefix_len-le nat_eq (drop c.bytes.len c.args.text.now) (drop c.bytes.len c.args.other.now)).1 in
    omega (arith, none, length-drop c.bytes.len c.args.other.now, c.bytes.invariant.so_far, c.bytes.invariant.in_other)
