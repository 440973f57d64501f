use Rattle.std.proofs.Common.{◌≤◌, nat_eq, length, sym, arith}
use Rattle.std.proofs.lemmas.List.{length-take-le}
use Rattle.std.proofs.lemmas.List.Sums.{common_prefix_len-le}
use Rattle.cases.proofs.lines.line_of.Goals as goal

pub slice_bounds-front-end : goal.slice_bounds-front-end
slice_bounds-front-end c =
    let within : c.common_len.result ≤ length c.args.text.now = omega (arith, c.common_len.ensures, (common_prefix_len-le nat_eq c.args.text.now c.args.other.now).0) in
    sym (length-take-le c.common_len.result c.args.text.now within)
