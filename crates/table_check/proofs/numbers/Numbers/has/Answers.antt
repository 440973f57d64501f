use Rattle.std.proofs.Common.{◌∙◌}
use Rattle.table_check.proofs.Sought.{sought}
use Rattle.table_check.proofs.numbers.Numbers.has.Goals as goal

pub returns : goal.returns
returns c = c.is_ok.ensures.value ∙ sought c.args.self.now.sorted.items c.args.asn c.args.self.now.rising c.as_slice.result.now c.as_slice.ensures.value _ c.binary_search.ensures.position
