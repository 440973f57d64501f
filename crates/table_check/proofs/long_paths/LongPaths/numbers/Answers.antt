use Rattle.table_check.proofs.Numbered.{kept_of}
use Rattle.table_check.proofs.long_paths.LongPaths.numbers.Goals as goal

pub returns : goal.returns
returns c = kept_of c.args.self.now c.args.asn c.get.result c.get.ensures.value
