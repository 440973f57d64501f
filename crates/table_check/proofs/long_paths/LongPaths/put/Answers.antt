use Rattle.std.proofs.Common.{sym, ap, ◌∙◌}
use Rattle.net_names.specs.Numbers.{occurs}
use Rattle.table_check.proofs.Numbered.{one_path_more}
use Rattle.table_check.proofs.long_paths.LongPaths.put.Goals as goal

pub returns : goal.returns
returns c = λ held e holds path before.
    one_path_more held c.args.self.now (record { numbers = c.insert.new.self }) c.args.asn c.in_ok-numbers.numbers e c.in_ok-insert.ensures.updates.0 holds
    (λ a. c.in_ok-numbers.ensures a ∙ ap (occurs a) (sym path)) before
