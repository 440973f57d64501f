use Rattle.std.proofs.Common.{sym, ap, ◌∙◌}
use Rattle.route_choice.specs.RoundTables.{table_at}
use Rattle.route_choice.proofs.RoundLemmas.{key_is}
use Rattle.route_choice.proofs.round_tables.RoundTables.table.Goals as goal

pub returns : goal.returns
returns c =
    let found = c.in-Some-get_index in
    sym found.ensures.value ∙ ap (table_at c.args.self.now) (key_is c.args.self.now.tables.entries c.in-Some.index found.field-0-0.now c.args.prefix found.table.now c.in-Some.ensures found.ensures.entry)
