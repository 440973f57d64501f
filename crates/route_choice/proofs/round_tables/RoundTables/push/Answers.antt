use Rattle.std.proofs.Common.{ap, subst, ◌∙◌}
use Rattle.route_choice.specs.RoundTables.{table_at, PutsTable}
use Rattle.route_choice.proofs.RoundLemmas.{pushed}
use Rattle.route_choice.proofs.round_tables.RoundTables.push.Goals as goal

pub returns-clause-ok : goal.returns-clause-ok
returns-clause-ok c =
    subst (λ p. PutsTable c.args.self.now (record { tables = c.insert.new.self }) p c.args.table) c.prefix.ensures
    (pushed c.args.self.now c.prefix.result c.args.table (record { tables = c.insert.new.self }) (ap (table_at c.args.self.now) c.prefix.ensures ∙ c.requires) c.in_ok-insert.ensures.updates c.in_ok-insert.ensures.entries)
