use Rattle.std.proofs.Common.{◌≡◌, ◌∙◌, Option, Some, None, refl, rules, sym, ap}
use Rattle.std.specs.Prelude.{OnSome}
use Rattle.std.specs.Borrow.{MutBor}
use Rattle.std.specs.Option.{option_copied_mut}
use Rattle.indexmap.specs.IndexMap.{with_value_at}
use Rattle.route_choice.specs.declared.table.Table.{Table}
use Rattle.route_choice.specs.declared.round_tables.RoundTables.{RoundTables}
use Rattle.route_choice.specs.RoundTables.{PutsTable}
use Rattle.route_choice.proofs.RoundLemmas as rounds
use Rattle.route_choice.proofs.round_tables.RoundTables.table_mut.Goals as goal

pub returns-in-Some : goal.returns-in-Some
returns-in-Some c = (
  (refl, (λ w. written w c.get_index_mut.result refl), search rules),
  record {
    writes_back = tt;
    value = rounds.value_at c.args.self.now c.in-Some.index c.args.prefix (option_copied_mut c.get_index_mut.result) c.get_index_mut.ensures.unique c.in-Some.ensures c.get_index_mut.ensures.value;
  },
)
  where
    after : Table → RoundTables
    after w = record { tables = with_value_at c.args.self.now.tables c.in-Some.index w }

    written : (w : Table) (r : Option (MutBor Table)) → c.get_index_mut.result ≡ r → OnSome r (PutsTable c.args.self.now (after w) c.args.prefix w)
    written w None e = tt
    written w (Some r) e =
        rounds.written_at c.args.self.now c.args.prefix w (after w) c.in-Some.index r.now c.get_index_mut.ensures.unique c.in-Some.ensures (sym c.get_index_mut.ensures.value ∙ ap option_copied_mut e) refl

pub returns-in-None : goal.returns-in-None
returns-in-None c = ((refl, (λ w. written w c.get_mut.result refl), search rules), search rules)
  where
    written : (w : Table) (r : Option (MutBor Table)) → c.get_mut.result ≡ r → OnSome r (PutsTable c.args.self.now (record { tables = c.get_mut.follows.lender w }) c.args.prefix w)
    written w None e = tt
    written w (Some r) e =
        rounds.written c.args.self.now c.args.prefix w (record { tables = c.get_mut.follows.lender w }) r.now (sym c.get_mut.ensures.value ∙ ap option_copied_mut e) (c.get_mut.follows.holds w)
