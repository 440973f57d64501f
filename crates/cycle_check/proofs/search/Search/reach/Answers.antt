use Rattle.std.proofs.Common.{sym, ◌∙◌}
use Rattle.cycle_check.proofs.Reaching.{gains_same, gains_new}
use Rattle.cycle_check.proofs.search.Search.reach.Goals as goal

pub returns-then-contains_key-clause-gains : goal.returns-then-contains_key-clause-gains
returns-then-contains_key-clause-gains c = gains_same c.args.reached.now.entries c.args.asn c.args.from (sym c.contains_key.ensures ∙ c.if-contains_key.true)

pub returns-clause-gains : goal.returns-clause-gains
returns-clause-gains c = c.in_ok-insert.ensures.entries ∙ gains_new c.args.reached.now.entries c.args.asn c.args.from (sym c.contains_key.ensures ∙ c.if-contains_key.false)
