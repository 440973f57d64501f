use Rattle.std.proofs.Common.{Some, ap, sym, ◌∙◌}
use Rattle.net_names.proofs.AddressTexts.{v6_dotted, v6_is, v6_is_none}
use Rattle.net_names.proofs.reading.read_v6.Goals as goal

pub returns-then-contains : goal.returns-then-contains
returns-then-contains c = sym (v6_dotted c.args.text.now (sym c.contains.ensures.value ∙ c.if-contains.true))

pub returns-in-Ok : goal.returns-in-Ok
returns-in-Ok c = ap Some c.to_bits.ensures ∙ sym (v6_is c.args.text.now c.in-Ok.addr (sym c.contains.ensures.value ∙ c.if-contains.false) c.in-Ok.ensures)

pub returns-in-Err : goal.returns-in-Err
returns-in-Err c = sym (v6_is_none c.args.text.now (sym c.contains.ensures.value ∙ c.if-contains.false) c.in-Err.ensures)
