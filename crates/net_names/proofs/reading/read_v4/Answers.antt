use Rattle.std.proofs.Common.{Some, ap, sym, ◌∙◌}
use Rattle.net_names.proofs.AddressTexts.{v4_is, v4_is_none}
use Rattle.net_names.proofs.reading.read_v4.Goals as goal

pub returns-in-Ok : goal.returns-in-Ok
returns-in-Ok c = ap Some c.to_bits.ensures ∙ sym (v4_is c.args.text.now c.in-Ok.addr c.in-Ok.ensures)

pub returns-in-Err : goal.returns-in-Err
returns-in-Err c = sym (v4_is_none c.args.text.now c.in-Err.ensures)
