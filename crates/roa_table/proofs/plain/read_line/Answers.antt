use Rattle.roa_table.proofs.PlainRows.{row_read}
use Rattle.roa_table.proofs.plain.read_line.Goals as goal

pub returns : goal.returns
returns c =
    let r = row_read c.args.text.now c.in_ok-line.line.now c.split_field.result.0.now c.split_field.result.1.now c.in_ok-behind.field-0.now c.split_field-2.result.0.now c.split_field-2.result.1.now c.in_ok-behind-2.field-0.now
    c.split_field-3.result.0.now c.split_field-3.result.1.now c.in_ok-left.left.now c.in_ok-line.ensures c.split_field.ensures c.in_ok-behind.ensures c.split_field-2.ensures c.in_ok-behind-2.ensures c.split_field-3.ensures c.in_ok-left.ensures in
    record { fields = _; is = r.is; gives = c.judge_texts.ensures; ends = c.in_ok-left.ensures.ends }
