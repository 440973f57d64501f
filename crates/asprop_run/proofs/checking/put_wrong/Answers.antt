use Rattle.std.proofs.Common.{option_copied, ◌∙◌}
use Rattle.asprop_run.proofs.Facts.{wrong_text}
use Rattle.asprop_run.proofs.checking.put_wrong.Goals as goal

pub returns : goal.returns
returns c =
    wrong_text c.put_entry-2.result c.args.text.now.items c.as_bytes.result.now c.args.round c.args.asn (option_copied c.args.holds) (option_copied c.args.right) c.put_bytes.new.out.items c.put_entry.new.out.items
    c.put_bytes-2.new.out.items c.put_entry-2.new.out.items (c.as_bytes.ensures.value ∙ c.in_ok-front.ensures.ok) c.in_ok-put_bytes.ensures.ok c.in_ok-put_entry.ensures.ok c.in_ok-put_bytes-2.ensures.ok c.put_entry-2.ensures.ok
