use Rattle.leak_round.proofs.Ordering.{told_as}
use Rattle.leak_round.proofs.told.told_in.Goals as goal

pub returns : goal.returns
returns c = told_as c.args.changes.now c.requires.listed c.requires.apart c.args.round c.in_ok-ases.ases.items c.in_ok-ases.ensures c.args.edited.now c.push_edited.new.ases.items c.put_in_order.new.ases.items c.in_ok-push_edited.ensures c.put_in_order.ensures
