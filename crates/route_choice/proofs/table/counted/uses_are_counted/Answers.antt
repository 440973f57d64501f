use Rattle.route_choice.proofs.Counted.{found_all}
use Rattle.route_choice.proofs.table.counted.uses_are_counted.Goals as goal

pub returns : goal.returns
returns c = λ k.
    let f = found_all c.args.table.now.slots.entries k c.len-count.ensures.apart in
    record { ases = f.ases; distinct = f.distinct; entries = f.entries; enough = f.enough }
