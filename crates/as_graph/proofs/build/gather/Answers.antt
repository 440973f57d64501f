use Rattle.std.proofs.Common.{◌∙◌, arith}
use Rattle.std.specs.Map.{keys_of}
use Rattle.as_graph.proofs.Gathering.{split_next, first_rises, then_rises, both_items, gathered_next, many_ases, fewer_left}
use Rattle.as_graph.proofs.build.gather.Goals as goal

pub take_run-requires-clause-rising : goal.take_run-requires-clause-rising
take_run-requires-clause-rising c =
    first_rises c.args.higher.now c.args.lower.now c.loop-asn.from_higher c.loop-asn.from_lower c.in-Some.asn c.loop-asn.invariant.split c.in-Some.ensures.found (c.requires.rising c.in-Some.asn)
    c.in_ok-row.row.neighbours.items c.in_ok-row.row.neighbours.items c.in_ok-row.ensures.none

pub take_run-requires-in-Some-clause-rising : goal.take_run-requires-in-Some-clause-rising
take_run-requires-in-Some-clause-rising c =
    then_rises c.args.higher.now c.args.lower.now c.loop-asn.from_higher c.loop-asn.from_lower c.in-Some.asn c.loop-asn.invariant.split c.in-Some.ensures.found (c.requires.rising c.in-Some.asn)
    c.in_ok-row.row.neighbours.items c.take_run.new.row.neighbours.items c.in_ok-row.ensures.none c.in_ok-from_higher.ensures.taken

pub returns-then-len-gt-MOST_ASES-clause-refused : goal.returns-then-len-gt-MOST_ASES-clause-refused
returns-then-len-gt-MOST_ASES-clause-refused c =
    let items = both_items c.args.higher.now c.args.lower.now c.loop-asn.from_higher c.loop-asn.from_lower c.in-Some.asn c.loop-asn.invariant.split c.in-Some.ensures.found (c.requires.rising c.in-Some.asn)
    c.in_ok-row.row.neighbours.items c.take_run.new.row.neighbours.items c.in_ok-row.ensures.none c.take_run-in-Some.new.row.neighbours.items c.in_ok-from_higher.ensures.taken c.in_ok-from_lower.ensures.taken in
    let gathered = gathered_next c.loop-asn.rows c.insert.new.self c.args.higher.now c.args.lower.now c.loop-asn.from_higher c.loop-asn.from_lower c.in_ok-from_higher.from_higher c.in_ok-from_lower.from_lower c.in-Some.asn c.take_run-in-Some.new.row
    c.loop-asn.invariant.split c.in-Some.ensures.found c.in_ok-from_higher.ensures.run c.in_ok-from_lower.ensures.run items (c.in_ok-from_lower.ensures.marked ∙ c.in_ok-from_higher.ensures.marked ∙ c.in_ok-row.ensures.unmarked)
    c.in_ok-insert.ensures.updates.0 c.in_ok-insert.ensures.unique c.loop-asn.invariant.gathered in
    (keys_of c.insert.new.self.entries, many_ases c.insert.new.self c.args.higher.now c.args.lower.now _ _ gathered (omega (arith, c.len.ensures.len, c.if-len-gt-MOST_ASES.true)))

pub loop-asn-smaller : goal.loop-asn-smaller
loop-asn-smaller c =
    fewer_left c.args.higher.now c.args.lower.now c.loop-asn.from_higher c.loop-asn.from_lower c.in_ok-from_higher.from_higher c.in_ok-from_lower.from_lower c.in-Some.asn
    c.loop-asn.invariant.higher_within c.loop-asn.invariant.lower_within c.in-Some.ensures.found c.in_ok-from_higher.ensures.run c.in_ok-from_lower.ensures.run

pub loop-asn-preserved : goal.loop-asn-preserved
loop-asn-preserved c =
    let items = both_items c.args.higher.now c.args.lower.now c.loop-asn.from_higher c.loop-asn.from_lower c.in-Some.asn c.loop-asn.invariant.split c.in-Some.ensures.found (c.requires.rising c.in-Some.asn)
    c.in_ok-row.row.neighbours.items c.take_run.new.row.neighbours.items c.in_ok-row.ensures.none c.take_run-in-Some.new.row.neighbours.items c.in_ok-from_higher.ensures.taken c.in_ok-from_lower.ensures.taken in
    record {
      higher_within = c.in_ok-from_higher.ensures.run.within;
      lower_within = c.in_ok-from_lower.ensures.run.within;
      split = split_next c.args.higher.now c.args.lower.now c.loop-asn.from_higher c.loop-asn.from_lower c.in_ok-from_higher.from_higher c.in_ok-from_lower.from_lower c.in-Some.asn c.loop-asn.invariant.split c.in_ok-from_higher.ensures.run c.in_ok-from_lower.ensures.run;
      gathered = gathered_next c.loop-asn.rows c.insert.new.self c.args.higher.now c.args.lower.now c.loop-asn.from_higher c.loop-asn.from_lower c.in_ok-from_higher.from_higher c.in_ok-from_lower.from_lower c.in-Some.asn c.take_run-in-Some.new.row
          c.loop-asn.invariant.split c.in-Some.ensures.found c.in_ok-from_higher.ensures.run c.in_ok-from_lower.ensures.run items (c.in_ok-from_lower.ensures.marked ∙ c.in_ok-from_higher.ensures.marked ∙ c.in_ok-row.ensures.unmarked)
          c.in_ok-insert.ensures.updates.0 c.in_ok-insert.ensures.unique c.loop-asn.invariant.gathered;
      few = omega (arith, c.len.ensures.len, c.if-len-gt-MOST_ASES.false);
    }
