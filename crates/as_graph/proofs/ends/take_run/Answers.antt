use Rattle.std.proofs.Common.{rules, ◌≡◌, ◌≢◌, ◌<◌, ◌++◌, [], drop, get_or, sym, ap, ◌∙◌, arith, append-nil}
use Rattle.as_graph.specs.Ends.{ends_at}
use Rattle.as_graph.proofs.EndLemmas.{push_fits, after_from, none_past}
use Rattle.as_graph.proofs.ends.take_run.Goals as goal

pub push-requires : goal.push-requires
push-requires c =
    let at : (get_or c.args.ends.now c.loop-place.place c.index-ends-place.result).at ≡ c.args.asn = search rules in
    push_fits c.args.ends.now c.loop-place.place c.args.asn c.index-ends-place.result _ c.loop-place.row.neighbours.items _ c.loop-place-test.true at c.loop-place.invariant.taken c.requires.rising

pub returns-else-eq-clause-taken : goal.returns-else-eq-clause-taken
returns-else-eq-clause-taken c =
    let differs : (get_or c.args.ends.now c.loop-place.place c.index-ends-place.result).at ≢ c.args.asn = search rules in
    let less : c.args.asn < (get_or c.args.ends.now c.loop-place.place c.index-ends-place.result).at = omega (arith, differs, c.requires.least c.loop-place.place c.index-ends-place.result c.loop-place.invariant.start c.loop-place-test.true) in
    let none : ends_at c.args.asn (drop c.loop-place.place c.args.ends.now) ≡ [] = none_past c.args.ends.now c.args.asn c.loop-place.place (after_from c.args.ends.now c.requires.by_as c.loop-place.place c.args.asn c.index-ends-place.result less c.loop-place-test.true) in
    sym (append-nil c.loop-place.row.neighbours.items) ∙ sym (ap (λ l. c.loop-place.row.neighbours.items ++ l) none) ∙ c.loop-place.invariant.taken

pub returns-else-eq-clause-run : goal.returns-else-eq-clause-run
returns-else-eq-clause-run c =
    let differs : (get_or c.args.ends.now c.loop-place.place c.index-ends-place.result).at ≢ c.args.asn = search rules in
    let less : c.args.asn < (get_or c.args.ends.now c.loop-place.place c.index-ends-place.result).at = omega (arith, differs, c.requires.least c.loop-place.place c.index-ends-place.result c.loop-place.invariant.start c.loop-place-test.true) in
    record {
      start = c.loop-place.invariant.start;
      within = c.loop-place.invariant.within;
      these = c.loop-place.invariant.these;
      after = after_from c.args.ends.now c.requires.by_as c.loop-place.place c.args.asn c.index-ends-place.result less c.loop-place-test.true;
    }
