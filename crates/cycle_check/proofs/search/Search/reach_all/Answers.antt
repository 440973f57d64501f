use Rattle.std.proofs.Common.{◌≡◌, ◌∙◌, ◌<◌, ◌+◌, ℕ, List, get_or, sym, ap, subst, arith}
use Rattle.std.proofs.lemmas.List.{get_or_default}
use Rattle.as_graph.specs.declared.neighbour.Neighbour.{Neighbour}
use Rattle.as_graph.specs.Rows.{blank}
use Rattle.cycle_check.specs.Searches.{gains_wanted}
use Rattle.cycle_check.proofs.Wanting.{goes_more, met_more, all_met}
use Rattle.cycle_check.proofs.search.Search.reach_all.Goals as goal

pub loop-neighbour-preserved : goal.loop-neighbour-preserved
loop-neighbour-preserved c =
    let ns : List Neighbour = c.neighbours-neighbours.result.now in
    let k : ℕ = c.loop-neighbour.neighbour-index in
    let here : c.neighbour-item.result ≡ get_or ns k blank = c.neighbour-item.is ∙ get_or_default ns k c.neighbour-item.result blank c.loop-neighbour-test.true in
    let is : c.reach_wanted.new.reached.entries ≡ gains_wanted c.args.up c.args.pair.now.provider c.args.pair.now.customer c.args.asn c.args.from c.loop-neighbour.reached.entries (get_or ns k blank) =
    c.in_ok-reach_wanted.ensures.gains ∙ ap (gains_wanted c.args.up c.args.pair.now.provider c.args.pair.now.customer c.args.asn c.args.from c.loop-neighbour.reached.entries) here in
    record {
      unique = c.reach_wanted.ensures.unique;
      goes = goes_more c.args.graph.now c.args.pair.now.provider c.args.pair.now.customer c.args.up c.args.asn c.args.from c.args.reached.now.entries c.loop-neighbour.reached.entries c.reach_wanted.new.reached.entries ns c.neighbours-neighbours.ensures k c.loop-neighbour-test.true is c.loop-neighbour.invariant.goes;
      met = met_more c.args.graph.now c.args.pair.now.provider c.args.pair.now.customer c.args.up c.args.asn c.args.from c.args.reached.now.entries c.loop-neighbour.reached.entries c.reach_wanted.new.reached.entries ns c.neighbours-neighbours.ensures k c.loop-neighbour-test.true is c.loop-neighbour.invariant.met;
    }

pub returns-clause-all : goal.returns-clause-all
returns-clause-all c = all_met c.args.graph.now c.args.pair.now.provider c.args.pair.now.customer c.args.asn c.args.up c.neighbours-neighbours.result.now c.loop-neighbour.reached.entries c.neighbours-neighbours.ensures (λ k inside t. c.loop-neighbour.invariant.met k (omega (arith, inside, c.loop-neighbour-test.false)) t)
