use Rattle.std.proofs.Common.{◌≡◌, ◌≢◌, Some, sym, ◌∙◌, ap, subst, slice_index_or, option_map, arith}
use Rattle.net_names.specs.Links.{converse}
use Rattle.net_names.specs.declared.routes.Rel.TheVariants.{Customer}
use Rattle.as_graph.specs.Topology.{relation}
use Rattle.as_graph.specs.declared.neighbour.Neighbour.{Neighbour}
use Rattle.as_graph.proofs.Links.{relation_mutual}
use Rattle.three_pass.specs.Told.{IsTold}
use Rattle.three_pass.proofs.Elements.{one_more}
use Rattle.three_pass.proofs.Reaching.{around}
use Rattle.three_pass.proofs.told.Told.tell_around.Goals as goal

pub loop-index-preserved : goal.loop-index-preserved
loop-index-preserved c =
    let w = relation c.args.graph.now in
    let xs = c.neighbours_near-neighbours.result.now in
    let i = c.loop-index.index in
    let x = c.index-neighbours-index.result in
    let linked : w c.args.asn x.asn ≡ Some x.rel = subst (λ (t : Neighbour). w c.args.asn t.asn ≡ Some t.rel) (sym c.index-neighbours-index.is) (c.neighbours_near-neighbours.ensures.each i x c.loop-index-test.true) in
    let back : w x.asn c.args.asn ≡ Some (converse x.rel) = relation_mutual c.args.graph.now c.args.asn x.asn ∙ ap (option_map converse) linked in
    record {
      above = one_more xs i x c.index-neighbours-index.is c.loop-index-test.true (λ (t : Neighbour). t.rel ≢ Customer → IsTold c.tell_if_above.new.self t.asn c.args.asn)
          (λ k less d other. c.tell_if_above.ensures.others (slice_index_or xs k d).asn c.args.asn (c.loop-index.invariant.above k less d other))
          c.tell_if_above.ensures.this;
      others = λ a b told. c.tell_if_above.ensures.others a b (c.loop-index.invariant.others a b told);
      sound = λ are. c.tell_if_above.ensures.sound w back (c.loop-index.invariant.sound are);
    }

pub returns-clause-around : goal.returns-clause-around
returns-clause-around c =
    around (relation c.args.graph.now) c.args.asn c.neighbours_near-neighbours.result.now c.neighbours_near-neighbours.ensures (λ r. r ≢ Customer) (λ n. IsTold c.loop-index.self n c.args.asn)
    (λ k less d is. c.loop-index.invariant.above k (omega (arith, less, c.loop-index-test.false)) d is)
