use Rattle.std.proofs.Common.{◌≡◌, true, Some, refl, sym, subst, slice_index_or, arith}
use Rattle.net_names.specs.Numbers.{occurs}
use Rattle.net_names.specs.declared.routes.Rel.TheVariants.{Provider}
use Rattle.as_graph.specs.Topology.{relation}
use Rattle.as_graph.specs.declared.neighbour.Neighbour.{Neighbour}
use Rattle.as_graph.specs.Neighbours.{asns}
use Rattle.three_pass.proofs.Elements.{one_more}
use Rattle.three_pass.proofs.Reaching.{around}
use Rattle.three_pass.proofs.course.put_providers.Goals as goal

pub loop-index-preserved : goal.loop-index-preserved
loop-index-preserved c =
    let xs = c.neighbours_near-neighbours.result.now in
    let i = c.loop-index.index in
    let x = c.index-neighbours-index.result in
    let linked : relation c.args.graph.now c.args.asn x.asn ≡ Some x.rel = subst (λ (t : Neighbour). relation c.args.graph.now c.args.asn t.asn ≡ Some t.rel) (sym c.index-neighbours-index.is) (c.neighbours_near-neighbours.ensures.each i x c.loop-index-test.true) in
    record {
      each = c.in_ok-put_if_provider.ensures.each (relation c.args.graph.now) c.args.asn linked c.loop-index.invariant.each;
      only = c.in_ok-put_if_provider.ensures.only c.loop-index.invariant.only;
      so_far = one_more xs i x c.index-neighbours-index.is c.loop-index-test.true (λ (t : Neighbour). t.rel ≡ Provider → occurs t.asn (asns c.put_if_provider.new.list.neighbours.items) ≡ true)
          (λ k less d is. c.in_ok-put_if_provider.ensures.others (slice_index_or xs k d).asn (c.loop-index.invariant.so_far k less d is))
          c.in_ok-put_if_provider.ensures.this;
    }

pub returns : goal.returns
returns c = record {
  each = c.loop-index.invariant.each;
  only = c.loop-index.invariant.only;
  complete = λ n linked. around (relation c.args.graph.now) c.args.asn c.neighbours_near-neighbours.result.now c.neighbours_near-neighbours.ensures (λ r. r ≡ Provider) (λ n. occurs n (asns c.loop-index.list.neighbours.items) ≡ true)
      (λ k less d is. c.loop-index.invariant.so_far k (omega (arith, less, c.loop-index-test.false)) d is) n Provider linked refl;
}
