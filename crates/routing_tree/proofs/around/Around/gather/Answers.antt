use Rattle.std.proofs.Common.{◌≡◌, ◌<◌, ℕ, true, Some, length, slice_index, slice_index_or, refl, sym, ◌∙◌, ap, subst, arith}
use Rattle.net_names.specs.Numbers.{occurs}
use Rattle.as_graph.specs.Topology.{relation}
use Rattle.as_graph.specs.declared.neighbour.Neighbour.{Neighbour}
use Rattle.three_pass.proofs.Elements.{one_more}
use Rattle.three_pass.proofs.Reaching.{around}
use Rattle.routing_tree.specs.Links.{places_of}
use Rattle.routing_tree.proofs.PlacesAround.{HasPlaceIn, cleared, none_there, place_kept, place_new, places_more, stands_at}
use Rattle.routing_tree.proofs.around.Around.gather.Goals as goal

pub place_in-place-requires-clause-there : goal.place_in-place-requires-clause-there
place_in-place-requires-clause-there c =
    let x = c.index-neighbours-index.result in
    let linked : relation c.args.graph.now c.args.asn x.asn ≡ Some x.rel = subst (λ (t : Neighbour). relation c.args.graph.now c.args.asn t.asn ≡ Some t.rel) (sym c.index-neighbours-index.is) (c.neighbours_near-neighbours.ensures.each c.loop-index.index x c.loop-index-test.true) in
    c.requires.all x.asn (c.links_are_sound.ensures.ends c.args.graph.now c.args.asn x.asn x.rel linked)

pub loop-index-init : goal.loop-index-init
loop-index-init c = record {
  each = λ r. none_there (λ j. (j < length c.args.places.now.ases) × (relation c.args.graph.now c.args.asn (slice_index c.args.places.now.ases j) ≡ Some r)) (places_of c.clear.new.self r) (cleared c.clear.new.self c.clear.ensures.customers c.clear.ensures.peers c.clear.ensures.providers r);
  so_far = λ k less. absurd (omega (arith, less));
}

pub loop-index-preserved : goal.loop-index-preserved
loop-index-preserved c =
    let xs = c.neighbours_near-neighbours.result.now in
    let ases = c.args.places.now.ases in
    let i = c.loop-index.index in
    let x = c.index-neighbours-index.result in
    let j = c.place_in-place.result in
    let old = c.loop-index.self in
    let new = c.put.new.self in
    let linked : relation c.args.graph.now c.args.asn x.asn ≡ Some x.rel = subst (λ (t : Neighbour). relation c.args.graph.now c.args.asn t.asn ≡ Some t.rel) (sym c.index-neighbours-index.is) (c.neighbours_near-neighbours.ensures.each i x c.loop-index-test.true) in
    let (inside, at) = stands_at ases j x.asn c.place_in-place.ensures in
    let put = c.in_ok-put.ensures in
    record {
      each = places_more old new x.rel j put (λ r j. (j < length ases) × (relation c.args.graph.now c.args.asn (slice_index ases j) ≡ Some r)) c.loop-index.invariant.each
          (inside, ap (relation c.args.graph.now c.args.asn) at ∙ linked);
      so_far = one_more xs i x c.index-neighbours-index.is c.loop-index-test.true (HasPlaceIn ases new)
          (λ k less d. (let (y, below, is, there) = c.loop-index.invariant.so_far k less d in (y, below, is, place_kept old new x.rel j put (slice_index_or xs k d).rel y there)))
          (j, inside, at, place_new old new x.rel j put);
    }

pub returns : goal.returns
returns c r =
    let xs = c.neighbours_near-neighbours.result.now in
    let ases = c.args.places.now.ases in
    let self = c.loop-index.self in
    record {
      each = c.loop-index.invariant.each r;
      complete = λ n linked. around (relation c.args.graph.now) c.args.asn xs c.neighbours_near-neighbours.ensures (λ s. s ≡ r) (λ n. (j : ℕ) × (j < length ases) × (slice_index ases j ≡ n) × (occurs j (places_of self r) ≡ true))
          (λ k less d same. subst (λ s. (j : ℕ) × (j < length ases) × (slice_index ases j ≡ (slice_index_or xs k d).asn) × (occurs j (places_of self s) ≡ true)) same (c.loop-index.invariant.so_far k (omega (arith, less, c.loop-index-test.false)) d)) n r linked refl;
    }
