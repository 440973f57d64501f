use Rattle.std.proofs.Common.{length, refl, slice_index, subst, take_all, ◌∙◌}
use Rattle.routing_tree.specs.Links.{list_at}
use Rattle.routing_tree.proofs.Choices.{IsShortestSoFar, inside, inside_at, none_yet, nothing, place_kept, shortest_more, so_far_none, so_far_some}
use Rattle.routing_tree.proofs.tree.RoutingTree.shortest_provider.Goals as goal

pub loop-provider-init : goal.loop-provider-init
loop-provider-init g c = record { inside = c.requires.inside; shortest = nothing refl (λ j is. absurd (none_yet c.list-provider-items.result.now j is)) }

pub shorter-shortest-requires-clause-inside : goal.shorter-shortest-requires-clause-inside
shorter-shortest-requires-clause-inside g c = inside_at (length c.args.placed.now.ases.now) c.args.placed.now.links.now.providers c.args.at c.list-provider-items.result.now c.loop-provider.provider-index c.requires.lists.providers c.list-provider-items.ensures c.loop-provider-test.true

pub loop-provider-preserved : goal.loop-provider-preserved
loop-provider-preserved g c =
    let ases = c.args.placed.now.ases.now in
    let xs = c.list-provider-items.result.now in
    let i = c.loop-provider.provider-index in record {
      inside = place_kept ases c.args.self.now (length ases) (slice_index xs i) c.loop-provider.shortest c.shorter-shortest.result c.shorter-shortest.ensures
          (inside_at (length ases) c.args.placed.now.links.now.providers c.args.at xs i c.requires.lists.providers c.list-provider-items.ensures c.loop-provider-test.true) c.loop-provider.invariant.inside;
      shortest = shortest_more ases c.args.self.now c.requires.short xs i c.loop-provider-test.true c.loop-provider.shortest c.shorter-shortest.result c.shorter-shortest.ensures c.loop-provider.invariant.shortest;
    }

pub returns-then-shortest : goal.returns-then-shortest
returns-then-shortest g c = λ p all takes states distinct none.
    let ases = c.args.placed.now.ases.now in
    let t = c.args.self.now in
    let links = c.args.placed.now.links.now in
    so_far_none p all ases t takes states distinct (list_at links.peers c.args.at) (list_at links.providers c.args.at) none c.requires.short c.loop-provider.shortest c.if-shortest.true
    (subst (λ xs. IsShortestSoFar ases t xs c.loop-provider.shortest) (take_all c.loop-provider.provider-index c.list-provider-items.result.now c.loop-provider-test.false ∙ c.list-provider-items.ensures) c.loop-provider.invariant.shortest)

pub returns : goal.returns
returns g c = λ p all takes states distinct none.
    let ases = c.args.placed.now.ases.now in
    let t = c.args.self.now in
    let links = c.args.placed.now.links.now in
    so_far_some p all ases t takes states distinct (list_at links.peers c.args.at) (list_at links.providers c.args.at) none (inside (length ases) links.providers c.args.at c.requires.lists.providers) c.loop-provider.shortest c.if-shortest.false
    (subst (λ xs. IsShortestSoFar ases t xs c.loop-provider.shortest) (take_all c.loop-provider.provider-index c.list-provider-items.result.now c.loop-provider-test.false ∙ c.list-provider-items.ensures) c.loop-provider.invariant.shortest)
