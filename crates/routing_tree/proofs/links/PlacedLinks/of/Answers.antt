use Rattle.std.proofs.Common.{◌≡◌, ℕ, List, length, slice_index, ◌∙◌, ap, subst, arith}
use Rattle.std.proofs.lemmas.List.{get_or_read}
use Rattle.net_names.specs.Numbers.{occurs}
use Rattle.net_names.specs.declared.routes.Rel.{Rel}
use Rattle.net_names.specs.declared.routes.Rel.TheVariants.{Customer, Peer, Provider}
use Rattle.as_graph.specs.Topology.{relation}
use Rattle.as_graph.proofs.RowAses.{as_count-listed}
use Rattle.routing_tree.specs.Links.{AreLinksOf, ArePlacesOf, HasLists, places_of}
use Rattle.routing_tree.proofs.PlacesAround.{all_links, all_lists, lists_more, no_lists}
use Rattle.routing_tree.proofs.links.PlacedLinks.of.Goals as goal

pub gather-requires-clause-few : goal.gather-requires-clause-few
gather-requires-clause-few c =
    let same = ap length c.in_ok-places.ensures.list in
    let listed = ap length c.as_slice-ases.ensures.value in
    let counted = as_count-listed c.args.graph.now c.args.order.now.ases.items c.requires.1.apart c.requires.1.complete in
    omega (arith, same, listed, counted, c.as_count-count.ensures.value, c.as_count-count.ensures.few)

pub gather-requires-clause-all : goal.gather-requires-clause-all
gather-requires-clause-all c n there = ap (occurs n) (c.in_ok-places.ensures.list ∙ c.as_slice-ases.ensures.value) ∙ c.requires.1.complete n ∙ there

pub loop-place-init : goal.loop-place-init
loop-place-init c =
    let w = relation c.args.graph.now in
    let ases = c.as_slice-ases.result.now in
    let none = c.in_ok-links.ensures in
    record {
      inside = omega arith;
      customers = no_lists w ases Customer c.in_ok-links.links.customers none.customer_count none.customers;
      peers = no_lists w ases Peer c.in_ok-links.links.peers none.peer_count none.peers;
      providers = no_lists w ases Provider c.in_ok-links.links.providers none.provider_count none.providers;
    }

pub loop-place-preserved : goal.loop-place-preserved
loop-place-preserved c =
    let w = relation c.args.graph.now in
    let ases = c.as_slice-ases.result.now in
    let i = c.loop-place.place in
    let same = get_or_read ases i c.index-ases-place.result c.loop-place-test.true c.index-ases-place.is 0 in
    let listed = c.in_ok-places.ensures.list in
    let around : (r : Rel) → ArePlacesOf w ases (slice_index ases i) r (places_of c.gather.new.self r) = λ r. coe 0 1 (j. ArePlacesOf w (listed j) (same j) r (places_of c.gather.new.self r)) (c.in_ok-gather.ensures r) in
    let old = c.loop-place.links in
    let new = c.push.new.self in
    record {
      inside = omega (arith, c.loop-place-test.true);
      customers = lists_more w ases Customer i old.customers new.customers c.gather.new.self.customers.items c.loop-place.invariant.customers c.in_ok-push.ensures.customers (around Customer);
      peers = lists_more w ases Peer i old.peers new.peers c.gather.new.self.peers.items c.loop-place.invariant.peers c.in_ok-push.ensures.peers (around Peer);
      providers = lists_more w ases Provider i old.providers new.providers c.gather.new.self.providers.items c.loop-place.invariant.providers c.in_ok-push.ensures.providers (around Provider);
    }

pub returns-clause-links : goal.returns-clause-links
returns-clause-links c =
    let ases = c.as_slice-ases.result.now in
    let all : c.loop-place.place ≡ length ases = omega (arith, c.loop-place.invariant.inside, c.loop-place-test.false) in
    let links = all_links (relation c.args.graph.now) ases c.loop-place.place c.loop-place.links all c.loop-place.invariant.customers c.loop-place.invariant.peers c.loop-place.invariant.providers in
    subst (λ (xs : List ℕ). AreLinksOf (relation c.args.graph.now) xs c.loop-place.links) c.as_slice-ases.ensures.value links

pub returns-clause-lists : goal.returns-clause-lists
returns-clause-lists c =
    let ases = c.as_slice-ases.result.now in
    let all : c.loop-place.place ≡ length ases = omega (arith, c.loop-place.invariant.inside, c.loop-place-test.false) in
    let lists = all_lists (relation c.args.graph.now) ases c.loop-place.place c.loop-place.links all c.loop-place.invariant.customers c.loop-place.invariant.peers c.loop-place.invariant.providers in
    subst (λ (xs : List ℕ). HasLists (length xs) c.loop-place.links) c.as_slice-ases.ensures.value lists
