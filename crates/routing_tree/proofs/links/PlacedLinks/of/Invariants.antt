use Rattle.std.proofs.Common.{◌≤◌, length}
use Rattle.net_names.specs.declared.routes.Rel.TheVariants.{Customer, Peer, Provider}
use Rattle.as_graph.specs.Topology.{relation}
use Rattle.routing_tree.specs.Links.{AreListsOf}
use Rattle.routing_tree.proofs.links.PlacedLinks.of.Given as goal

abbrev pub invariant-loop-place : goal.invariant-loop-place
invariant-loop-place l = record {
  inside : l.place ≤ length l.ases;
  customers : AreListsOf (relation l.graph) l.ases Customer l.place l.links.customers;
  peers : AreListsOf (relation l.graph) l.ases Peer l.place l.links.peers;
  providers : AreListsOf (relation l.graph) l.ases Provider l.place l.links.providers;
}
