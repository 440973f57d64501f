use Rattle.std.proofs.Common.{◌≡◌, map, take}
use Rattle.as_graph.specs.Topology.{Topology}
use Rattle.policy_kinds.specs.Kinds.{label}
use Rattle.policy_kinds.specs.declared.kind.Kind.{Kind}
use Rattle.stability_laws.specs.Book.{PolicyBook, policy_at}
use Rattle.data_trace.specs.Indexes.{IsIndexOf}
use Rattle.data_trace.specs.Views.{addr_of}
use Rattle.leak_round.specs.Rounds.{kept, plan_of}
use Rattle.sim_core.specs.Watching.{AreWatches, seen_of}
use Rattle.sim_core.proofs.watching.watch_round.Given as goal

abbrev pub invariant-loop-addr : goal.invariant-loop-addr
invariant-loop-addr l = record {
  rows : (g : Topology) (book : PolicyBook Kind) → IsIndexOf g (λ a. label (policy_at book a)) l.index → AreWatches g (plan_of l.rounds) (kept l.rounds l.round) book (map seen_of l.watches.items);
  addrs : map addr_of l.watches.items ≡ take l.addr-index l.addrs;
}
