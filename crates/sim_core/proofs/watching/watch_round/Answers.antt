use Rattle.std.proofs.Common.{◌≡◌, ◌∙◌, ◌+◌, ◌++◌, ◌∷◌, [], List, ap, map, subst, sym, take}
use Rattle.std.proofs.lemmas.List.{take_all, take_more}
use Rattle.net_names.specs.Addresses.{AddrValue}
use Rattle.path_pool.specs.declared.pool.PathPool.{PathPool}
use Rattle.policy_kinds.specs.Kinds.{label}
use Rattle.policy_kinds.specs.declared.kind.Kind.{Kind}
use Rattle.stability_laws.specs.Book.{PolicyBook, policy_at}
use Rattle.route_choice.specs.RoundTables.{round_routing}
use Rattle.leak_round.specs.Rounds.{kept, plan_of}
use Rattle.as_graph.specs.Topology.{Topology}
use Rattle.data_trace.specs.Hops.{next_hop}
use Rattle.data_trace.specs.Indexes.{has_as, IsIndexOf}
use Rattle.data_trace.specs.Views.{addr_of, rows_of}
use Rattle.data_trace.specs.Watches.{AreRows}
use Rattle.data_trace.specs.declared.watch.Watch.{Watch}
use Rattle.sim_core.specs.Watching.{AreWatches, seen_of}
use Rattle.sim_core.proofs.Hops.{same_rows, tables_go_on}
use Rattle.sim_core.proofs.Watches.{one_addr_more, one_watch_more}
use Rattle.sim_core.proofs.watching.watch_round.Goals as goal

pub by_index-requires-clause-inside : goal.by_index-requires-clause-inside
by_index-requires-clause-inside c =
    tables_go_on (has_as c.args.index.now) c.pool-pool.result.now c.in-Some.tables.now c.seed_plan-plan.result.now (plan_of c.args.rounds.now) (kept c.args.rounds.now c.args.round)
    c.seed_plan-plan.ensures (λ p b. ap (λ (pool : PathPool). round_routing pool c.in-Some.tables.now p b) c.pool-pool.ensures.value ∙ c.in-Some.ensures.routing p b) c.in-Some.ensures.prefixes c.requires.inside

pub loop-addr-preserved : goal.loop-addr-preserved
loop-addr-preserved c =
    let plan = plan_of c.args.rounds.now in
    let held = kept c.args.rounds.now c.args.round in
    let old = c.loop-addr.watches.items in
    let watch = c.in_ok-watch.watch in
    let rows : (g : Topology) (book : PolicyBook Kind) → IsIndexOf g (λ a. label (policy_at book a)) c.args.index.now → AreRows g (next_hop plan held c.addr-item.result) (λ a. label (policy_at book a)) (rows_of watch) =
    λ g book is. same_rows watch g (λ a. label (policy_at book a)) c.seed_plan-plan.result.now plan (round_routing c.pool-pool.result.now c.in-Some.tables.now) held c.addr-item.result
    c.seed_plan-plan.ensures (λ p b. ap (λ (pool : PathPool). round_routing pool c.in-Some.tables.now p b) c.pool-pool.ensures.value ∙ c.in-Some.ensures.routing p b) (c.in_ok-watch.ensures.rows g (λ a. label (policy_at book a)) is) in
    let longer : take (c.loop-addr.addr-index + 1) c.args.addrs.now ≡ take c.loop-addr.addr-index c.args.addrs.now ++ c.addr-item.result ∷ [] =
    take_more c.args.addrs.now c.loop-addr.addr-index c.addr-item.result c.loop-addr-test.true ∙ ap (λ a. take c.loop-addr.addr-index c.args.addrs.now ++ a ∷ []) (sym c.addr-item.is) in
    record {
      rows = λ g book is. subst (λ (ws : List Watch). AreWatches g plan held book (map seen_of ws)) (sym c.in_ok-push.ensures.items)
          (one_watch_more g plan held book old watch (c.loop-addr.invariant.rows g book is) (subst (λ (x : AddrValue). AreRows g (next_hop plan held x) (λ a. label (policy_at book a)) (rows_of watch)) (sym c.in_ok-watch.ensures.addr) (rows g book is)));
      addrs = ap (map addr_of) c.in_ok-push.ensures.items ∙ one_addr_more old watch (take c.loop-addr.addr-index c.args.addrs.now) c.addr-item.result c.loop-addr.invariant.addrs c.in_ok-watch.ensures.addr ∙ sym longer;
    }

pub returns-clause-rows : goal.returns-clause-rows
returns-clause-rows c = c.loop-addr.invariant.rows

pub returns-clause-addrs : goal.returns-clause-addrs
returns-clause-addrs c = c.loop-addr.invariant.addrs ∙ take_all c.loop-addr.addr-index c.args.addrs.now c.loop-addr-test.false
