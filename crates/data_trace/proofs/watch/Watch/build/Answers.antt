use Rattle.std.proofs.Common.{ℕ, ◌∙◌}
use Rattle.as_graph.specs.Topology.{Topology}
use Rattle.stability_laws.specs.Book.{policy_at}
use Rattle.route_choice.specs.RoundTables.{round_routing}
use Rattle.data_trace.specs.declared.watch.Watch.{Watch}
use Rattle.data_trace.specs.Hops.{next_hop}
use Rattle.data_trace.specs.Watches.{AreRows}
use Rattle.data_trace.specs.Indexes.{IsIndexOf}
use Rattle.data_trace.specs.Views.{rows_of}
use Rattle.data_trace.proofs.Inside.{ok_gives}
use Rattle.data_trace.proofs.watch.Watch.build.Goals as goal

pub by_index-requires-clause-inside : goal.by_index-requires-clause-inside
by_index-requires-clause-inside g c = λ p a b free second. c.in_ok-index.ensures.listed b ∙ c.requires.inside p a b free second

pub returns-clause-rows : goal.returns-clause-rows
returns-clause-rows g c =
    let label : ℕ → ℕ = λ a. g.P.Labelled.label_of (policy_at c.args.book.now a) in
    let next = next_hop c.args.plan.now (round_routing c.args.pool.now c.args.tables.now) c.args.addr in
    ok_gives (λ (w : Watch). (g : Topology) (label : ℕ → ℕ) → IsIndexOf g label c.in_ok-index.index → AreRows g next label (rows_of w)) (λ w. AreRows c.args.graph.now next label (rows_of w)) c.by_index.result
    (λ w all. all c.args.graph.now label c.in_ok-index.ensures) c.by_index.ensures.rows
