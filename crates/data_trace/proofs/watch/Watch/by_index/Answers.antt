use Rattle.std.proofs.Common.{◌≡◌, ℕ, true, ◌∙◌}
use Rattle.std.specs.Prelude.{nat_eq}
use Rattle.std.specs.List.{IsDistinct}
use Rattle.as_graph.specs.Topology.{Topology}
use Rattle.route_choice.specs.RoundTables.{round_routing}
use Rattle.data_trace.specs.declared.kinds.Hop.{Hop}
use Rattle.data_trace.specs.declared.kinds.Hop.TheVariants as hop
use Rattle.data_trace.specs.declared.watch.Watch.{Watch}
use Rattle.data_trace.specs.Hops.{next_hop}
use Rattle.data_trace.specs.Watches.{AreRows}
use Rattle.data_trace.specs.Indexes.{has_as, IsIndexOf}
use Rattle.data_trace.specs.Views.{rows_of}
use Rattle.data_trace.proofs.Inside.{next_there, if_ok}
use Rattle.data_trace.proofs.Indexing.{index_rows}
use Rattle.data_trace.proofs.watch.Watch.by_index.Goals as goal

pub next_hops-requires-clause-among : goal.next_hops-requires-clause-among
next_hops-requires-clause-among c = next_there (has_as c.args.index.now) c.args.plan.now (round_routing c.args.pool.now c.args.tables.now) c.args.addr c.requires.inside

pub returns-clause-rows : goal.returns-clause-rows
returns-clause-rows c =
    let index = c.args.index.now in
    let next : ℕ → Hop = next_hop c.args.plan.now (round_routing c.args.pool.now c.args.tables.now) c.args.addr in
    let inside : (a b : ℕ) → next a ≡ hop.To b → has_as index b ≡ true = next_there (has_as index) c.args.plan.now (round_routing c.args.pool.now c.args.tables.now) c.args.addr c.requires.inside in
    let keys : c.in_ok-ases.ases.ases ≡ index.ases.ases = c.in_ok-ases.ensures.list ∙ c.as_slice.ensures.list in
    let apart : IsDistinct nat_eq index.ases.ases = c.as_slice.ensures.apart in
    if_ok (λ (w : Watch). w.ases.ases ≡ c.in_ok-ases.ases.ases) (λ w. w.columns.hops.items ≡ c.in_ok-next.next.items) (λ w. w.columns.groups.items ≡ c.in_ok-groups.groups.items)
    (λ w. (g : Topology) (label : ℕ → ℕ) → IsIndexOf g label index → AreRows g next label (rows_of w)) c.over.result
    (λ w a h s. index_rows index next inside apart c.in_ok-next.next.items c.in_ok-next.ensures w (a ∙ keys) h (s ∙ c.in_ok-groups.ensures.items ∙ c.as_slice-2.ensures.value))
    c.over.ensures.ases c.over.ensures.hops c.over.ensures.groups
