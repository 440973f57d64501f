use Rattle.std.proofs.Common.{◌<◌, ◌≤◌, length, get_or, subst, sym, ap, ◌∙◌}
use Rattle.std.proofs.lemmas.List.{get_or_default}
use Rattle.as_graph.specs.Following.{IsNext}
use Rattle.as_graph.specs.Order.{IsStart}
use Rattle.as_graph.proofs.Kept.{next_read, none_read}
use Rattle.as_graph.proofs.graph.Graph.next.Goals as goal

pub returns-then-at-order-clause-found : goal.returns-then-at-order-clause-found
returns-then-at-order-clause-found c =
    let same = c.as_slice-order.ensures.value in
    let start = subst (λ ns. IsStart ns c.args.after c.start_above-at.result) same c.start_above-at.ensures.start in
    let within = subst (λ ns. c.start_above-at.result < length ns) same c.if-at-order.true in
    subst (IsNext c.args.self.now c.args.after)
    (sym (c.index-order-at.is ∙ ap (λ ns. get_or ns c.start_above-at.result c.index-order-at.result) same ∙ get_or_default c.self.inside.order.items c.start_above-at.result c.index-order-at.result 0 within))
    (next_read c.self.inside.rows c.self.inside.order.items c.self.inside.links c.self.invariant.0 c.args.self.now c.self.inside.room c.self.view_is c.args.after c.start_above-at.result start within)

pub returns-else-at-order-clause-none : goal.returns-else-at-order-clause-none
returns-else-at-order-clause-none c =
    let same = c.as_slice-order.ensures.value in
    none_read c.self.inside.rows c.self.inside.order.items c.self.inside.links c.self.invariant.0 c.args.self.now c.self.inside.room c.self.view_is c.args.after c.start_above-at.result
    (subst (λ ns. IsStart ns c.args.after c.start_above-at.result) same c.start_above-at.ensures.start)
    (subst (λ ns. length ns ≤ c.start_above-at.result) same c.if-at-order.false)
