use Rattle.std.proofs.Common.{◌≤◌, length, Some, sym, ap, ◌∙◌, subst}
use Rattle.std.specs.List.Sorted.{IsStrictlyIncreasing}
use Rattle.net_names.specs.Numbers.{occurs}
use Rattle.as_graph.specs.Order.{IsStart}
use Rattle.as_graph.proofs.OrderLemmas.{occurs-insert, rising_insert}
use Rattle.as_graph.proofs.order.put_in_order.Goals as goal

pub returns-clause-listed : goal.returns-clause-listed
returns-clause-listed c = λ a.
    let same = c.as_slice.ensures.value in
    ap (occurs a) c.in-Ok.ensures.items
    ∙ occurs-insert c.args.order.now.items c.requires.rising c.args.asn c.start_above-at.result (subst (λ ns. IsStart ns (Some c.args.asn) c.start_above-at.result) same c.start_above-at.ensures.start) (subst (λ ns. c.start_above-at.result ≤ length ns) same c.start_above-at.ensures.within) a

pub returns-clause-rising : goal.returns-clause-rising
returns-clause-rising c =
    let same = c.as_slice.ensures.value in
    subst IsStrictlyIncreasing (sym c.in-Ok.ensures.items)
    (rising_insert c.args.order.now.items c.requires.rising c.args.asn c.start_above-at.result (subst (λ ns. IsStart ns (Some c.args.asn) c.start_above-at.result) same c.start_above-at.ensures.start) (subst (λ ns. c.start_above-at.result ≤ length ns) same c.start_above-at.ensures.within) c.requires.new)
