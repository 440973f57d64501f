use Rattle.std.proofs.Common.{◌∙◌, sym, ap, subst}
use Rattle.cycle_check.specs.Cycles.{without_pair}
use Rattle.cycle_check.specs.Searches.{IsWayTo}
use Rattle.cycle_check.proofs.Ending.{ok_more, way_up, way_down}
use Rattle.cycle_check.proofs.closing.met.Goals as goal

pub returns-then-search : goal.returns-then-search
returns-then-search c = ok_more c.closed.result _ _ (λ cycle f g differ met.
    f g differ (way_up g c.args.pair.now.provider c.args.pair.now.customer c.args.search.now.up c.args.search.now.reached.entries c.args.at c.in_ok-way_back.field-0.items c.if-search.true met c.in_ok-way_back.ensures)) c.closed.ensures

pub returns : goal.returns
returns c = ok_more c.closed-2.result _ _ (λ cycle f g differ met.
    f g differ (subst (IsWayTo (without_pair g c.args.pair.now.provider c.args.pair.now.customer) c.args.pair.now.customer c.args.pair.now.provider) (sym c.reverse.ensures.items)
    (way_down g c.args.pair.now.provider c.args.pair.now.customer c.args.search.now.up c.args.search.now.reached.entries c.args.at c.in_ok-way.way.items c.if-search.false met c.in_ok-way.ensures))) c.closed-2.ensures
