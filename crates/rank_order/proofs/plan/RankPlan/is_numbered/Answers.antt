use Rattle.std.proofs.Common.{nat_lt, sym, ap, ◌∙◌}
use Rattle.net_names.specs.Numbers.{occurs}
use Rattle.cycle_check.specs.Places.{place_in}
use Rattle.rank_order.proofs.Edited.{place_tells}
use Rattle.rank_order.proofs.plan.RankPlan.is_numbered.Goals as goal

pub returns : goal.returns
returns c =
    ap (λ p. nat_lt p c.len.result) c.place_in.ensures.place
    ∙ ap (nat_lt (place_in c.deref.result.now c.args.asn)) (c.len.ensures ∙ sym c.deref.ensures.len)
    ∙ place_tells c.deref.result.now c.args.asn
    ∙ ap (occurs c.args.asn) c.deref.ensures.value
