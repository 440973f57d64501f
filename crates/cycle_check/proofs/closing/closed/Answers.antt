use Rattle.std.proofs.Common.{◌∙◌, ◌<◌, ◌≡◌, length, sym, subst, arith}
use Rattle.cycle_check.specs.Cycles.{IsClosedBy}
use Rattle.cycle_check.proofs.Ending.{popped_closes}
use Rattle.cycle_check.proofs.closing.closed.Goals as goal

pub returns : goal.returns
returns c = λ g differ way. subst (IsClosedBy g c.args.pair.now.provider c.args.pair.now.customer) (sym (c.cycle_of.ensures ∙ c.in_ok-insert.ensures.items))
    (popped_closes g c.args.pair.now.provider c.args.pair.now.customer differ c.args.way.items c.pop-provider.new.self.items c.pop-provider.result _ c.pop-provider.ensures.items (λ some. c.pop-provider.ensures.value 0 (omega (arith, some, c.args.way.ok.0))) way)
