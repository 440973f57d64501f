use Rattle.std.proofs.Common.{cond, None, Some, ap, sym, ◌∙◌}
use Rattle.std.proofs.lemmas.List.{take_all}
use Rattle.std.specs.FinMap as fin
use Rattle.std.specs.Option.{option_copied}
use Rattle.std.specs.Ordering.{nat_cmp}
use Rattle.net_names.specs.Numbers.{occurs}
use Rattle.asprop_run.proofs.Copies.{all_copied, none_copied, one_copied}
use Rattle.asprop_run.proofs.activating.same_routing.Goals as goal
use Rattle.asprop_run.proofs.activating.same_routing.Goals.{in-Some+in_ok-copied+in_ok-put, in_default}

pub loop-asn-init : goal.loop-asn-init
loop-asn-init c a = ap (λ m. fin.get m a) c.new-routing.ensures ∙ fin.get-empty nat_cmp a

pub loop-asn-preserved : goal.loop-asn-preserved
loop-asn-preserved c =
    elim c.match-get.branch [
      | in-Some+in_ok-copied+in_ok-put w ↦ λ a.
          ap (λ m. fin.get m a) w.routing-is
          ∙ one_copied c.args.held.now c.loop-asn.routing w.put.new.self c.args.ases.now c.loop-asn.asn-index c.asn-item.result c.loop-asn-test.true c.asn-item.is w.in_ok-copied.field-0
          (ap Some w.in_ok-copied.ensures ∙ w.in-Some.ensures.value) w.in_ok-put.ensures.ok c.loop-asn.invariant a
      | in_default w ↦
          none_copied c.args.held.now c.loop-asn.routing c.match-get.routing c.args.ases.now c.loop-asn.asn-index c.asn-item.result c.loop-asn-test.true c.asn-item.is
          (ap option_copied (sym w.in_default.is) ∙ c.get.ensures.value) w.routing-is c.loop-asn.invariant
    ]

pub returns : goal.returns
returns c = all_copied c.args.held.now c.loop-asn.routing c.args.ases.now c.requires (λ a. c.loop-asn.invariant a ∙ ap (λ l. cond (occurs a l) (fin.get c.args.held.now a) None) (take_all c.loop-asn.asn-index c.args.ases.now c.loop-asn-test.false))
