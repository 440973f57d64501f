use Rattle.std.proofs.Common.{ap, arith, sym, true≢false, ◌∙◌}
use Rattle.std.specs.Prelude.{is_some}
use Rattle.dirty_recompute.proofs.ClearLemmas.{cleared_now}
use Rattle.dirty_recompute.proofs.clearing.clear_at.Goals as goal

pub returns-in_ok-room_over : goal.returns-in_ok-room_over
returns-in_ok-room_over c =
    cleared_now c.args.table.now c.args.overlay.now c.requires c.exchange_near.new.self c.args.asn
    (λ e. true≢false (sym c.if-is_some.true ∙ c.is_some.ensures ∙ ap is_some (c.get_near.ensures ∙ e)))
    c.exchange_near.ensures.this (λ b ne. c.exchange_near.ensures.others b ne ∙ c.in_ok-room_over.ensures.same b)
    (λ k. omega (arith, c.exchange_near.ensures.uses k, c.in_ok-room_over.ensures.uses k, c.requires.uses k))
