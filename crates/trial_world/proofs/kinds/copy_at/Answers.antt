use Rattle.std.proofs.Common.{◌≡◌, ◌∙◌, ◌+◌, ◌++◌, ◌∷◌, [], ap, sym, take, ◌==◌}
use Rattle.std.specs.Prelude.{if◌then◌else◌}
use Rattle.std.proofs.lemmas.List.{take_more}
use Rattle.policy_kinds.specs.declared.kind.Kind.{Kind}
use Rattle.stability_laws.specs.Book.{policy_at}
use Rattle.trial_world.proofs.KindBooks.{copied, plain_at}
use Rattle.trial_world.proofs.kinds.copy_at.Goals as goal

pub loop-asn-init : goal.loop-asn-init
loop-asn-init c = plain_at c.new-copy.result c.new-copy.ensures.rest c.new-copy.ensures.named

pub loop-asn-preserved : goal.loop-asn-preserved
loop-asn-preserved c =
    let x = c.asn-item.result in
    let i = c.loop-asn.asn-index in
    let longer : take (i + 1) c.args.ases.now ≡ take i c.args.ases.now ++ x ∷ [] = take_more c.args.ases.now i x c.loop-asn-test.true ∙ ap (λ y. take i c.args.ases.now ++ y ∷ []) (sym c.asn-item.is) in
    copied (policy_at c.args.book.now) (policy_at c.loop-asn.copy) (policy_at c.give.new.book) c.args.ases.now i x longer c.loop-asn.invariant
    (λ a. c.in_ok-give.ensures a ∙ ap (λ (k : Kind). if x == a then k else policy_at c.loop-asn.copy a) c.policy.ensures)
