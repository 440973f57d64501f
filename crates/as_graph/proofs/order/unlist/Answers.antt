use Rattle.std.proofs.Common.{◌≡◌, ◌<◌, length, get_or, Err, sym, ap, ◌∙◌, subst}
use Rattle.std.proofs.lemmas.Cmp.{ranked}
use Rattle.std.specs.List.Sorted.{IsStrictlyIncreasing}
use Rattle.net_names.specs.Numbers.{occurs}
use Rattle.as_graph.proofs.OrderLemmas.{searched_listed, occurs-remove, gone-remove, rising_remove}
use Rattle.as_graph.proofs.order.unlist.Goals as goal

pub returns-in-Ok-clause-this : goal.returns-in-Ok-clause-this
returns-in-Ok-clause-this c =
    let here : get_or c.args.order.now.items c.in-Ok.at 0 ≡ c.args.asn = ap (λ l. get_or l c.in-Ok.at 0) (sym c.deref.ensures.value) ∙ ranked _ c.args.asn _ (sym (c.in-Ok.ensures.position 0)) in
    ap (occurs c.args.asn) c.remove-gone.ensures.items ∙ gone-remove c.args.order.now.items c.requires.rising c.args.asn c.in-Ok.at (subst (λ l. c.in-Ok.at < length l) c.deref.ensures.value c.in-Ok.ensures.bound) here

pub returns-in-Ok-clause-others : goal.returns-in-Ok-clause-others
returns-in-Ok-clause-others c = λ a ne.
    let here : get_or c.args.order.now.items c.in-Ok.at 0 ≡ c.args.asn = ap (λ l. get_or l c.in-Ok.at 0) (sym c.deref.ensures.value) ∙ ranked _ c.args.asn _ (sym (c.in-Ok.ensures.position 0)) in
    ap (occurs a) c.remove-gone.ensures.items ∙ occurs-remove c.args.order.now.items c.requires.rising c.args.asn c.in-Ok.at (subst (λ l. c.in-Ok.at < length l) c.deref.ensures.value c.in-Ok.ensures.bound) here a ne

pub returns-in-Ok-clause-rising : goal.returns-in-Ok-clause-rising
returns-in-Ok-clause-rising c =
    let here : get_or c.args.order.now.items c.in-Ok.at 0 ≡ c.args.asn = ap (λ l. get_or l c.in-Ok.at 0) (sym c.deref.ensures.value) ∙ ranked _ c.args.asn _ (sym (c.in-Ok.ensures.position 0)) in
    subst IsStrictlyIncreasing (sym c.remove-gone.ensures.items) (rising_remove c.args.order.now.items c.requires.rising c.args.asn c.in-Ok.at (subst (λ l. c.in-Ok.at < length l) c.deref.ensures.value c.in-Ok.ensures.bound) here)

pub returns-in-Err-clause-this : goal.returns-in-Err-clause-this
returns-in-Err-clause-this c =
    sym (searched_listed c.deref.result.now (subst IsStrictlyIncreasing (sym c.deref.ensures.value) c.requires.rising) c.args.asn (Err c.in-Err.field-0) c.in-Err.ensures.bound c.in-Err.ensures.position ∙ ap (occurs c.args.asn) c.deref.ensures.value)
