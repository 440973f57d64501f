use Rattle.std.proofs.Common.{◌≡◌, ap, ◌∙◌, length}
use Rattle.scenario_text.specs.Places.{item}
use Rattle.std.proofs.lemmas.Result.{err_from_is_err_and}
use Rattle.scenario_text.proofs.Shaping.{all_left, not_a_list, following, one_less, one_fails, none_is_left}
use Rattle.scenario_text.proofs.Tokens.{begins}
use Rattle.scenario_text.proofs.shapes.list.Goals as goal

pub returns-in_default : goal.returns-in_default
returns-in_default g c =
    let ts = c.args.value.now.element in
    let b = begins ts c.args.value.now.is_data in
    not_a_list g.S.Shape.reads c.args.place ts b.0 b.1 (c.in_default.ensures b.0 b.1.begins)

pub loop-element-init : goal.loop-element-init
loop-element-init g c =
    let ts = c.args.value.now.element in
    let b = begins ts c.args.value.now.is_data in
    let shape = c.in-Some.ensures b.0 b.1.begins in
    rw c.new-out.ensures.items (all_left g.S.Shape.reads c.args.place ts b.0 shape.0 c.in-Some.items b.1 shape.1 shape.2)

pub of-requires : goal.of-requires
of-requires g c =
    let next = following g.S.Shape.reads c.args.place c.args.value.now.element c.in-Some-next.element c.loop-element.items c.next.new.self c.loop-element.out.items c.loop-element.invariant c.in-Some-next.ensures.value in
    next.is_data

pub returns-in_err-next : goal.returns-in_err-next
returns-in_err-next g c =
    let p = err_from_is_err_and c.from_residual.result c.from_residual.ensures.1 in
    let front = c.loop-element.out.items in
    let next = following g.S.Shape.reads c.args.place c.args.value.now.element c.in-Some-next.element c.loop-element.items c.next.new.self front c.loop-element.invariant c.in-Some-next.ensures.value in
    let count : c.len.result ≡ length front = c.len.ensures ∙ c.loop-element.out.ok.0 in
    let here : c.item.result ≡ item c.args.place (length front) = c.item.ensures ∙ ap (item c.args.place) count in
    let h = rw (c.of.ensures, here) at c.in_err-next.ensures in
    rw (p.1, p.2) (one_fails g.S.Shape.reads c.args.place c.args.value.now.element c.in-Some-next.element c.next.new.self front c.in_err-next.field-0.0 next h)

pub loop-element-preserved : goal.loop-element-preserved
loop-element-preserved g c =
    let front = c.loop-element.out.items in
    let next = following g.S.Shape.reads c.args.place c.args.value.now.element c.in-Some-next.element c.loop-element.items c.next.new.self front c.loop-element.invariant c.in-Some-next.ensures.value in
    let count : c.len.result ≡ length front = c.len.ensures ∙ c.loop-element.out.ok.0 in
    let here : c.item.result ≡ item c.args.place (length front) = c.item.ensures ∙ ap (item c.args.place) count in
    let h = rw (c.of.ensures, here) at c.in_ok-next.ensures in
    rw c.in_ok-push.ensures.items (one_less g.S.Shape.reads c.args.place c.args.value.now.element c.in-Some-next.element c.next.new.self front c.in_ok-next.next next h)

pub returns : goal.returns
returns g c = none_is_left g.S.Shape.reads c.args.place c.args.value.now.element c.loop-element.items c.next.new.self c.loop-element.out.items c.loop-element.invariant c.in_default-next.ensures.value
