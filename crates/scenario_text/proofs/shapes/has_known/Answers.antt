use Rattle.std.proofs.Common.{sym}
use Rattle.scenario_text.proofs.Shaping.{all_unseen, not_an_object, one_seen, one_unknown, all_seen}
use Rattle.scenario_text.proofs.Tokens.{begins}
use Rattle.scenario_text.proofs.shapes.has_known.Goals as goal

pub returns-in_default : goal.returns-in_default
returns-in_default c =
    let ts = c.args.value.now.element in
    let b = begins ts c.args.value.now.is_data in
    sym (not_an_object c.args.known.now ts b.0 b.1 (c.in_default.ensures b.0 b.1.begins))

pub loop-name-init : goal.loop-name-init
loop-name-init c =
    let ts = c.args.value.now.element in
    let b = begins ts c.args.value.now.is_data in
    let shape = c.in-Some.ensures b.0 b.1.begins in
    all_unseen c.args.known.now ts b.0 shape.0 c.in-Some.members b.1 shape.1 shape.2

pub loop-name-preserved : goal.loop-name-preserved
loop-name-preserved c =
    let name = c.in-Some-next.name.now in
    one_seen c.args.known.now c.args.value.now.element name c.in-Some-next.field-0-1 c.loop-name.members c.next.new.self c.loop-name.invariant c.in-Some-next.ensures.value c.if-not-is_known.ensures

pub returns-then-not-is_known : goal.returns-then-not-is_known
returns-then-not-is_known c =
    let name = c.in-Some-next.name.now in
    sym (one_unknown c.args.known.now c.args.value.now.element name c.in-Some-next.field-0-1 c.loop-name.members c.next.new.self c.loop-name.invariant c.in-Some-next.ensures.value c.if-not-is_known.ensures)

pub returns : goal.returns
returns c = sym (all_seen c.args.known.now c.args.value.now.element c.loop-name.members c.next.new.self c.loop-name.invariant c.in_default-next.ensures.value)
