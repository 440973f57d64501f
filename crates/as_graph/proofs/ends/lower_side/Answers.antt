use Rattle.std.proofs.Common.{◌≡◌, take, subst, ap, ◌∙◌, ◌+◌, arith}
use Rattle.std.specs.FinMap as map
use Rattle.std.proofs.lemmas.List.{take_all}
use Rattle.as_graph.specs.Ends.{lower_ends, AreTurned}
use Rattle.as_graph.proofs.EndLemmas.{past_end, lower_ends-next, turned_next}
use Rattle.as_graph.proofs.ends.lower_side.Goals as goal

pub unreachable-requires : goal.unreachable-requires
unreachable-requires c = omega (arith, past_end (map.entries c.args.links.now) c.loop-place.place c.in_default.ensures.value, map.len-entries c.args.links.now, c.len-place-end.ensures.value, c.loop-place-test.true)

pub loop-place-preserved : goal.loop-place-preserved
loop-place-preserved c = record {
  ends = c.push_reserved.ensures.items ∙ lower_ends-next (map.entries c.args.links.now) c.loop-place.place c.in-Some.link.lo c.in-Some.link.hi c.in-Some.link.rel c.in-Some.ensures.value c.loop-place.ends.items c.loop-place.invariant.ends;
  turned = turned_next (map.entries c.args.links.now) c.loop-place.place c.in-Some.link.lo c.in-Some.link.hi c.in-Some.link.rel c.in-Some.ensures.value c.in-Some.ensures.lower c.loop-place.invariant.turned;
  len = c.push_reserved.ensures.len ∙ ap (λ n. n + 1) c.loop-place.invariant.len;
  room = omega (arith, c.push_reserved.ensures.capacity, c.loop-place.invariant.room);
}

pub returns-clause-ends : goal.returns-clause-ends
returns-clause-ends c =
    let all : take c.loop-place.place (map.entries c.args.links.now) ≡ map.entries c.args.links.now = take_all c.loop-place.place (map.entries c.args.links.now) (omega (arith, map.len-entries c.args.links.now, c.len-place-end.ensures.value, c.loop-place-test.false)) in
    c.loop-place.invariant.ends ∙ ap lower_ends all

pub returns-clause-turned : goal.returns-clause-turned
returns-clause-turned c =
    let all : take c.loop-place.place (map.entries c.args.links.now) ≡ map.entries c.args.links.now = take_all c.loop-place.place (map.entries c.args.links.now) (omega (arith, map.len-entries c.args.links.now, c.len-place-end.ensures.value, c.loop-place-test.false)) in
    subst AreTurned all c.loop-place.invariant.turned
