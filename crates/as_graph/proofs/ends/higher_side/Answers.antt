use Rattle.std.proofs.Common.{rules, ◌≡◌, take, ap, ◌∙◌, ◌+◌, arith}
use Rattle.std.specs.FinMap as map
use Rattle.std.proofs.lemmas.List.{take_all}
use Rattle.std.proofs.lemmas.List.Sorted.{answers_always, IsNonDecreasingBy-from_sort}
use Rattle.as_graph.specs.declared.ends.End.{End}
use Rattle.as_graph.specs.Ends.{higher_ends, ends_at}
use Rattle.as_graph.proofs.EndLemmas.{past_end, higher_ends-next, ends_at-stable, ends_at-dealt}
use Rattle.as_graph.proofs.ends.higher_side.Goals as goal

pub unreachable-requires : goal.unreachable-requires
unreachable-requires c = omega (arith, past_end (map.entries c.args.links.now) c.loop-place.place c.in_default.ensures.value, map.len-entries c.args.links.now, c.len-place-end.ensures.value, c.loop-place-test.true)

pub loop-place-preserved : goal.loop-place-preserved
loop-place-preserved c = record {
  ends = c.push_reserved.ensures.items ∙ higher_ends-next (map.entries c.args.links.now) c.loop-place.place c.in-Some.link.lo c.in-Some.link.hi c.in-Some.link.rel c.in-Some.ensures.value c.loop-place.ends.items c.converse.result c.converse.ensures c.loop-place.invariant.ends;
  len = c.push_reserved.ensures.len ∙ ap (λ n. n + 1) c.loop-place.invariant.len;
  room = omega (arith, c.push_reserved.ensures.capacity, c.loop-place.invariant.room);
}

pub returns-clause-ends : goal.returns-clause-ends
returns-clause-ends c = λ a.
    let all : take c.loop-place.place (map.entries c.args.links.now) ≡ map.entries c.args.links.now = take_all c.loop-place.place (map.entries c.args.links.now) (omega (arith, map.len-entries c.args.links.now, c.len-place-end.ensures.value, c.loop-place-test.false)) in
    ends_at-stable c.deal_by_number.new.items.items c.sort_by_key.new.self.items (c.sort_by_key.ensures.stable (λ (e : End). e.at) (answers_always _ _ _ (λ f a r g called. search rules))) a
    ∙ ends_at-dealt c.loop-place.ends.items c.deal_by_number.new.items.items c.in_ok-deal_by_number.ensures a ∙ ap (ends_at a) (c.loop-place.invariant.ends ∙ ap higher_ends all)

pub returns-clause-by_as : goal.returns-clause-by_as
returns-clause-by_as c = IsNonDecreasingBy-from_sort (λ (e : End). e.at) c.sort_by_key.new.self.items (c.in_ok-sort_by_key.ensures.sorted (λ (e : End). e.at) (answers_always _ _ _ (λ f a r g called. search rules)))
