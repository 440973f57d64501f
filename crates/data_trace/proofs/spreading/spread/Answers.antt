use Rattle.std.proofs.Common.{rules, ◌≡◌, ℕ, ◌<◌, length, get_or, ◌∙◌, ap, subst, arith}
use Rattle.std.proofs.lemmas.Bool.{le-ltb}
use Rattle.std.proofs.lemmas.List.{get_or_read}
use Rattle.data_trace.specs.Lists.{link_at}
use Rattle.data_trace.proofs.Queues.{Grows, grows, brings, spread_step, first_below, behind_is}
use Rattle.data_trace.proofs.spreading.spread.Goals as goal

pub forget-requires-in-spread-clause-queued : goal.forget-requires-in-spread-clause-queued
forget-requires-in-spread-clause-queued c =
    let at : ℕ = c.index.result.now in
    let g = grows (link_at c.args.first.now at) c.spread.marks c.spread.queue.items c.forget.new.marks c.forget.new.queue.items (first_below c.args.first.now at _ _ c.requires.first c.spread.auto.marks) c.forget.ensures.forgets in
    omega (arith, g.balance, c.spread.invariant.front.room, c.requires.room, c.spread.invariant.room, c.forget.ensures.room)

pub spread-smaller : goal.spread-smaller
spread-smaller c =
    let at : ℕ = c.index.result.now in
    let b = brings c.args.first.now c.args.after.now at (length c.args.marks.now) _ c.behind-next.result c.spread.marks c.spread.queue.items c.forget.new.marks c.forget.new.queue.items c.forget-in-spread.new.marks c.forget-in-spread.new.queue.items
    c.requires.first c.requires.after c.spread.auto.marks c.behind-next.ensures c.forget.ensures.forgets c.forget-in-spread.ensures.forgets in
    omega (arith, b.first.balance, b.first.more, b.behind.balance, b.behind.more, c.spread-test.true)

pub spread-preserved : goal.spread-preserved
spread-preserved c =
    let at : ℕ = c.index.result.now in
    let b = brings c.args.first.now c.args.after.now at (length c.args.marks.now) _ c.behind-next.result c.spread.marks c.spread.queue.items c.forget.new.marks c.forget.new.queue.items c.forget-in-spread.new.marks c.forget-in-spread.new.queue.items
    c.requires.first c.requires.after c.spread.auto.marks c.behind-next.ensures c.forget.ensures.forgets c.forget-in-spread.ensures.forgets in
    let inside : c.spread.done < length c.spread.queue.items = search rules in
    let here : at ≡ get_or c.spread.queue.items c.spread.done 0 = get_or_read c.spread.queue.items c.spread.done at inside c.index.ensures 0 in
    record {
      front = b.front c.args.marks.now c.spread.invariant.front;
      spread = spread_step (link_at c.args.first.now) (link_at c.args.after.now) c.spread.marks c.spread.queue.items (length c.args.queue.now.items) c.spread.done c.behind-next.result
          c.forget.new.marks c.forget.new.queue.items c.forget-in-spread.new.marks c.forget-in-spread.new.queue.items inside c.spread.invariant.spread
          (subst (λ t. Grows (link_at c.args.first.now t) c.spread.marks c.spread.queue.items c.forget.new.marks c.forget.new.queue.items) here b.first) b.behind
          (λ l. behind_is _ _ _ c.behind-next.ensures (le-ltb c.spread.done c.len-roots.result (omega (arith, l, c.spread.invariant.counted))) ∙ ap (link_at c.args.after.now) here);
      roots = b.behind.front_same (length c.args.queue.now.items) (omega (arith, b.first.more, c.spread.invariant.some)) ∙ b.first.front_same (length c.args.queue.now.items) c.spread.invariant.some ∙ c.spread.invariant.roots;
      some = omega (arith, b.first.more, b.behind.more, c.spread.invariant.some);
      counted = c.spread.invariant.counted;
      done = omega (arith, b.first.more, b.behind.more, c.spread-test.true);
      room = omega (arith, c.spread.invariant.room, c.forget.ensures.room, c.forget-in-spread.ensures.room);
      sums_counted = c.forget-in-spread.ensures.counted;
      sums_room = omega (arith, c.spread.invariant.sums_room, c.forget.ensures.sums_room, c.forget-in-spread.ensures.sums_room);
    }
