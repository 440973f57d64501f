use Rattle.std.proofs.Common.{◌≡◌, ◌<◌, ◌-◌, ℕ, inl, inr, length, slice_index, sym, subst, arith, rules}
use Rattle.std.proofs.lemmas.Bool.{cases_lt}
use Rattle.routing_tree.specs.Trees.{HasPlaces, ParentsComeFirst}
use Rattle.routing_tree.proofs.Following.{follow_more, follow_none, still_some}
use Rattle.routing_tree.proofs.ends.Ends.follow_down.Goals as goal

pub take_high-requires-clause-few : goal.take_high-requires-clause-few
take_high-requires-clause-few c = omega (arith, c.loop-left.invariant.on.count, c.requires.few)

pub take_high-requires-clause-places : goal.take_high-requires-clause-places
take_high-requires-clause-places c = subst (λ n. HasPlaces n c.args.tree.now) (sym c.loop-left.invariant.on.count) c.requires.places

pub take_high-requires-clause-order : goal.take_high-requires-clause-order
take_high-requires-clause-order c = subst (ParentsComeFirst c.args.tree.now) (sym c.loop-left.invariant.on.count) c.requires.order

pub take_high-requires-clause-low : goal.take_high-requires-clause-low
take_high-requires-clause-low c k less low =
    still_some c.args.tree.now c.args.self.now.ends.items c.loop-left.self.ends.items c.loop-left.invariant.on k (c.requires.low k (omega (arith, less, c.loop-left.invariant.on.count)) low)

pub take_high-requires-clause-higher : goal.take_high-requires-clause-higher
take_high-requires-clause-higher c k above less holds =
    c.loop-left.invariant.known k (omega (arith, above)) (omega (arith, less, c.loop-left.invariant.on.count)) holds

pub loop-left-preserved : goal.loop-left-preserved
loop-left-preserved c =
    let t = c.args.tree.now in
    let old = c.loop-left.self.ends.items in
    let new = c.take_high.new.self.ends.items in
    let left : ℕ = c.loop-left.left - 1 in
    record {
      on = follow_more t c.args.self.now.ends.items old new c.loop-left.invariant.on c.take_high.ensures.on;
      inside = omega (arith, c.loop-left.invariant.inside);
      known = λ k past less holds. elim (cases_lt left k) [
        | inl above ↦ still_some t old new c.take_high.ensures.on k (c.loop-left.invariant.known k (omega (arith, above)) less holds)
        | inr below ↦ (let same : left ≡ k = omega (arith, below, past) in subst (λ n. 0 < slice_index t.lengths.items n → 0 < slice_index new n) same c.take_high.ensures.known holds)
      ];
    }

pub loop-left-init : goal.loop-left-init
loop-left-init c =
    let len : c.len-left.result ≡ length c.args.self.now.ends.items = search rules in
    record {
      on = follow_none c.args.tree.now c.args.self.now.ends.items;
      inside = omega (arith, len);
      known = λ k past less holds. absurd (omega (arith, past, less, len));
    }
