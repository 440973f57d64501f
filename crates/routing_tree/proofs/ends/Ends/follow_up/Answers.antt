use Rattle.std.proofs.Common.{◌≡◌, ◌<◌, inl, inr, slice_index, sym, subst, arith}
use Rattle.std.proofs.lemmas.Bool.{cases_lt}
use Rattle.routing_tree.specs.Trees.{HasPlaces, IsLowAt, ParentsComeFirst}
use Rattle.routing_tree.proofs.Following.{follow_more, follow_none, still_some}
use Rattle.routing_tree.proofs.ends.Ends.follow_up.Goals as goal

pub loop-place-init : goal.loop-place-init
loop-place-init c = record { on = follow_none c.args.tree.now c.args.self.now.ends.items; known = λ k less. absurd (omega (arith, less)) }

pub take_low-requires-clause-few : goal.take_low-requires-clause-few
take_low-requires-clause-few c = omega (arith, c.loop-place.invariant.on.count, c.requires.few)

pub take_low-requires-clause-places : goal.take_low-requires-clause-places
take_low-requires-clause-places c = subst (λ n. HasPlaces n c.args.tree.now) (sym c.loop-place.invariant.on.count) c.requires.places

pub take_low-requires-clause-order : goal.take_low-requires-clause-order
take_low-requires-clause-order c = subst (ParentsComeFirst c.args.tree.now) (sym c.loop-place.invariant.on.count) c.requires.order

pub loop-place-preserved : goal.loop-place-preserved
loop-place-preserved c =
    let t = c.args.tree.now in
    let old = c.loop-place.self.ends.items in
    let new = c.take_low.new.self.ends.items in
    record {
      on = follow_more t c.args.self.now.ends.items old new c.loop-place.invariant.on c.take_low.ensures.on;
      known = λ k less low. elim (cases_lt k c.loop-place.place) [
        | inl before ↦ still_some t old new c.take_low.ensures.on k (c.loop-place.invariant.known k before low)
        | inr past ↦ (let same : c.loop-place.place ≡ k = omega (arith, less, past) in subst (λ n. IsLowAt t n → 0 < slice_index new n) same c.take_low.ensures.known low)
      ];
    }
