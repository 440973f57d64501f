use Rattle.std.proofs.Common.{◌<◌, inl, inr, slice_index, sym, subst, arith}
use Rattle.std.proofs.lemmas.Bool.{cases_eq}
use Rattle.routing_tree.specs.Trees.{HasPlaces, ParentsComeFirst}
use Rattle.routing_tree.proofs.Following.{follow_more, was_none}
use Rattle.routing_tree.proofs.ends.Ends.follow.Goals as goal

pub follow_down-requires-clause-places : goal.follow_down-requires-clause-places
follow_down-requires-clause-places c = subst (λ n. HasPlaces n c.args.tree.now) (sym c.follow_up.ensures.on.count) c.requires.places

pub follow_down-requires-clause-order : goal.follow_down-requires-clause-order
follow_down-requires-clause-order c = subst (ParentsComeFirst c.args.tree.now) (sym c.follow_up.ensures.on.count) c.requires.order

pub follow_down-requires-clause-low : goal.follow_down-requires-clause-low
follow_down-requires-clause-low c k less = c.follow_up.ensures.known k (omega (arith, less, c.follow_up.ensures.on.count))

pub returns-clause-known : goal.returns-clause-known
returns-clause-known c k less =
    let a = c.args.self.now.ends.items in
    let b = c.follow_up.new.self.ends.items in
    let d = c.follow_down.new.self.ends.items in
    let on = follow_more c.args.tree.now a b d c.follow_up.ensures.on c.follow_down.ensures.on in (
      λ missing. (
        was_none c.args.tree.now a d on k missing,
        elim (cases_eq (slice_index c.args.tree.now.lengths.items k) 0) [
          | inl empty ↦ empty
          | inr holds ↦ (let some : 0 < slice_index d k = c.follow_down.ensures.known k (omega (arith, less, c.follow_up.ensures.on.count)) (omega (arith, holds)) in absurd (omega (arith, some, missing)))
        ],
      ),
      λ both. on.none k both.0 both.1,
    )

pub returns-clause-count : goal.returns-clause-count
returns-clause-count c = (follow_more c.args.tree.now c.args.self.now.ends.items c.follow_up.new.self.ends.items c.follow_down.new.self.ends.items c.follow_up.ensures.on c.follow_down.ensures.on).count

pub returns-clause-ends : goal.returns-clause-ends
returns-clause-ends c = (follow_more c.args.tree.now c.args.self.now.ends.items c.follow_up.new.self.ends.items c.follow_down.new.self.ends.items c.follow_up.ensures.on c.follow_down.ensures.on).ends
