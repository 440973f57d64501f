use Rattle.std.proofs.Common.{◌≡◌, ◌≢◌, ◌<◌, length, slice_index, sym, ◌∙◌, subst, arith}
use Rattle.std.specs.Prelude.{Some, true, slice_get}
use Rattle.std.proofs.lemmas.List.{get_or_read}
use Rattle.routing_tree.specs.Ends.{FollowOn}
use Rattle.routing_tree.proofs.Following.{follow_one, high_parent}
use Rattle.routing_tree.proofs.ends.Ends.take_high.Goals as goal

pub returns-then-index-ne0-clause-on : goal.returns-then-index-ne0-clause-on
returns-then-index-ne0-clause-on c =
    let t = c.args.tree.now in
    let ends = c.args.self.now.ends.items in
    let p = c.args.place in
    let unknown : slice_index ends p ≡ 0 = sym (get_or_read ends p c.index.result.now c.requires.inside c.index.ensures 0) ∙ c.if-index-eq0.true in
    let long : p < length t.lengths.items = omega (arith, c.requires.inside, c.requires.places.lengths) in
    let read = get_or_read t.lengths.items p c.index-then-index-eq0.result.now long c.index-then-index-eq0.ensures 0 in
    let holds : 0 < slice_index t.lengths.items p = omega (arith, read, c.if-index-ne0.true) in
    let high : slice_get t.lows.items p ≢ Some true = λ e. (let some = c.requires.low p c.requires.inside (record { some = holds; low = e }) in omega (arith, some, unknown)) in
    let parent = high_parent t (length ends) c.requires.places c.requires.order p c.requires.inside holds high in
    subst (FollowOn t ends) (sym c.take.ensures) (follow_one t ends p c.requires.inside parent unknown holds)
