use Rattle.std.proofs.Common.{◌≡◌, ◌<◌, length, slice_index, refl, sym, ◌∙◌, ap, subst, arith}
use Rattle.std.specs.Prelude.{Some, true, false, slice_get}
use Rattle.std.proofs.lemmas.List.{get_or_read}
use Rattle.std.proofs.lemmas.Option.{slice_get_read}
use Rattle.routing_tree.specs.Ends.{FollowOn}
use Rattle.routing_tree.proofs.Following.{follow_one, low_parent}
use Rattle.routing_tree.proofs.ends.Ends.take_low.Goals as goal
use Rattle.routing_tree.proofs.ends.Ends.take_low.Goals.{else-index-eq0-via-then-index-eq0+then-index-ne0+else-index, else-index-eq0-via-then-index-eq0+else-index-ne0, else-index-eq0-via-else-index-eq0}

pub returns-then-index-clause-on : goal.returns-then-index-clause-on
returns-then-index-clause-on c =
    let t = c.args.tree.now in
    let ends = c.args.self.now.ends.items in
    let p = c.args.place in
    let unknown : slice_index ends p ≡ 0 = sym (get_or_read ends p c.index.result.now c.requires.inside c.index.ensures 0) ∙ c.if-index-eq0.true in
    let long : p < length t.lengths.items = omega (arith, c.requires.inside, c.requires.places.lengths) in
    let read = get_or_read t.lengths.items p c.index-then-index-eq0.result.now long c.index-then-index-eq0.ensures 0 in
    let holds : 0 < slice_index t.lengths.items p = omega (arith, read, c.if-index-ne0.true) in
    let within : p < length t.lows.items = omega (arith, c.requires.inside, c.requires.places.lows) in
    let low : slice_get t.lows.items p ≡ Some true = slice_get_read t.lows.items (length t.lows.items) p c.index-then-index-ne0.result.now refl within c.index-then-index-ne0.ensures ∙ ap Some c.if-index.true in
    let parent = low_parent t (length ends) c.requires.places c.requires.order p c.requires.inside (record { some = holds; low = low }) in
    subst (FollowOn t ends) (sym c.take.ensures) (follow_one t ends p c.requires.inside parent unknown holds)

pub returns-else-index-eq0-clause-known : goal.returns-else-index-eq0-clause-known
returns-else-index-eq0-clause-known c =
    let t = c.args.tree.now in
    let ends = c.args.self.now.ends.items in
    let p = c.args.place in
    elim c.else-index-eq0.branch [
      | else-index-eq0-via-then-index-eq0+then-index-ne0+else-index w ↦ λ low.
          let within : p < length t.lows.items = omega (arith, c.requires.inside, c.requires.places.lows) in
          let other : slice_get t.lows.items p ≡ Some false = slice_get_read t.lows.items (length t.lows.items) p w.index-then-index-ne0.result.now refl within w.index-then-index-ne0.ensures ∙ ap Some w.if-index.false in
          let both : Some true ≡ Some false = sym low.low ∙ other in
          cc
      | else-index-eq0-via-then-index-eq0+else-index-ne0 w ↦ λ low.
          let long : p < length t.lengths.items = omega (arith, c.requires.inside, c.requires.places.lengths) in
          let read = get_or_read t.lengths.items p w.index-then-index-eq0.result.now long w.index-then-index-eq0.ensures 0 in
          omega (arith, low.some, read, w.if-index-ne0.false)
      | else-index-eq0-via-else-index-eq0 w ↦ λ low.
          let read = get_or_read ends p c.index.result.now c.requires.inside c.index.ensures 0 in
          omega (arith, read, w.if-index-eq0.false)
    ]
