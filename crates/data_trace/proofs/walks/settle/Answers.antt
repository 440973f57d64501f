use Rattle.std.proofs.Common.{◌≡◌, ℕ, ◌+◌, ◌<◌, List, length, take, get_or, slice_set, sym, ◌∙◌, ap, subst, arith}
use Rattle.std.proofs.lemmas.List.{take_more, take_all}
use Rattle.data_trace.specs.declared.places.PlaceEnd.{PlaceEnd}
use Rattle.data_trace.specs.declared.places.PlaceEnd.TheVariants.{At}
use Rattle.data_trace.specs.declared.places.Mark.TheVariants.{Walked, Known}
use Rattle.data_trace.specs.Marks.{next_of, mark_of, IsSettling}
use Rattle.data_trace.proofs.Walking.{settling_more, settled, settling_none, walked_inside}
use Rattle.data_trace.proofs.Changes.{same_counted}
use Rattle.data_trace.proofs.walks.settle.Goals as goal

known_same : (d e : PlaceEnd) → Known d ≡ Known e → d ≡ e
known_same d e q = cc

pub path-init : goal.path-init
path-init c = record {
  settling = settling_none _ _;
  counted = same_counted c.args.sums.now c.args.ases.now c.args.marks.now c.walk-end.new.marks c.args.groups.now c.walk-end.ensures.walked.len c.walk-end.ensures.same c.requires.sums.counted;
  sums_room = omega arith;
}

pub put_mark-requires-clause-inside : goal.put_mark-requires-clause-inside
put_mark-requires-clause-inside c =
    let xs : List ℕ = c.as_slice-at-items.result.now in
    let i : ℕ = c.path.at-index in
    let l : get_or xs i 0 < length c.walk-end.new.marks = walked_inside c.walk-end.new.marks _ (subst (λ ys. mark_of c.walk-end.new.marks (get_or ys i 0) ≡ Walked) (sym c.as_slice-at-items.ensures.value)
    (c.walk-end.ensures.walked.all_walked i (omega (arith, c.path-test.true, ap length c.as_slice-at-items.ensures.value)))) in
    omega (arith, l, c.walk-end.ensures.walked.len, c.requires.sums.counted.marks_len)

pub put_mark-requires-clause-below : goal.put_mark-requires-clause-below
put_mark-requires-clause-below c = λ y e. omega (arith, c.walk-end.ensures.below y (known_same c.walk-end.result (At y) e), c.requires.len, c.requires.sums.counted.marks_len)

pub path-preserved : goal.path-preserved
path-preserved c =
    let xs : List ℕ = c.as_slice-at-items.result.now in
    let i : ℕ = c.path.at-index in
    let m : length c.path.marks ≡ length c.walk-end.new.marks = c.path.invariant.settling.len in
    let l : get_or xs i 0 < length c.path.marks = omega (
      arith,
      m,
      walked_inside c.walk-end.new.marks _ (subst (λ ys. mark_of c.walk-end.new.marks (get_or ys i 0) ≡ Walked) (sym c.as_slice-at-items.ensures.value)
          (c.walk-end.ensures.walked.all_walked i (omega (arith, c.path-test.true, ap length c.as_slice-at-items.ensures.value)))),
    ) in record {
      settling = subst (λ ms. IsSettling c.walk-end.new.marks ms (take (i + 1) xs) c.walk-end.result) (sym c.put_mark.ensures.marks)
          (subst (λ front. IsSettling c.walk-end.new.marks (slice_set c.path.marks (get_or xs i 0) (Known c.walk-end.result)) front c.walk-end.result) (sym (take_more xs i 0 c.path-test.true))
          (settling_more c.walk-end.new.marks c.path.marks (take i xs) c.walk-end.result (get_or xs i 0) l c.path.invariant.settling));
      counted = c.put_mark.ensures.counted;
      sums_room = omega (arith, c.path.invariant.sums_room, c.put_mark.ensures.room);
    }

pub returns-clause-settles : goal.returns-clause-settles
returns-clause-settles c =
    let e : take c.path.at-index c.as_slice-at-items.result.now ≡ c.walk-end.new.path.items = take_all _ _ c.path-test.false ∙ c.as_slice-at-items.ensures.value in
    settled (next_of c.args.hops.now) c.args.marks.now c.walk-end.new.marks c.path.marks c.walk-end.new.path.items c.args.from c.walk-end.result c.requires.right c.walk-end.ensures.walked
    (subst (λ front. IsSettling c.walk-end.new.marks c.path.marks front c.walk-end.result) e c.path.invariant.settling)
