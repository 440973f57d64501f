use Rattle.std.proofs.Common.{◌≡◌, ℕ, suc, ◌+◌, ◌≤◌, length, ◌∙◌, ap, arith}
use Rattle.data_trace.specs.Marks.{mark_of}
use Rattle.data_trace.specs.Columns.{group_at}
use Rattle.data_trace.specs.Counted.{kept_end, adds, adds_at, summed}
use Rattle.data_trace.proofs.Summing.{all}
use Rattle.data_trace.proofs.Changes.{summed-le, adds-le}
use Rattle.data_trace.proofs.counting.count_all.Goals as goal

pub join-requires : goal.join-requires
join-requires c =
    let i : ℕ = c.places.place in
    let one : adds all c.end_told-end.result (group_at c.args.groups.now i) ≤ 1 = adds-le all c.end_told-end.result (group_at c.args.groups.now i) in
    let so_far = summed-le (adds_at all c.args.ases.now c.args.marks.now c.args.groups.now) i (λ x. adds-le all (kept_end c.args.ases.now (mark_of c.args.marks.now x)) (group_at c.args.groups.now x)) in
    record {
      room = omega (arith, one, so_far, c.places.invariant.counted all, c.places-test.true, c.requires.room, c.places.invariant.room);
      few = omega (arith, one, so_far, c.places.invariant.counted all, c.places-test.true, c.requires.few);
    }

pub places-preserved : goal.places-preserved
places-preserved c =
    let i : ℕ = c.places.place in
    let next : suc i ≡ i + 1 = omega arith in
    let told = c.end_told-end.ensures ∙ ap (kept_end c.args.ases.now) c.mark_in.ensures in
    record {
      counted = λ p.
          let f : ℕ → ℕ = adds_at p c.args.ases.now c.args.marks.now c.args.groups.now in
          c.join.ensures.added p ∙ ap (λ n. n + adds p c.end_told-end.result (group_at c.args.groups.now i)) (c.places.invariant.counted p) ∙ ap (λ o. summed f i + adds p o (group_at c.args.groups.now i)) told ∙ ap (summed f) next;
      room = omega (arith, c.places.invariant.room, c.join.ensures.room);
    }

pub returns : goal.returns
returns c = record {
  marks_len = c.requires.marks_len;
  groups_len = c.requires.groups_len;
  below = c.requires.below;
  each = λ p. c.places.invariant.counted p ∙ (let done : c.places.place ≡ length c.args.ases.now = omega (arith, c.places-test.false, c.places.auto.place-end) in ap (summed (adds_at p c.args.ases.now c.args.marks.now c.args.groups.now)) done);
}
