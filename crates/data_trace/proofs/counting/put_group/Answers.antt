use Rattle.std.proofs.Common.{◌≡◌, ◌+◌, ◌∙◌, ap, sym, slice_set, arith}
use Rattle.std.proofs.lemmas.List.{get_or-set_same}
use Rattle.data_trace.specs.declared.places.Group.{Group}
use Rattle.data_trace.specs.Marks.{mark_of}
use Rattle.data_trace.specs.Columns.{group_at, gone}
use Rattle.data_trace.specs.Sums.{total}
use Rattle.data_trace.specs.Counted.{kept_end, adds}
use Rattle.data_trace.proofs.Summing.{all}
use Rattle.data_trace.proofs.Changes.{counted-le, group_fits, group_counted}
use Rattle.data_trace.proofs.counting.put_group.Goals as goal

pub leave-requires : goal.leave-requires
leave-requires c = λ p. omega (arith, ap (λ o. adds p o (group_at c.args.groups.now c.args.place)) (c.end_told-end.ensures ∙ ap (kept_end c.args.ases.now) c.mark_in.ensures), counted-le c.args.sums.now c.args.ases.now c.args.marks.now c.args.groups.now c.args.place c.requires.inside c.requires.sums.counted p)

pub join-requires : goal.join-requires
join-requires c =
    let old : total all c.leave.new.sums + adds all (kept_end c.args.ases.now (mark_of c.args.marks.now c.args.place)) (group_at c.args.groups.now c.args.place) ≡ total all c.args.sums.now =
    ap (λ o. total all c.leave.new.sums + adds all o (group_at c.args.groups.now c.args.place)) (sym (c.end_told-end.ensures ∙ ap (kept_end c.args.ases.now) c.mark_in.ensures)) ∙ c.leave.ensures.taken all in
    let f = group_fits c.args.sums.now c.args.ases.now c.args.marks.now c.args.groups.now c.args.place c.requires.inside c.requires.sums.counted c.args.group (total all c.leave.new.sums) old in
    let here : group_at (slice_set c.args.groups.now c.args.place c.args.group) c.args.place ≡ c.args.group = get_or-set_same c.args.groups.now c.args.place c.args.group gone (omega (arith, c.requires.inside, c.requires.sums.counted.groups_len)) in
    let told = ap (λ o. adds all o (group_at (slice_set c.args.groups.now c.args.place c.args.group) c.args.place)) (c.end_told-end-2.ensures ∙ ap (kept_end c.args.ases.now) c.mark_in-2.ensures) ∙ ap (λ (g : Group). adds all (kept_end c.args.ases.now (mark_of c.args.marks.now c.args.place)) g) here in
    record {
      room = omega (arith, f, told, c.requires.sums.room, c.leave.ensures.room);
      few = omega (arith, f, told, c.requires.sums.few);
    }

pub returns-clause-counted : goal.returns-clause-counted
returns-clause-counted c =
    let here : group_at (slice_set c.args.groups.now c.args.place c.args.group) c.args.place ≡ c.args.group = get_or-set_same c.args.groups.now c.args.place c.args.group gone (omega (arith, c.requires.inside, c.requires.sums.counted.groups_len)) in
    group_counted c.args.sums.now c.args.ases.now c.args.marks.now c.args.groups.now c.args.place c.requires.inside c.requires.sums.counted c.args.group c.leave.new.sums c.join.new.sums
    (λ p. ap (λ o. total p c.leave.new.sums + adds p o (group_at c.args.groups.now c.args.place)) (sym (c.end_told-end.ensures ∙ ap (kept_end c.args.ases.now) c.mark_in.ensures)) ∙ c.leave.ensures.taken p)
    (λ p. c.join.ensures.added p ∙ ap (λ o. total p c.leave.new.sums + adds p o (group_at (slice_set c.args.groups.now c.args.place c.args.group) c.args.place)) (c.end_told-end-2.ensures ∙ ap (kept_end c.args.ases.now) c.mark_in-2.ensures)
    ∙ ap (λ (g : Group). total p c.leave.new.sums + adds p (kept_end c.args.ases.now (mark_of c.args.marks.now c.args.place)) g) here)
