use Rattle.std.proofs.Common.{◌≡◌, ◌+◌, ◌∙◌, List, ap, sym, subst, arith}
use Rattle.data_trace.specs.declared.places.Mark.{Mark}
use Rattle.data_trace.specs.Marks.{mark_of}
use Rattle.data_trace.specs.Columns.{group_at}
use Rattle.data_trace.specs.Sums.{total}
use Rattle.data_trace.specs.Counted.{kept_end, adds, AreCounted}
use Rattle.data_trace.proofs.Summing.{all}
use Rattle.data_trace.proofs.Changes.{counted-le, fits, mark_counted}
use Rattle.data_trace.proofs.counting.put_mark.Goals as goal

pub write_mark-requires-clause-fits : goal.write_mark-requires-clause-fits
write_mark-requires-clause-fits c = λ y e. omega (arith, c.requires.below y e, c.requires.sums.few)

pub leave-requires : goal.leave-requires
leave-requires c = λ p. omega (arith, ap (λ o. adds p o (group_at c.args.groups.now c.args.place)) (c.end_told.ensures ∙ ap (kept_end c.args.ases.now) c.mark_in.ensures), counted-le c.args.sums.now c.args.ases.now c.args.marks.now c.args.groups.now c.args.place c.requires.inside c.requires.sums.counted p)

pub join-requires : goal.join-requires
join-requires c =
    let old : total all c.leave.new.sums + adds all (kept_end c.args.ases.now (mark_of c.args.marks.now c.args.place)) (group_at c.args.groups.now c.args.place) ≡ total all c.args.sums.now =
    ap (λ o. total all c.leave.new.sums + adds all o (group_at c.args.groups.now c.args.place)) (sym (c.end_told.ensures ∙ ap (kept_end c.args.ases.now) c.mark_in.ensures)) ∙ c.leave.ensures.taken all in
    let f = fits c.args.sums.now c.args.ases.now c.args.marks.now c.args.groups.now c.args.place c.requires.inside c.requires.sums.counted c.args.mark c.requires.below (total all c.leave.new.sums) old in
    let told = ap (λ o. adds all o (group_at c.args.groups.now c.args.place)) c.end_told-2.ensures in
    record {
      room = omega (arith, f, told, c.requires.sums.room, c.leave.ensures.room);
      few = omega (arith, f, told, c.requires.sums.few);
    }

pub returns-clause-counted : goal.returns-clause-counted
returns-clause-counted c =
    subst (λ (ms : List Mark). AreCounted c.join.new.sums c.args.ases.now ms c.args.groups.now) (sym c.write_mark.ensures)
    (mark_counted c.args.sums.now c.args.ases.now c.args.marks.now c.args.groups.now c.args.place c.requires.inside c.requires.sums.counted c.args.mark c.requires.below c.leave.new.sums c.join.new.sums
    (λ p. ap (λ o. total p c.leave.new.sums + adds p o (group_at c.args.groups.now c.args.place)) (sym (c.end_told.ensures ∙ ap (kept_end c.args.ases.now) c.mark_in.ensures)) ∙ c.leave.ensures.taken p)
    (λ p. c.join.ensures.added p ∙ ap (λ o. total p c.leave.new.sums + adds p o (group_at c.args.groups.now c.args.place)) c.end_told-2.ensures))
