use Rattle.std.proofs.Common.{ℕ, ◌+◌, List, length, ◌∙◌, ap, sym, subst}
use Rattle.data_trace.specs.declared.places.PlaceHop.{PlaceHop}
use Rattle.data_trace.specs.declared.places.Mark.{Mark}
use Rattle.data_trace.specs.declared.places.Group.{Group}
use Rattle.data_trace.specs.Marks.{hop_at, next_of, IsWithin, AreEnds}
use Rattle.data_trace.specs.Columns.{here_at}
use Rattle.data_trace.specs.Keeping.{HasRoom}
use Rattle.data_trace.proofs.Staying.{kept_same, counted_same}
use Rattle.data_trace.proofs.watch.Watch.reserve.Goals as goal

pub invariant_of-self-in-Err-clause-within : goal.invariant_of-self-in-Err-clause-within
invariant_of-self-in-Err-clause-within c = subst IsWithin (sym c.reserve_all.ensures.columns.hops) c.args.self.now.within

pub invariant_of-self-in-Err-clause-ends : goal.invariant_of-self-in-Err-clause-ends
invariant_of-self-in-Err-clause-ends c =
    let w = c.args.self.now in
    let r = c.reserve_all.new in
    subst (λ (t : List PlaceHop). AreEnds (next_of t) (length t) r.columns.marks.items) (sym c.reserve_all.ensures.columns.hops)
    (subst (λ (t : List Mark). AreEnds (next_of w.columns.hops.items) (length w.columns.hops.items) t) (sym c.reserve_all.ensures.columns.marks) w.ends)

pub invariant_of-self-in-Err-clause-absent : goal.invariant_of-self-in-Err-clause-absent
invariant_of-self-in-Err-clause-absent c = λ x f.
    let w = c.args.self.now in
    ap (λ (t : List PlaceHop). hop_at t x) c.reserve_all.ensures.columns.hops ∙ w.absent x (ap (λ (t : List Group). here_at t x) (sym c.reserve_all.ensures.columns.groups) ∙ f)

pub invariant_of-self-in-Err-clause-counted : goal.invariant_of-self-in-Err-clause-counted
invariant_of-self-in-Err-clause-counted c =
    let w = c.args.self.now in
    let r = c.reserve_all.new in
    counted_same w.columns.sums r.columns.sums w.ases.ases r.ases.ases w.columns.marks.items r.columns.marks.items w.columns.groups.items r.columns.groups.items c.reserve_all.ensures.ases c.reserve_all.ensures.columns.marks c.reserve_all.ensures.columns.groups c.reserve_all.ensures.columns.sums w.counted

pub invariant_of-self-in-Err-clause-kept : goal.invariant_of-self-in-Err-clause-kept
invariant_of-self-in-Err-clause-kept c = λ e.
    let w = c.args.self.now in
    let r = c.reserve_all.new in
    let s = c.reserve_all.ensures in
    let n = length w.ases.ases + w.spare in
    let m = length r.ases.ases + w.spare in
    let room : HasRoom m r.lists = subst (λ k. HasRoom k r.lists) (ap (λ (ks : List ℕ). length ks + w.spare) (sym s.ases)) (s.lists.room n (w.kept e).room) in
    kept_same w.columns.hops.items r.columns.hops.items w.lists r.lists n m s.columns.hops s.lists.first s.lists.before s.lists.after room (w.kept e)
