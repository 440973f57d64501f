use Rattle.std.proofs.Common.{◌∙◌, ◌+◌, ◌++◌, ◌∷◌, [], length, sym, ap, subst, arith}
use Rattle.std.specs.Prelude.{nat_eq}
use Rattle.std.specs.List.{IsDistinct}
use Rattle.std.proofs.lemmas.List.{length_push}
use Rattle.as_places.proofs.PlaceLemmas.{distinct_push}
use Rattle.data_trace.specs.declared.places.PlaceHop.{PlaceHop}
use Rattle.data_trace.specs.declared.places.PlaceHop.TheVariants.{NoRoute}
use Rattle.data_trace.specs.declared.places.Mark.{Mark}
use Rattle.data_trace.specs.declared.places.Group.{Group}
use Rattle.data_trace.specs.Columns.{is_here}
use Rattle.data_trace.specs.Keeping.{AreKept}
use Rattle.data_trace.proofs.Extending.{ends_added, hop_added, group_added, counted_added}
use Rattle.data_trace.proofs.Staying.{kept_added}
use Rattle.data_trace.proofs.watch.Watch.add_place.Goals as goal

pub invariant_of-self-clause-apart : goal.invariant_of-self-clause-apart
invariant_of-self-clause-apart c =
    let w = c.args.self.now in
    subst (IsDistinct nat_eq) (sym c.add.ensures.list) (distinct_push w.ases.ases c.args.asn w.apart c.requires.new)

pub invariant_of-self-clause-hops_len : goal.invariant_of-self-clause-hops_len
invariant_of-self-clause-hops_len c =
    let w = c.args.self.now in
    omega (arith, ap length c.add.ensures.list, ap length (c.put_last.ensures.items ∙ ap (λ (h : PlaceHop). c.args.self.now.columns.hops.items ++ h ∷ []) c.of.ensures), length_push w.columns.hops.items NoRoute, length_push w.ases.ases c.args.asn, w.hops_len)

pub invariant_of-self-clause-within : goal.invariant_of-self-clause-within
invariant_of-self-clause-within c = λ x y e.
    let w = c.args.self.now in
    omega (arith, w.within x y (sym (hop_added w.columns.hops.items c.put_last.new.values.items (c.put_last.ensures.items ∙ ap (λ (h : PlaceHop). c.args.self.now.columns.hops.items ++ h ∷ []) c.of.ensures) x) ∙ e), ap length (c.put_last.ensures.items ∙ ap (λ (h : PlaceHop). c.args.self.now.columns.hops.items ++ h ∷ []) c.of.ensures), length_push w.columns.hops.items NoRoute)

pub invariant_of-self-clause-kept : goal.invariant_of-self-clause-kept
invariant_of-self-clause-kept c = λ e.
    let w = c.args.self.now in
    let n = length w.ases.ases + w.spare in
    let k : AreKept w.columns.hops.items n w.lists = w.kept e in
    subst (λ m. AreKept c.put_last.new.values.items m c.add_place.new.self) (omega (arith, ap length c.add.ensures.list, length_push w.ases.ases c.args.asn, c.requires.spare))
    (kept_added w.columns.hops.items c.put_last.new.values.items w.lists c.add_place.new.self n (c.put_last.ensures.items ∙ ap (λ (h : PlaceHop). c.args.self.now.columns.hops.items ++ h ∷ []) c.of.ensures) c.add_place.ensures.first c.add_place.ensures.before c.add_place.ensures.after (c.add_place.ensures.room n k.room) k)

pub invariant_of-self-clause-ends : goal.invariant_of-self-clause-ends
invariant_of-self-clause-ends c =
    let w = c.args.self.now in
    ends_added w.columns.hops.items c.put_last.new.values.items (c.put_last.ensures.items ∙ ap (λ (h : PlaceHop). c.args.self.now.columns.hops.items ++ h ∷ []) c.of.ensures) w.columns.marks.items c.put_last-2.new.values.items (c.put_last-2.ensures.items ∙ ap (λ (m : Mark). c.args.self.now.columns.marks.items ++ m ∷ []) c.of-2.ensures) w.ends

pub invariant_of-self-clause-counted : goal.invariant_of-self-clause-counted
invariant_of-self-clause-counted c =
    let w = c.args.self.now in
    counted_added w.columns.sums w.ases.ases c.add.new.self.ases w.columns.marks.items c.put_last-2.new.values.items w.columns.groups.items c.put_last-3.new.values.items c.args.asn c.add.ensures.list (c.put_last-2.ensures.items ∙ ap (λ (m : Mark). c.args.self.now.columns.marks.items ++ m ∷ []) c.of-2.ensures) c.put_last-3.ensures.items w.counted

pub invariant_of-self-clause-absent : goal.invariant_of-self-clause-absent
invariant_of-self-clause-absent c = λ x f.
    let w = c.args.self.now in
    hop_added w.columns.hops.items c.put_last.new.values.items (c.put_last.ensures.items ∙ ap (λ (h : PlaceHop). c.args.self.now.columns.hops.items ++ h ∷ []) c.of.ensures) x ∙ w.absent x (ap (λ (t : Group). is_here t.standing) (sym (group_added w.columns.groups.items c.put_last-3.new.values.items c.put_last-3.ensures.items x)) ∙ f)
