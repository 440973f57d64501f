use Rattle.std.proofs.Common.{rules, ◌≡◌, ℕ, ⊎_elim, ◌<◌, ◌≤◌, List, length, true≢false, sym, ◌∙◌, ap, subst, arith}
use Rattle.std.specs.Vec.{with_items}
use Rattle.std.proofs.lemmas.Bool.{cases_lt}
use Rattle.std.proofs.lemmas.List.{with_items_is, get_or_past}
use Rattle.data_trace.specs.declared.places.PlaceHop.{PlaceHop}
use Rattle.data_trace.specs.declared.places.PlaceHop.TheVariants.{NoRoute}
use Rattle.data_trace.specs.declared.places.PlaceEnd.{PlaceEnd}
use Rattle.data_trace.specs.declared.places.PlaceEnd.TheVariants.{At}
use Rattle.data_trace.specs.declared.places.Mark.{Mark}
use Rattle.data_trace.specs.declared.places.Mark.TheVariants.{Unknown, Walked, Known}
use Rattle.data_trace.specs.declared.places.Group.{Group}
use Rattle.data_trace.specs.Marks.{mark_of, next_of, AreRight, AreEnds}
use Rattle.data_trace.specs.Counted.{AreCounted}
use Rattle.data_trace.proofs.Walking.{ends_from_marks}
use Rattle.data_trace.proofs.watch.Watch.filled.Goals as goal

pub invariant_of-result-clause-kept : goal.invariant_of-result-clause-kept
invariant_of-result-clause-kept c = λ e. absurd (true≢false (sym e))

pub invariant_of-result-clause-ready : goal.invariant_of-result-clause-ready
invariant_of-result-clause-ready c = λ l. absurd (omega (arith, l))

unknown_known : (e : PlaceEnd) → Unknown ≡ Known e → ⊥
unknown_known e q = cc

unknown_walked : Unknown ≡ Walked → ⊥
unknown_walked q = cc

pub find_all-requires-clause-right : goal.find_all-requires-clause-right
find_all-requires-clause-right c =
    let is = λ (x : ℕ). sym (c.requires.unknown x) ∙ sym (ap (λ ms. mark_of ms x) c.as_mut_slice.ensures.value) in
    record { known = λ x e known. absurd (unknown_known e (is x ∙ known)); none_walked = λ x walked. unknown_walked (is x ∙ walked) }

pub find_all-requires-clause-below : goal.find_all-requires-clause-below
find_all-requires-clause-below c = λ x y e. absurd (unknown_known (At y) (sym (c.requires.unknown x) ∙ sym (ap (λ ms. mark_of ms x) c.as_mut_slice.ensures.value) ∙ e))

pub count_all-requires-clause-below : goal.count_all-requires-clause-below
count_all-requires-clause-below c = λ x y e.
    let marks : (with_items c.args.columns.marks c.find_all.new.marks).items ≡ c.find_all.new.marks = with_items_is c.args.columns.marks c.find_all.new.marks (search rules) in
    let same : c.as_slice-3.result.now ≡ c.find_all.new.marks = c.as_slice-3.ensures.value ∙ marks in
    omega (arith, c.find_all.ensures.below x y (sym (ap (λ ms. mark_of ms x) same) ∙ e), ap length c.as_slice.ensures.value, c.requires.len, ap length c.as_slice-2.ensures.list)

pub invariant_of-result-clause-ends : goal.invariant_of-result-clause-ends
invariant_of-result-clause-ends c =
    let hs : c.as_slice.result.now ≡ c.args.columns.hops.items = c.as_slice.ensures.value in
    let marks : (with_items c.args.columns.marks c.find_all.new.marks).items ≡ c.find_all.new.marks = with_items_is c.args.columns.marks c.find_all.new.marks (search rules) in
    let len : length c.find_all.new.marks ≡ length c.args.columns.hops.items = c.find_all.ensures.len ∙ ap length hs in
    subst (λ (ms : List Mark). AreEnds (next_of c.args.columns.hops.items) (length c.args.columns.hops.items) ms) (sym marks)
    (ends_from_marks (next_of c.args.columns.hops.items) (length c.args.columns.hops.items) c.find_all.new.marks len (subst (λ (t : List PlaceHop). AreRight (next_of t) c.find_all.new.marks) hs c.find_all.ensures.right)
    (λ x l. c.find_all.ensures.all_known x (omega (arith, l, ap length hs))))

pub invariant_of-result-clause-counted : goal.invariant_of-result-clause-counted
invariant_of-result-clause-counted c =
    subst (λ (ms : List Mark). AreCounted c.count_all.new.sums c.args.ases.ases ms c.args.columns.groups.items) c.as_slice-3.ensures.value
    (subst (λ (ks : List ℕ). AreCounted c.count_all.new.sums ks c.as_slice-3.result.now c.args.columns.groups.items) c.as_slice-2.ensures.list
    (subst (λ (gs : List Group). AreCounted c.count_all.new.sums c.as_slice-2.result.now c.as_slice-3.result.now gs) c.as_slice-4.ensures.value c.count_all.ensures))

pub invariant_of-result-clause-absent : goal.invariant_of-result-clause-absent
invariant_of-result-clause-absent c = λ x f. ⊎_elim (λ (l : x < length c.args.ases.ases). absurd (true≢false (sym (c.requires.here x l) ∙ f))) (λ (g : length c.args.ases.ases ≤ x). get_or_past c.args.columns.hops.items x NoRoute (omega (arith, g, c.requires.len))) (cases_lt x (length c.args.ases.ases))
