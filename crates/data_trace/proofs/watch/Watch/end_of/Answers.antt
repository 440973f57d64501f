use Rattle.std.proofs.Common.{◌≡◌, ℕ, ◌<◌, false, true, List, length, Option, Some, refl, sym, ◌∙◌, ap, subst, arith}
use Rattle.std.specs.Prelude.{IfSome, IfNone}
use Rattle.data_trace.specs.declared.kinds.End.{End}
use Rattle.data_trace.specs.declared.places.Mark.{Mark}
use Rattle.data_trace.specs.declared.places.Group.{Group}
use Rattle.data_trace.specs.Marks.{mark_of}
use Rattle.data_trace.specs.Watches.{Row, IsRowOf}
use Rattle.data_trace.specs.Views.{rows_of}
use Rattle.data_trace.specs.Columns.{row, told, group_at, here_at, is_here}
use Rattle.data_trace.specs.Counted.{kept_end}
use Rattle.data_trace.proofs.Placing.{found_at}
use Rattle.data_trace.proofs.Seen.{kept_known}
use Rattle.data_trace.proofs.Rows.{none_found, gone_found, row_found}
use Rattle.data_trace.proofs.watch.Watch.end_of.Goals as goal

pub returns-in_err-place-clause-none : goal.returns-in_err-place-clause-none
returns-in_err-place-clause-none c =
    let w = c.args.self.now in
    subst (λ (o : Option End). IfNone o ((r : Row) → IsRowOf (rows_of w) c.args.asn r → ⊥)) (sym c.from_residual.ensures) (none_found w.ases.ases w.columns.hops.items w.columns.marks.items w.columns.groups.items c.args.asn c.in_err-place.ensures.none)

pub returns-then-not-is_here-clause-none : goal.returns-then-not-is_here-clause-none
returns-then-not-is_here-clause-none c =
    let w = c.args.self.now in
    let h : here_at w.columns.groups.items c.in_ok-place.place ≡ false = ap (λ (gs : List Group). is_here (group_at gs c.in_ok-place.place).standing) (sym c.as_slice.ensures.value) ∙ sym c.is_here.ensures ∙ c.if-not-is_here.true in
    gone_found w.ases.ases w.columns.hops.items w.columns.marks.items w.columns.groups.items c.args.asn c.in_ok-place.place w.apart c.in_ok-place.ensures.found h

pub returns-clause-some : goal.returns-clause-some
returns-clause-some c =
    let w = c.args.self.now in
    let p : ℕ = c.in_ok-place.place in
    let h : here_at w.columns.groups.items p ≡ true = ap (λ (gs : List Group). is_here (group_at gs p).standing) (sym c.as_slice.ensures.value) ∙ sym c.is_here.ensures ∙ c.if-not-is_here.false in
    let l : (p < length w.ases.ases) = (found_at w.ases.ases c.args.asn p c.in_ok-place.ensures.found).0 in
    let e : c.end_told.result ≡ Some (told w.ases.ases (mark_of w.columns.marks.items p)) = c.end_told.ensures ∙ ap (kept_end c.as_slice-2.result.now) c.mark_in.ensures ∙ ap (λ (ks : List ℕ). kept_end ks (mark_of c.as_slice-3.result.now p)) c.as_slice-2.ensures.list
    ∙ ap (λ (ms : List Mark). kept_end w.ases.ases (mark_of ms p)) c.as_slice-3.ensures.value ∙ kept_known w.ases.ases w.columns.hops.items w.columns.marks.items p w.ends (omega (arith, l, w.hops_len)) in
    subst (λ (o : Option End). IfSome o (λ e. (r : Row) × IsRowOf (rows_of w) c.args.asn r × (r.end ≡ e))) (sym e)
    (row w.ases.ases w.columns.hops.items w.columns.marks.items w.columns.groups.items p, row_found w.ases.ases w.columns.hops.items w.columns.marks.items w.columns.groups.items c.args.asn p c.in_ok-place.ensures.found h, refl)

pub returns-clause-none : goal.returns-clause-none
returns-clause-none c =
    let w = c.args.self.now in
    let p : ℕ = c.in_ok-place.place in
    let l : (p < length w.ases.ases) = (found_at w.ases.ases c.args.asn p c.in_ok-place.ensures.found).0 in
    let e : c.end_told.result ≡ Some (told w.ases.ases (mark_of w.columns.marks.items p)) = c.end_told.ensures ∙ ap (kept_end c.as_slice-2.result.now) c.mark_in.ensures ∙ ap (λ (ks : List ℕ). kept_end ks (mark_of c.as_slice-3.result.now p)) c.as_slice-2.ensures.list
    ∙ ap (λ (ms : List Mark). kept_end w.ases.ases (mark_of ms p)) c.as_slice-3.ensures.value ∙ kept_known w.ases.ases w.columns.hops.items w.columns.marks.items p w.ends (omega (arith, l, w.hops_len)) in
    subst (λ (o : Option End). IfNone o ((r : Row) → IsRowOf (rows_of w) c.args.asn r → ⊥)) (sym e) tt
