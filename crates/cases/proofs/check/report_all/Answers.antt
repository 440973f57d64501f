use Rattle.std.proofs.Common.{◌≡◌, ap, inl, subst, ◌∙◌}
use Rattle.std.proofs.lemmas.Slice.Zip.{AllZip-long}
use Rattle.std.specs.List.{list_all}
use Rattle.io_edge.specs.Bytes.{Appends}
use Rattle.cases.specs.Reports.{report_text}
use Rattle.cases.proofs.check.report_all.Goals as goal

pub report-requires : goal.report-requires
report-requires g c = rw c.deref.ensures.value (AllZip-long _ _ _ c.in_ok-verdicts.ensures)

pub returns-in-Ok : goal.returns-in-Ok
returns-in-Ok g c =
    let each = c.in_ok-verdicts.verdicts.items in
    let said : c.deref-3.result.now ≡ report_text c.args.cases.now each = c.deref-3.ensures.value ∙ (c.in_ok-said.ensures ∙ ap (report_text c.args.cases.now) c.deref.ensures.value) in
    record {
      each = each;
      judged = c.in_ok-verdicts.ensures;
      said = inl (
        subst (Appends (g.O.Sink.written c.args.out.now) (g.O.Sink.written c.write_all.new.sink)) said c.in-Ok.ensures.whole,
        c.all_passed-passed.ensures ∙ ap (list_all (λ b. b)) c.deref-2.ensures.value,
      );
    }
