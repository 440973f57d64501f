use Rattle.std.proofs.Common.{ap, sym, ◌∙◌}
use Rattle.cases.specs.Lines.{line_of}
use Rattle.cases.specs.Reports.{are_of_bundle}
use Rattle.cases.proofs.check.bundle.Goals as goal

pub returns-clause-none : goal.returns-clause-none
returns-clause-none c =
    let whole = c.in_ok-whole.ensures in
    record {
      notes = c.deref.result.now;
      cases = c.deref-2.result.now;
      none = λ is.
          let same = c.is_bundle.ensures.no c.if-is_bundle.false (is ∙ sym whole ∙ sym c.deref-4.ensures.value) in
          rw (c.deref.ensures.value, c.deref-2.ensures.value, ← c.deref-5.ensures.value, ← c.deref-6.ensures.value) same;
      line_is = c.line_of-line.ensures ∙ ap (line_of c.args.text.now) (c.deref-3.ensures.value ∙ whole);
    }
