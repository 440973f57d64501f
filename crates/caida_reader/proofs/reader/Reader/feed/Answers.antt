use Rattle.std.proofs.Common.{◌++◌, ◌∷◌, length, length-append, sym, ap, ◌∙◌, arith}
use Rattle.caida_reader.specs.Progress.{outcome}
use Rattle.caida_reader.proofs.Reading.{stopped, went_on, goes_on_failed}
use Rattle.caida_reader.proofs.reader.Reader.feed.Goals as goal

pub returns-in-Some-failed-clause-fault : goal.returns-in-Some-failed-clause-fault
returns-in-Some-failed-clause-fault c =
    let ends = c.in-Some-end_first.ensures.some in
    let failed = sym (ap (λ p. p.failed) c.self-in-lines.view_is) ∙ c.in-Some-failed.is in (
      failed,
      stopped c.lines.self c.end_first.new.self c.args.self.now c.in-Some-failed.error ends.line c.in-Some-end_first.rest.now c.lines.left.now c.args.piece.now
          ends.whole failed ends.goes_on c.lines.invariant.so_far,
    )

pub returns-in-Some-failed-clause-goes_on : goal.returns-in-Some-failed-clause-goes_on
returns-in-Some-failed-clause-goes_on c =
    let fault = returns-in-Some-failed-clause-fault c in
    goes_on_failed c.end_first.new.self c.in-Some-failed.error (λ more. outcome c.args.self.now (c.args.piece.now ++ more)) fault.0 fault.1

pub lines-preserved : goal.lines-preserved
lines-preserved c =
    let ends = c.in-Some-end_first.ensures.some in
    let goes = sym (ap (λ p. p.failed) c.self-in-lines.view_is) ∙ c.in-None-failed.is in
    let lengths = ap length ends.whole ∙ length-append ends.line (10 ∷ c.in-Some-end_first.rest.now) in
    record {
      goes = goes;
      so_far = went_on c.lines.self c.end_first.new.self c.args.self.now ends.line c.in-Some-end_first.rest.now c.lines.left.now c.args.piece.now ends.whole goes ends.goes_on c.lines.invariant.so_far;
      line = omega (arith, lengths, c.lines.invariant.line, ends.number);
    }
