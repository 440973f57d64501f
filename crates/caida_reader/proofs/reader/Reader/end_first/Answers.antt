use Rattle.std.proofs.Common.{◌≡◌, [], sym, ◌∙◌, ap, arith, refl}
use Rattle.std.proofs.lemmas.Bool.{eqb-true}
use Rattle.std.proofs.lemmas.List.{nil_from_length}
use Rattle.caida_reader.specs.Progress.{Progress}
use Rattle.caida_reader.proofs.Cutting.{first_line, uncut}
use Rattle.caida_reader.proofs.Reading.{whole_line_ended}
use Rattle.caida_reader.proofs.reader.Reader.end_first.Goals as goal

pub returns-in-Some-clause-some : goal.returns-in-Some-clause-some
returns-in-Some-clause-some c =
    let inside : Progress = record { table = c.self.inside.table; line = c.self.inside.line; rest = c.self.inside.rest.items; failed = c.self.inside.failed } in
    let goes = ap (λ p. p.failed) c.self.view_is ∙ c.requires.goes in
    let empty : c.self.inside.rest.items ≡ [] =
    nil_from_length c.self.inside.rest.items (let zero = eqb-true _ _ (sym c.is_empty.ensures ∙ c.if-is_empty.true) in omega (arith, zero, c.self.inside.rest.ok.0)) in
    rw (← c.self.view_is) (whole_line_ended inside c.judge.new.self c.args.text.now c.in-Some.first.1.now c.in-Some.first.0 c.err-self-inside.result c.judge.result goes empty c.in-Some.ensures.line c.judge.ensures c.err-self-inside.ensures.value)

pub returns-in_err-line-clause-none : goal.returns-in_err-line-clause-none
returns-in_err-line-clause-none c = rw c.from_residual.ensures (uncut c.args.text.now (sym c.in_err-line.ensures), refl)

pub end_line-requires-clause-one_line : goal.end_line-requires-clause-one_line
end_line-requires-clause-one_line c = (first_line c.args.text.now c.in_ok-line.line.now c.in_ok-line.rest.now (sym c.in_ok-line.ensures)).0

pub returns-clause-some : goal.returns-clause-some
returns-clause-some c = record {
  line = c.in_ok-line.line.now;
  whole = (first_line c.args.text.now c.in_ok-line.line.now c.in_ok-line.rest.now (sym c.in_ok-line.ensures)).1;
  goes_on = c.end_line.ensures.goes_on;
  number = c.end_line.ensures.line;
}
