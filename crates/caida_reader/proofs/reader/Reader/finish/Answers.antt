use Rattle.std.proofs.Common.{ap, ◌∙◌, subst, sym, Ok, Err}
use Rattle.std.proofs.lemmas.Result.{err_from_is_err_and}
use Rattle.caida_reader.specs.Says.{says}
use Rattle.caida_reader.specs.Firsts.{Judges}
use Rattle.caida_reader.specs.Progress.{Progress}
use Rattle.caida_reader.specs.declared.line.Line.{Line}
use Rattle.caida_reader.proofs.Reading.{file_ended}
use Rattle.caida_reader.proofs.reader.Reader.finish.Goals as goal

pub returns-in_err-judge-clause-value : goal.returns-in_err-judge-clause-value
returns-in_err-judge-clause-value c =
    let inside : Progress = record { table = c.self.inside.table; line = c.self.inside.line; rest = c.self.inside.rest.items; failed = c.self.inside.failed } in
    let P : Line → Type 0 = λ said. Judges inside.table c.judge.new.self inside.line said (Err c.in_err-judge.field-0.0) in
    let judges = subst P (c.read_line-said.ensures.value ∙ ap says c.deref.ensures.value) c.in_err-judge.ensures in
    let given = err_from_is_err_and c.from_residual.result c.from_residual.ensures.1 in
    rw (← c.self.view_is, given.1, given.2) (file_ended inside c.judge.new.self (Err c.in_err-judge.field-0.0) c.in-None.is c.self.invariant judges)

pub returns-clause-value : goal.returns-clause-value
returns-clause-value c =
    let inside : Progress = record { table = c.self.inside.table; line = c.self.inside.line; rest = c.self.inside.rest.items; failed = c.self.inside.failed } in
    let P : Line → Type 0 = λ said. Judges inside.table c.judge.new.self inside.line said (Ok tt) in
    let judges = subst P (c.read_line-said.ensures.value ∙ ap says c.deref.ensures.value) c.in_ok-judge.ensures in
    let value = file_ended inside c.judge.new.self (Ok tt) c.in-None.is c.self.invariant judges in
    rw (← c.self.view_is) (value ∙ ap (λ links. Ok links) (sym c.in_ok-links.ensures))
