use Rattle.std.proofs.Common.{ap, ◌∙◌}
use Rattle.caida_reader.specs.Progress.{Progress}
use Rattle.caida_reader.proofs.Cutting.{one_line-append}
use Rattle.caida_reader.proofs.Reading.{line_ended}
use Rattle.caida_reader.proofs.reader.Reader.end_line.Goals as goal

pub returns-clause-goes_on : goal.returns-clause-goes_on
returns-clause-goes_on c =
    let inside : Progress = record { table = c.self.inside.table; line = c.self.inside.line; rest = c.self.inside.rest.items; failed = c.self.inside.failed } in
    let goes = ap (λ p. p.failed) c.self.view_is ∙ c.requires.goes in
    rw (← c.self.view_is) (line_ended inside c.judge_ended.new.table c.args.end.now c.judge_ended.new.rest.items c.err-self-inside.result c.judge_ended.result
    goes (one_line-append inside.rest c.args.end.now c.self.invariant c.requires.one_line) c.judge_ended.ensures.judges c.judge_ended.ensures.rest c.err-self-inside.ensures.value)
