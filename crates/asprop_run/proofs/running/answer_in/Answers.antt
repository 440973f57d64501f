use Rattle.std.proofs.Common.{sym, ◌∙◌}
use Rattle.io_edge.proofs.Appending.{Appends-nil}
use Rattle.asprop_run.specs.Loaded.{loaded_world}
use Rattle.asprop_run.specs.Streams.{stream_of}
use Rattle.asprop_run.proofs.Ending.{answering, foreign}
use Rattle.asprop_run.proofs.Insides.{all_inside}
use Rattle.asprop_run.proofs.running.answer_in.Goals as goal

pub returns-in-Some : goal.returns-in-Some
returns-in-Some g c =
    foreign (record { world = loaded_world c.args.loaded; jobs = c.args.jobs.now }) c.in-Some.line c.not_in_world.result (stream_of g.O.Sink.written g.O.Sink.faults c.args.out.now c.args.out.now) c.requires.no_cycle (sym c.first_outside.ensures ∙ c.in-Some.is) c.not_in_world.ensures (Appends-nil _)

pub write_answers-requires-clause-inside : goal.write_answers-requires-clause-inside
write_answers-requires-clause-inside g c =
    all_inside (loaded_world c.args.loaded) c.args.jobs.now c.requires.alike c.requires.no_cycle (sym c.first_outside.ensures ∙ c.in-None.is) c.requires.populated

pub returns : goal.returns
returns g c =
    answering (record { world = loaded_world c.args.loaded; jobs = c.args.jobs.now }) c.write_answers.result _ (c.requires.no_cycle, sym c.first_outside.ensures ∙ c.in-None.is) c.write_answers.ensures
