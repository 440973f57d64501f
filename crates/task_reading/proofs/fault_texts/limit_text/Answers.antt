use Rattle.std.proofs.Common.{ℕ, List, codes, ◌++◌, sym, ap}
use Rattle.scenario_text.specs.declared.faults.LimitOf.{LimitOf}
use Rattle.std.specs.Fmt.{digits}
use Rattle.task_reading.specs.Texts.{most_of}
use Rattle.task_reading.proofs.fault_texts.limit_text.Goals as goal

abbrev text : LimitOf → List ℕ
text which = codes "more than " ++ most_of which

pub returns-in-Announcements : goal.returns-in-Announcements
unfolding digits
returns-in-Announcements c = ap text (sym c.in-Announcements.is)

pub returns-in-Prefixes : goal.returns-in-Prefixes
unfolding digits
returns-in-Prefixes c = ap text (sym c.in-Prefixes.is)

pub returns-in-Path : goal.returns-in-Path
unfolding digits
returns-in-Path c = ap text (sym c.in-Path.is)

pub returns-in-Rounds : goal.returns-in-Rounds
unfolding digits
returns-in-Rounds c = ap text (sym c.in-Rounds.is)

pub returns-in-Leakers : goal.returns-in-Leakers
unfolding digits
returns-in-Leakers c = ap text (sym c.in-Leakers.is)

pub returns-in-Watch : goal.returns-in-Watch
unfolding digits
returns-in-Watch c = ap text (sym c.in-Watch.is)
