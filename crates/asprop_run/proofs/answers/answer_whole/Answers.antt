use Rattle.asprop_run.proofs.answers.answer_whole.Goals as goal

pub returns-in-Line-clause-answered : goal.returns-in-Line-clause-answered
returns-in-Line-clause-answered c = rw c.in-Line.is c.answer_line.ensures.answered
