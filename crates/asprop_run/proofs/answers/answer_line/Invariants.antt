use Rattle.asprop_run.proofs.answers.answer_line.Given as goal

abbrev pub ghosts-put_edit : goal.ghosts-put_edit
ghosts-put_edit a = record { name = a.blank.name; parts = a.blank.parts }
