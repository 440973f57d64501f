use Rattle.std.proofs.Common.{codes, decimal, ◌∙◌, ap, ◌++◌, append_assoc, sym}
use Rattle.std.proofs.lemmas.Result.{IfOk-weaker}
use Rattle.task_reading.proofs.fault_texts.relation_text.Goals as goal

pub returns-in-Conflict : goal.returns-in-Conflict
returns-in-Conflict c =
    rw c.in-Conflict.is (IfOk-weaker c.format-in-Conflict.result _ _ (λ text is. is ∙ ap (λ rest. codes "line " ++ rest) (sym (append_assoc (decimal c.in-Conflict.line) (codes ": conflicts with line ") (decimal c.in-Conflict.earlier)))) c.format-in-Conflict.ensures.ok)

pub returns-in-TooManyLinks : goal.returns-in-TooManyLinks
returns-in-TooManyLinks c =
    rw c.in-TooManyLinks.is (IfOk-weaker c.format-in-TooManyLinks.result _ _ (λ text is. is ∙ ap (λ rest. codes "line " ++ rest) (sym (append_assoc (decimal c.in-TooManyLinks.line) (codes ": more than ") (decimal 1500000 ++ codes " links")))) c.format-in-TooManyLinks.ensures.ok)
