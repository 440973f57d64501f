use Rattle.std.proofs.Common.{codes, decimal, ◌∙◌, ap, ◌++◌, append_assoc, sym}
use Rattle.std.proofs.lemmas.Result.{IfOk-weaker}
use Rattle.task_reading.proofs.forms.deliveries.text.Goals as goal

pub returns-in-TooMany : goal.returns-in-TooMany
returns-in-TooMany c =
    rw c.in-TooMany.is (IfOk-weaker c.format-in-TooMany.result _ _ (λ text is. is ∙ ap (λ rest. codes "line " ++ rest) (sym (append_assoc (decimal c.in-TooMany.line) (codes ": more than ") (decimal 1000000 ++ codes " deliveries")))) c.format-in-TooMany.ensures.ok)
