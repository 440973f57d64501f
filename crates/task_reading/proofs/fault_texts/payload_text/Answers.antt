use Rattle.std.proofs.Common.{codes, decimal, ◌∙◌, ap, ◌++◌, append_assoc, sym}
use Rattle.std.proofs.lemmas.Result.{IfOk-weaker}
use Rattle.task_reading.proofs.fault_texts.payload_text.Goals as goal

pub returns-in-TooMany : goal.returns-in-TooMany
returns-in-TooMany c =
    rw c.in-TooMany.is (IfOk-weaker c.format-in-TooMany.result _ _ (λ text is. is ∙ ap (λ rest. codes "row " ++ rest) (sym (append_assoc (decimal c.in-TooMany.row) (codes ": more than ") (decimal 2000000 ++ codes " payloads")))) c.format-in-TooMany.ensures.ok)
