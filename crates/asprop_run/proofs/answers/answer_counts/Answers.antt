use Rattle.std.proofs.Common.{◌++◌, ℕ, List, ap, ap₂, refl, ◌∙◌}
use Rattle.std.proofs.lemmas.Result.{on_ok_weaker}
use Rattle.asprop_run.specs.Settling.{fact}
use Rattle.asprop_run.proofs.Facts.{counts_text}
use Rattle.asprop_run.proofs.answers.answer_counts.Goals as goal

pub returns : goal.returns
returns c =
    let text = c.as_bytes.ensures.value ∙ c.in_ok-rows.ensures.ok ∙ counts_text c.as_count-ases.result c.link_count-links.result
    ∙ ap₂ (λ (n m : ℕ). fact "ases" n ++ fact "links" m) c.as_count-ases.ensures.value c.link_count-links.ensures.value in
    on_ok_weaker c.put_bytes.result (λ is. (refl, refl, is ∙ ap (λ (l : List ℕ). l ++ c.as_bytes.result.now) c.clear.ensures.items ∙ text)) c.put_bytes.ensures.ok
