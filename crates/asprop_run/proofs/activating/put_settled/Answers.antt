use Rattle.std.proofs.Common.{◌≡◌, ◌++◌, ℕ, List, ap, ◌∙◌}
use Rattle.std.proofs.lemmas.Result.{on_ok_weaker}
use Rattle.asprop_run.specs.Settling.{acts_rows}
use Rattle.asprop_run.proofs.Facts.{settled_text}
use Rattle.asprop_run.proofs.activating.put_settled.Goals as goal

pub returns : goal.returns
returns c =
    let text : c.as_bytes.result.now ≡ acts_rows c.args.pieces c.args.height c.args.settled =
    c.as_bytes.ensures.value ∙ c.in_ok-rows.ensures.ok ∙ settled_text c.args.pieces c.args.height c.args.settled _ c.yes_or_no-word.ensures in
    on_ok_weaker c.put_bytes.result (λ is. is ∙ ap (λ (t : List ℕ). c.args.text.now.items ++ t) text) c.put_bytes.ensures.ok
