use Rattle.std.proofs.Common.{◌≡◌, ◌++◌, Bool, List, ap, codes, if◌then◌else◌, ◌∙◌, ℕ}
use Rattle.std.proofs.lemmas.Result.{on_ok_weaker}
use Rattle.asprop_run.specs.Delivering.{message_rows}
use Rattle.asprop_run.proofs.Facts.{messages_text}
use Rattle.asprop_run.proofs.delivering.put_messages.Goals as goal

pub returns : goal.returns
returns c =
    let text : c.as_bytes.result.now ≡ message_rows c.args.delivered c.args.queued =
    c.as_bytes.ensures.value ∙ c.in_ok-rows.ensures.ok ∙ messages_text c.args.delivered c.args.queued _ (c.yes_or_no-word.ensures ∙ ap (λ (b : Bool). codes (if b then "yes" else "no")) c.requires) in
    on_ok_weaker c.put_bytes.result (λ is. is ∙ ap (λ (t : List ℕ). c.args.text.now.items ++ t) text) c.put_bytes.ensures.ok
