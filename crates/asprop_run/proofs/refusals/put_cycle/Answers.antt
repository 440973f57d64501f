use Rattle.std.proofs.Common.{◌++◌, ◌∙◌, ap, codes, List, ℕ}
use Rattle.net_names.specs.Texts.{numbers_text}
use Rattle.asprop_run.proofs.RefusalPieces.{three_pieces}
use Rattle.asprop_run.proofs.refusals.put_cycle.Goals as goal

pub returns : goal.returns
returns c =
    let front : List ℕ = codes "refused provider-cycle " in
    let text : List ℕ = numbers_text c.args.cycle.now in
    three_pieces c.put_bytes-2.result c.args.out.now.items front text c.put_numbers.new.out.items c.put_bytes-2.new.out.items
    (c.in_ok-put_numbers.ensures.ok ∙ ap (λ (l : List ℕ). l ++ numbers_text c.as_slice.result.now) c.in_ok-put_bytes.ensures.ok ∙ ap (λ (l : List ℕ). (c.args.out.now.items ++ front) ++ numbers_text l) c.as_slice.ensures) c.put_bytes-2.ensures.ok
