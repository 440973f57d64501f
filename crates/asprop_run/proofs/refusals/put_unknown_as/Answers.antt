use Rattle.std.proofs.Common.{◌++◌, ◌∙◌, ap, codes, decimal, List, ℕ}
use Rattle.asprop_run.proofs.RefusalPieces.{three_pieces}
use Rattle.asprop_run.proofs.refusals.put_unknown_as.Goals as goal

pub returns : goal.returns
returns c =
    let front : List ℕ = codes "refused unknown-as " in
    let text : List ℕ = decimal c.args.asn in
    three_pieces c.put_bytes-2.result c.args.out.now.items front text c.put_asn.new.out.items c.put_bytes-2.new.out.items (c.in_ok-put_asn.ensures.ok ∙ ap (λ (l : List ℕ). l ++ text) c.in_ok-put_bytes.ensures.ok) c.put_bytes-2.ensures.ok
