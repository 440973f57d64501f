use Rattle.std.proofs.Common.{◌++◌, ◌∙◌, ap, codes, List, ℕ}
use Rattle.net_names.specs.Texts.{addr_text}
use Rattle.asprop_run.proofs.RefusalPieces.{three_pieces}
use Rattle.asprop_run.proofs.refusals.put_not_watched.Goals as goal

pub returns : goal.returns
returns c =
    let front : List ℕ = codes "refused not-watched " in
    let text : List ℕ = addr_text c.args.addr in
    three_pieces c.put_bytes-2.result c.args.out.now.items front text c.put_addr.new.out.items c.put_bytes-2.new.out.items (c.in_ok-put_addr.ensures.ok ∙ ap (λ (l : List ℕ). l ++ text) c.in_ok-put_bytes.ensures.ok) c.put_bytes-2.ensures.ok
