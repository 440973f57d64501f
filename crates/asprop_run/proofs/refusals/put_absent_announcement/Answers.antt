use Rattle.std.proofs.Common.{◌++◌, ◌∙◌, ap, codes, decimal, List, ℕ}
use Rattle.net_names.specs.Texts.{prefix_text}
use Rattle.asprop_run.proofs.RefusalPieces.{five_pieces}
use Rattle.asprop_run.proofs.refusals.put_absent_announcement.Goals as goal

pub returns : goal.returns
returns c =
    let front : List ℕ = codes "refused absent-announcement " in
    let text : List ℕ = prefix_text c.args.prefix in
    five_pieces c.put_bytes-3.result c.args.out.now.items front text (decimal c.args.asn)
    c.put_prefix.new.out.items c.put_bytes-2.new.out.items c.put_asn.new.out.items c.put_bytes-3.new.out.items
    (c.in_ok-put_prefix.ensures.ok ∙ ap (λ (l : List ℕ). l ++ text) c.in_ok-put_bytes.ensures.ok)
    c.in_ok-put_bytes-2.ensures.ok c.in_ok-put_asn.ensures.ok c.put_bytes-3.ensures.ok
