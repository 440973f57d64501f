use Rattle.std.proofs.Common.{◌++◌, ◌∙◌, ap, codes, decimal, List, ℕ}
use Rattle.net_names.specs.Texts.{prefix_text}
use Rattle.asprop_run.proofs.RefusalPieces.{six_pieces}
use Rattle.asprop_run.proofs.refusals.put_absent_vrp.Goals as goal

pub returns : goal.returns
returns c =
    let front : List ℕ = codes "refused absent-vrp " in
    six_pieces c.put_bytes-4.result c.args.out.now.items front (decimal c.args.vrp.asn) (prefix_text c.args.vrp.prefix) (decimal c.args.vrp.max)
    c.put_number.new.out.items c.put_bytes-2.new.out.items c.put_prefix.new.out.items c.put_bytes-3.new.out.items c.put_number-2.new.out.items c.put_bytes-4.new.out.items
    (c.in_ok-put_number.ensures.ok ∙ ap (λ (n : ℕ). c.put_bytes.new.out.items ++ decimal n) (c.from.ensures ∙ c.asn.ensures) ∙ ap (λ (l : List ℕ). l ++ decimal c.args.vrp.asn) c.in_ok-put_bytes.ensures.ok)
    c.in_ok-put_bytes-2.ensures.ok
    (c.in_ok-put_prefix.ensures.ok ∙ ap (λ p. c.put_bytes-2.new.out.items ++ prefix_text p) c.prefix.ensures)
    c.in_ok-put_bytes-3.ensures.ok
    (c.in_ok-put_number-2.ensures.ok ∙ ap (λ (n : ℕ). c.put_bytes-3.new.out.items ++ decimal n) (c.from-2.ensures ∙ c.max.ensures.value))
    c.put_bytes-4.ensures.ok
