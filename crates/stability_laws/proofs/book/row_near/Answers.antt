use Rattle.std.proofs.Common.{nat_eq, sym, ap, ◌∙◌, ◌≡◌}
use Rattle.std.proofs.lemmas.Bool.{eqb-true}
use Rattle.indexmap.specs.IndexMap.{get}
use Rattle.stability_laws.proofs.book.row_near.Goals as goal

pub returns-in-Some-clause-row : goal.returns-in-Some-clause-row
returns-in-Some-clause-row g c =
    let same : c.in-Some.found.now ≡ c.args.asn = eqb-true _ _ (sym c.eq.ensures ∙ c.if-eq.true) in
    ap (get nat_eq c.args.named.now) (sym same) ∙ c.in-Some.ensures.value
