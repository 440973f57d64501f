use Rattle.std.proofs.Common.{◌∷◌, ◌∙◌, ◌+◌, ap, sym, drop}
use Rattle.std.proofs.lemmas.List.{drop_more}
use Rattle.std.proofs.lemmas.Result.{err_from_is_err_and}
use Rattle.sim_core.specs.Marking.{marked}
use Rattle.sim_core.proofs.Marks.{refused_before}
use Rattle.sim_core.proofs.naming.mark_all.Goals as goal

pub returns-in_err-mark-clause-refused : goal.returns-in_err-mark-clause-refused
returns-in_err-mark-clause-refused c =
    let p = err_from_is_err_and c.from_residual.result c.from_residual.ensures.1 in
    rw (p.1, p.2)
    (refused_before c.args.graph.now c.loop-asn.graph c.args.names.now (drop (c.loop-asn.asn-index + 1) c.args.names.now) c.asn-item.result c.in_err-mark.field-0.0
    (c.loop-asn.invariant.marks ∙ ap (marked c.loop-asn.graph) (drop_more c.args.names.now c.loop-asn.asn-index c.asn-item.result c.loop-asn-test.true ∙ ap (λ n. n ∷ drop (c.loop-asn.asn-index + 1) c.args.names.now) (sym c.asn-item.is)))
    c.in_err-mark.ensures.refused)
