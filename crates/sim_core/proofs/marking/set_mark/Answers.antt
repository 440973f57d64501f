use Rattle.std.proofs.Common.{◌<◌, Bool, subst, sym}
use Rattle.as_graph.specs.Refusals.{IsMarkRefusal}
use Rattle.as_graph.specs.Topology.{as_count}
use Rattle.as_graph.specs.declared.error.GraphError.{GraphError}
use Rattle.sim_core.specs.Marking.{with_mark_if}
use Rattle.sim_core.proofs.Marks.{one_too_many}
use Rattle.sim_core.proofs.marking.set_mark.Goals as goal

pub returns-in-Err-TooManyAses-clause-many : goal.returns-in-Err-TooManyAses-clause-many
returns-in-Err-TooManyAses-clause-many c =
    let why = subst (λ (e : GraphError). IsMarkRefusal c.args.graph.now c.args.asn e) c.in-Err-TooManyAses.field-0-is c.in-Err-TooManyAses.ensures.refused in
    subst (λ (t : Bool). 150000 < as_count (with_mark_if c.args.graph.now c.args.asn t)) (sym c.if-not-is_marked.false) (one_too_many c.args.graph.now c.args.asn why.0 why.1)
