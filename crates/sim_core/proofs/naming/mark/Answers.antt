use Rattle.std.proofs.Common.{ap, subst}
use Rattle.as_graph.specs.Topology.{as_count}
use Rattle.as_graph.specs.Refusals.{IsMarkRefusal}
use Rattle.as_graph.specs.declared.error.GraphError.{GraphError}
use Rattle.sim_core.proofs.Marks.{few_marked, one_too_many}
use Rattle.sim_core.proofs.naming.mark.Goals as goal

pub returns-in-Ok-clause-few : goal.returns-in-Ok-clause-few
returns-in-Ok-clause-few c = few_marked c.args.graph.now c.mark.new.self c.args.asn (ap as_count c.in-Ok.ensures.ok) c.in-Ok.ensures.few

pub returns-in-Err-TooManyAses-clause-refused : goal.returns-in-Err-TooManyAses-clause-refused
returns-in-Err-TooManyAses-clause-refused c =
    let P : GraphError → Type 0 = λ e. IsMarkRefusal c.args.graph.now c.args.asn e in
    let why = subst P c.in-Err-TooManyAses.field-0-is c.in-Err-TooManyAses.ensures.refused in
    one_too_many c.args.graph.now c.args.asn why.0 why.1
