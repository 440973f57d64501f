use Rattle.std.proofs.Common.{Bool, IsTrue, sym, ◌∙◌, ap, subst}
use Rattle.std.specs.Prelude.{◌↔◌}
use Rattle.as_graph.specs.Topology.{relation}
use Rattle.data_trace.specs.Watches.{IsStub}
use Rattle.data_trace.proofs.Naming.{stub_is}
use Rattle.data_trace.proofs.columns.group_of.Goals as goal

pub returns : goal.returns
returns g c = record {
  here = c.standing.ensures.here ∙ sym c.requires;
  stub = λ h. subst (λ (b : Bool). IsTrue b ↔ IsStub (relation c.args.graph.now) c.args.asn) (sym c.standing.ensures.stub) (stub_is (relation c.args.graph.now) c.args.asn c.neighbours_near.result.now c.neighbours_near.ensures);
  label_is = λ h. c.label.ensures ∙ ap g.P.Labelled.label_of c.policy.ensures;
}
