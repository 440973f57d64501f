use Rattle.std.proofs.Common.{option_map, sym, subst, ap}
use Rattle.route_choice.specs.Routings.{entry_of}
use Rattle.as_graph.specs.Topology.{relation}
use Rattle.three_pass.specs.Told.{AreTrue, IsTold}
use Rattle.three_pass.proofs.pass.Passing.step_and_tell.Goals as goal

pub returns-clause-told : goal.returns-clause-told
returns-clause-told g c = record {
  around = λ some n r linked other. c.add_holder.ensures.around (λ none. some (ap (option_map (entry_of c.step-taken.new.pool)) none)) n r linked other;
  others = λ a b told. c.add_holder.ensures.others a b (subst (λ t. IsTold t a b) (sym c.step-taken.ensures.told) told);
  true_notes = c.add_holder.ensures.sound (subst (AreTrue (relation c.args.self.now.at.graph.now)) (sym c.step-taken.ensures.told) c.requires.ready.true_notes);
}
