use Rattle.std.proofs.Common.{refl, ap}
use Rattle.net_names.proofs.Shared.{on_err}
use Rattle.as_graph.specs.Topology.{Topology}
use Rattle.sim_core.proofs.PayloadEdits.{vrps_undone}
use Rattle.sim_core.proofs.parts.Parts.cut_link.Goals as goal

pub returns-in_err-room_for-clause-err : goal.returns-in_err-room_for-clause-err
returns-in_err-room_for-clause-err c = on_err c.from_residual.result (vrps_undone c.args.self.now _ (ap (λ (t : Topology). t.links) c.in_err-room_for.ensures.err) refl refl (record { ranks = refl; rounds = refl; watched = refl; watches = refl }))
