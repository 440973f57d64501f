use Rattle.std.proofs.Common.{refl, sym, subst}
use Rattle.sim_core.specs.Kept.{Kept, IsKept}
use Rattle.sim_core.specs.Sims.{world_seen}
use Rattle.sim_core.specs.World.{World, HasCycle}
use Rattle.asprop_run.specs.Refusals.{edit_refusal}
use Rattle.asprop_run.proofs.Answering.{reason_of}
use Rattle.asprop_run.proofs.answers.put_edit.Goals as goal

pub returns : goal.returns
returns g c = record {
  reply = record {
    text = edit_refusal c.in-Err.error;
    reply = (
      c.in-Err.error,
      reason_of (world_seen c.args.sim.now) c.args.edit.now c.in-Err.error c.in_ok-put_edit_refusal-in-Err.ensures.told c.in-Err.ensures.refused,
      refl,
      c.in-Err.ensures.same_world,
    );
    appended = c.in_ok-put_edit_refusal-in-Err.ensures.text;
  };
  kept = subst (λ (t : World × Kept). IsKept t.0 t.1) (λ i. (sym c.in-Err.ensures.same_world i, sym c.in-Err.ensures.same_kept i)) c.requires.kept;
  no_cycle = subst (λ (w : World). HasCycle w → ⊥) (sym c.in-Err.ensures.same_world) c.requires.no_cycle;
}
