use Rattle.std.proofs.Common.{OnOk, subst}
use Rattle.std.proofs.lemmas.Result.{err_from_is_err_and}
use Rattle.sim_core.specs.Views.{kept, world_seen}
use Rattle.sim_core.specs.Steps.{IsQuick}
use Rattle.sim_core.specs.Kept.{Kept}
use Rattle.sim_core.specs.World.{World}
use Rattle.sim_core.proofs.Doing.{counted_right, edited_from, if_done, if_refused, on_done, on_undone, right_after, right_by, still, still_acyclic, unchanged, unchanged_kept, unchanged_world}
use Rattle.sim_core.proofs.sim.Sim.edit.Goals as goal

pub tidied-requires-clause-right : goal.tidied-requires-clause-right
tidied-requires-clause-right g c = right_by c.args.self.now.parts c.args.self.now.counted c.requires.kept

pub invariant_of-self : goal.invariant_of-self
invariant_of-self g c =
    let s = c.args.self.now.parts in
    record { counted = counted_right c.tidied.new.self (still s c.tidied.new.self (unchanged s c.tidied.new.self c.tidied.ensures.unchanged) (right_by s c.args.self.now.counted c.requires.kept)) }

pub returns-in_err-tidied-clause-same_world : goal.returns-in_err-tidied-clause-same_world
returns-in_err-tidied-clause-same_world g c =
    let p = err_from_is_err_and c.from_residual.result c.from_residual.ensures.1 in
    rw p.1 (unchanged_world c.args.self.now.parts c.tidied.new.self c.tidied.ensures.unchanged)

pub returns-in_err-tidied-clause-same_kept : goal.returns-in_err-tidied-clause-same_kept
returns-in_err-tidied-clause-same_kept g c =
    let p = err_from_is_err_and c.from_residual.result c.from_residual.ensures.1 in
    rw p.1 (unchanged_kept c.args.self.now.parts c.tidied.new.self c.tidied.ensures.unchanged)

pub returns-in_err-tidied-clause-refused : goal.returns-in_err-tidied-clause-refused
returns-in_err-tidied-clause-refused g c =
    let p = err_from_is_err_and c.from_residual.result c.from_residual.ensures.1 in
    rw (p.1, p.2) tt

pub edit_tidied-requires-clause-editable : goal.edit_tidied-requires-clause-editable
edit_tidied-requires-clause-editable g c =
    let s = c.args.self.now.parts in
    let undone = unchanged s c.tidied.new.self c.tidied.ensures.unchanged in
    record {
      few_cells = c.in_ok-tidied.ensures.few_cells;
      right = still s c.tidied.new.self undone (right_by s c.args.self.now.counted c.requires.kept);
      no_cycle = still_acyclic s c.tidied.new.self undone c.requires.no_cycle;
    }

pub invariant_of-self-2 : goal.invariant_of-self-2
invariant_of-self-2 g c =
    let s = c.args.self.now.parts in
    let new = c.edit_tidied.new.self in
    let edited = edited_from s c.tidied.new.self new c.args.edit.now c.edit_tidied.result c.tidied.ensures.unchanged c.edit_tidied.ensures.edited in
    record { counted = counted_right new (right_after s new c.args.edit.now c.edit_tidied.result edited (right_by s c.args.self.now.counted c.requires.kept)) }

pub returns-clause-world : goal.returns-clause-world
returns-clause-world g c =
    let s = c.args.self.now.parts in
    let edited = edited_from s c.tidied.new.self c.edit_tidied.new.self c.args.edit.now c.edit_tidied.result c.tidied.ensures.unchanged c.edit_tidied.ensures.edited in
    on_done s c.edit_tidied.new.self c.args.edit.now c.edit_tidied.result edited (λ routes h. h.world)

pub returns-clause-allowed : goal.returns-clause-allowed
returns-clause-allowed g c =
    let s = c.args.self.now.parts in
    let edited = edited_from s c.tidied.new.self c.edit_tidied.new.self c.args.edit.now c.edit_tidied.result c.tidied.ensures.unchanged c.edit_tidied.ensures.edited in
    on_done s c.edit_tidied.new.self c.args.edit.now c.edit_tidied.result edited (λ routes h. h.allowed)

pub returns-clause-kept : goal.returns-clause-kept
returns-clause-kept g c =
    let s = c.args.self.now.parts in
    let edited = edited_from s c.tidied.new.self c.edit_tidied.new.self c.args.edit.now c.edit_tidied.result c.tidied.ensures.unchanged c.edit_tidied.ensures.edited in
    on_done s c.edit_tidied.new.self c.args.edit.now c.edit_tidied.result edited (λ routes h. h.right.is_kept)

pub returns-clause-changed : goal.returns-clause-changed
returns-clause-changed g c =
    let s = c.args.self.now.parts in
    if_done s c.edit_tidied.new.self c.args.edit.now c.edit_tidied.result (edited_from s c.tidied.new.self c.edit_tidied.new.self c.args.edit.now c.edit_tidied.result c.tidied.ensures.unchanged c.edit_tidied.ensures.edited)

pub returns-clause-refused : goal.returns-clause-refused
returns-clause-refused g c =
    let s = c.args.self.now.parts in
    if_refused s c.edit_tidied.new.self c.args.edit.now c.edit_tidied.result (edited_from s c.tidied.new.self c.edit_tidied.new.self c.args.edit.now c.edit_tidied.result c.tidied.ensures.unchanged c.edit_tidied.ensures.edited)

pub returns-clause-same_world : goal.returns-clause-same_world
returns-clause-same_world g c =
    let s = c.args.self.now.parts in
    let edited = edited_from s c.tidied.new.self c.edit_tidied.new.self c.args.edit.now c.edit_tidied.result c.tidied.ensures.unchanged c.edit_tidied.ensures.edited in
    on_undone s c.edit_tidied.new.self c.args.edit.now c.edit_tidied.result edited (λ h. h.world)

pub returns-clause-same_kept : goal.returns-clause-same_kept
returns-clause-same_kept g c =
    let s = c.args.self.now.parts in
    let edited = edited_from s c.tidied.new.self c.edit_tidied.new.self c.args.edit.now c.edit_tidied.result c.tidied.ensures.unchanged c.edit_tidied.ensures.edited in
    on_undone s c.edit_tidied.new.self c.args.edit.now c.edit_tidied.result edited (λ h. h.same_kept)

pub returns-clause-quick : goal.returns-clause-quick
returns-clause-quick g c =
    let same = c.tidied.ensures.unchanged in
    let s = c.args.self.now.parts in
    subst (λ (t : World × Kept). OnOk c.edit_tidied.result (IsQuick t.0 (world_seen c.edit_tidied.new.self) c.args.edit.now t.1.routings (kept c.edit_tidied.new.self).routings c.args.steps.now c.edit_tidied.new.steps))
    (λ i. (unchanged_world s c.tidied.new.self same i, unchanged_kept s c.tidied.new.self same i)) c.edit_tidied.ensures.quick
