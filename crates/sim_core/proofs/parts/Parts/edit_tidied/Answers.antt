use Rattle.std.proofs.Common.{◌≡◌, ℕ, Result, sym, subst}
use Rattle.scenario_text.specs.declared.acts.Edit.{Edit}
use Rattle.sim_core.specs.Editing.{IsEditedQuickly}
use Rattle.sim_core.specs.declared.editing.Changed.{Changed}
use Rattle.sim_core.specs.declared.errors.EditError.{EditError}
use Rattle.sim_core.specs.declared.parts.Parts.{Parts}
use Rattle.sim_core.proofs.parts.Parts.edit_tidied.Goals as goal

-- the same edit
same_edit : (old new : Parts) (d e : Edit) (r : Result Changed EditError) (first last : ℕ) → e ≡ d → IsEditedQuickly old new d r first last → IsEditedQuickly old new e r first last
same_edit old new d e r first last same h = subst (λ (x : Edit). IsEditedQuickly old new x r first last) (sym same) h

pub returns-in-Link : goal.returns-in-Link
returns-in-Link g c = same_edit _ _ _ _ _ _ _ c.in-Link.is c.edit_link.ensures

pub returns-in-Unlink : goal.returns-in-Unlink
returns-in-Unlink g c = same_edit _ _ _ _ _ _ _ c.in-Unlink.is c.edit_unlink.ensures

pub returns-in-Policy : goal.returns-in-Policy
returns-in-Policy g c = same_edit _ _ _ _ _ _ _ c.in-Policy.is c.edit_policy.ensures

pub returns-in-VrpAdd : goal.returns-in-VrpAdd
returns-in-VrpAdd g c = same_edit _ _ _ _ _ _ _ c.in-VrpAdd.is c.add_vrp.ensures

pub returns-in-VrpTake : goal.returns-in-VrpTake
returns-in-VrpTake g c = same_edit _ _ _ _ _ _ _ c.in-VrpTake.is c.take_vrp.ensures

pub returns-in-Announce : goal.returns-in-Announce
returns-in-Announce g c = same_edit _ _ _ _ _ _ _ c.in-Announce.is c.announce.ensures

pub returns-in-Withdraw : goal.returns-in-Withdraw
returns-in-Withdraw g c = same_edit _ _ _ _ _ _ _ c.in-Withdraw.is c.withdraw.ensures
