-- That there is what is kept of a world, and what is answered.
use Rattle.std.specs.Prelude.{◌≡◌, ◌⊎◌, ℕ, None, List}
use Rattle.scenario_text.specs.declared.acts.Edit.{Edit}
use Rattle.scenario_text.specs.declared.acts.Query.{Query}
use Rattle.leak_round.specs.Changes.{HasChanges}
use Rattle.sim_core.specs.Answers.{IsAnswer, refusal_of}
use Rattle.sim_core.specs.Edits.{IsAllowed, IsReason, edited}
use Rattle.sim_core.specs.Kept.{IsKept, Kept}
use Rattle.sim_core.specs.World.{HasCycle, World}
use Rattle.sim_core.specs.declared.errors.EditError.{EditError}

-- of each world without a provider cycle there is what is kept: its one family of routings, the ranks of
-- its ASes, and the ends of its traces (Gao and Rexford 2001)
abbrev pub AKeptExists : Type 0
AKeptExists = (w : World) → (HasCycle w → ⊥) → (k : Kept) × IsKept w k

-- a query that is not refused has an answer, whatever is kept of the world to find it (own format)
abbrev pub AnAnswerExists : Type 0
AnAnswerExists = (w : World) (k : Kept) (q : Query) → IsKept w k → refusal_of w q ≡ None → (text : List ℕ) × IsAnswer w k q text

-- in a world without a provider cycle each edit is allowed, or there is a reason to refuse it (own format; Gao and
-- Rexford 2001, the hierarchy assumption)
abbrev pub AReasonExists : Type 0
AReasonExists = (w : World) (e : Edit) → (HasCycle w → ⊥) → IsAllowed w e ⊎ ((error : EditError) × IsReason w e error)

-- an edit of a world changes some number of entries (own format)
abbrev pub ACountExists : Type 0
ACountExists = (w : World) (e : Edit) (k now : Kept) → IsKept w k → IsKept (edited w e) now → (n : ℕ) × HasChanges (edited w e).plan (edited w e).rounds k.routings now.routings n
