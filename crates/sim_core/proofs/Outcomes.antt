-- What an edit comes to: it is done in few steps, or refused.
use Rattle.std.proofs.Common.{◌≡◌, ℕ, None, Result, Ok, Err, sym, subst}
use Rattle.std.specs.Prelude.{IsErrAnd}
use Rattle.net_names.specs.Prefixes.{PrefixValue}
use Rattle.as_graph.specs.Hierarchy.{HasNoProviderCycle}
use Rattle.as_graph.specs.Topology.{relation}
use Rattle.scenario_text.specs.declared.acts.Edit.{Edit}
use Rattle.sim_core.specs.Editing.{IsChanged, IsEditedQuickly, IsQuickChange, IsUndone, KeepsRest}
use Rattle.sim_core.specs.Edits.{IsEditRefusal, absent, edited, passed_limit}
use Rattle.sim_core.specs.Steps.{IsTouched}
use Rattle.sim_core.specs.Views.{world_seen}
use Rattle.sim_core.specs.declared.editing.Changed.{Changed}
use Rattle.sim_core.specs.declared.errors.EditError.{EditError}
use Rattle.sim_core.specs.declared.errors.EditError.TheVariants as refused
use Rattle.sim_core.specs.declared.parts.Parts.{Parts}
use Rattle.sim_core.proofs.Doing.{allowed_by, as_it_was, changed_done}
use Rattle.sim_core.proofs.Grounds.{quick_done}

-- an edit was begun, and what is kept taken to its world in few steps
pub changed_quickly : (old mid new : Parts) (e : Edit) (changed : Changed) (T : PrefixValue → ℕ → Type 0) (first last : ℕ) → world_seen mid ≡ edited (world_seen old) e → KeepsRest old mid → absent (world_seen old) e ≡ None → passed_limit (world_seen mid) ≡ None → HasNoProviderCycle (relation mid.graph)
    → IsChanged mid new None changed.routes → IsQuickChange mid new T first last → ((p : PrefixValue) (a : ℕ) → T p a → IsTouched (world_seen old) e p a) → IsEditedQuickly old new e (Ok changed) first last
changed_quickly old mid new e changed T first last world rest there small none is few only = record {
  edited = changed_done old mid new e changed.routes world rest (allowed_by (world_seen old) (world_seen mid) e world there small none) is;
  quick = quick_done old mid new e T first last few rest.rounds is.graph only;
}

-- an edit that is refused at the exit of a `?`, and leaves all as it was
pub edit_refused : (old new : Parts) (e : Edit) (x : EditError) (r : Result Changed EditError) (first last : ℕ) → IsErrAnd r (λ y. y ≡ x) → IsEditRefusal (world_seen old) e x → IsUndone old new → IsEditedQuickly old new e r first last
edit_refused old new e x (Ok changed) first last is refusal undone = absurd is
edit_refused old new e x (Err y) first last is refusal undone = record { edited = (subst (IsEditRefusal (world_seen old) e) (sym is) refusal, undone); quick = tt }

-- memory is wanting before the edit is begun
pub edit_unbegun : (s : Parts) (e : Edit) (r : Result Changed EditError) (first last : ℕ) → IsErrAnd r (λ y. y ≡ refused.Memory) → IsEditedQuickly s s e r first last
edit_unbegun s e r first last is = edit_refused s s e refused.Memory r first last is tt (as_it_was s)
