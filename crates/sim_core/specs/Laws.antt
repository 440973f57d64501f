-- What a world is asked, what an edit of it comes to, and what is kept of it, is one.
use Rattle.std.specs.Prelude.{◌≡◌, ◌⊎◌, ℕ, IsTrue, None, List}
use Rattle.std.specs.FinSet as set
use Rattle.net_names.specs.Addresses.{AddrValue}
use Rattle.net_names.specs.Prefixes.{PrefixValue}
use Rattle.as_graph.specs.Topology.{has}
use Rattle.stability_laws.specs.Plans.{has_prefix}
use Rattle.scenario_text.specs.declared.acts.Query.{Query}
use Rattle.scenario_text.specs.declared.acts.Edit.{Edit}
use Rattle.leak_round.specs.Changes.{HasChanges}
use Rattle.sim_core.specs.World.{World, has_round, topology}
use Rattle.sim_core.specs.Kept.{Kept, IsKept}
use Rattle.sim_core.specs.Answers.{IsAnswer, refusal_of}
use Rattle.sim_core.specs.Edits.{IsReason, edited, refusal_of_edit}
use Rattle.sim_core.specs.declared.errors.EditError.{EditError}
use Rattle.sim_core.specs.declared.errors.EditError.TheVariants as refused

-- a query that is not refused has one answer, whatever is kept of the world
abbrev pub OneAnswer : Type 0
OneAnswer = (w : World) (k l : Kept) (q : Query) (s t : List ℕ) → IsKept w k → IsKept w l → refusal_of w q ≡ None → IsAnswer w k q s → IsAnswer w l q t → s ≡ t

-- an edit that is not refused changes one number of entries
abbrev pub OneCount : Type 0
OneCount = (w : World) (e : Edit) (k l now again : Kept) (m n : ℕ) → refusal_of_edit w e ≡ None → IsKept w k → IsKept w l → IsKept (edited w e) now → IsKept (edited w e) again
    → HasChanges (edited w e).plan (edited w e).rounds k.routings now.routings m → HasChanges (edited w e).plan (edited w e).rounds l.routings again.routings n → m ≡ n

-- the reason is a provider cycle
abbrev pub IsCycle : EditError → Type 0
IsCycle x = (cycle : List ℕ) × (x ≡ refused.ProviderCycle cycle)

-- an edit is refused for one reason, or each time for a provider cycle
abbrev pub OneReason : Type 0
OneReason = (w : World) (e : Edit) (x y : EditError) → IsReason w e x → IsReason w e y → (x ≡ y) ⊎ (IsCycle x × IsCycle y)

-- two that are kept of a world are the same in it: in the routings of its rounds and prefixes, in the ranks, and in how the traces of its ASes end for its rounds and watched addresses
pub record AreSameIn (w : World) (k l : Kept) : Type 0 where
  pub routings : (round : ℕ) (p : PrefixValue) → IsTrue (has_round w round) → IsTrue (has_prefix w.plan p) → (a : ℕ) → k.routings round p a ≡ l.routings round p a
  pub ranks : (a : ℕ) → k.ranks a ≡ l.ranks a
  pub ends : (round : ℕ) (addr : AddrValue) (a : ℕ) → IsTrue (has_round w round) → IsTrue (set.contains w.watched addr) → IsTrue (has (topology w) a) → k.ends round addr a ≡ l.ends round addr a

-- what is kept of a world is one, however it was come by: by a load of it, or by edits that lead to it (Gao and Rexford 2001)
abbrev pub OneKept : Type 0
OneKept = (w : World) (k l : Kept) → IsKept w k → IsKept w l → AreSameIn w k l
