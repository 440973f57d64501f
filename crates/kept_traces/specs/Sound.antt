-- Sound plans of worlds, and where packets of round 1 come.
use Rattle.std.specs.Prelude.{◌≡◌, ◌≢◌, ◌↔◌, ◌&&◌, ℕ, ◌≤◌, IsTrue, All, length, None}
use Rattle.std.specs.FinSet as set
use Rattle.net_names.specs.Addresses.{AddrValue}
use Rattle.net_names.specs.Prefixes.{PrefixValue}
use Rattle.as_graph.specs.Topology.{has}
use Rattle.scenario_text.specs.LineValues.{IsWellFormed}
use Rattle.scenario_text.specs.Scenarios.{ScenarioValue, StartsWith}
use Rattle.scenario_text.specs.declared.limits.TheConstants.{MOST_NUMBERS}
use Rattle.scenario_text.specs.declared.acts.Edit.{Edit}
use Rattle.stability_laws.specs.Plans.{IsSound}
use Rattle.data_trace.specs.Hops.{CanSendBy}
use Rattle.data_trace.specs.contracts.kinds.EndPartialEq.TheImpl as same_end
use Rattle.data_trace.specs.declared.kinds.End.TheVariants as the_end
use Rattle.reports.specs.declared.group.Group.{Group}
use Rattle.sim_core.specs.Counting.{how_many, in_group}
use Rattle.sim_core.specs.Edits.{edited, refusal_of_edit}
use Rattle.sim_core.specs.Kept.{IsKept, Kept}
use Rattle.sim_core.specs.Loaded.{plan_of}
use Rattle.sim_core.specs.World.{World, has_round, topology}

-- the plan of a scenario in which each path starts with its announcement's AS and has at most 64 numbers is sound (own
-- format)
abbrev pub LoadedPlansAreSound : Type 0
LoadedPlansAreSound = (s : ScenarioValue) → All (λ a. StartsWith a.asn a.path) s.announcements → All (λ a. length a.path ≤ MOST_NUMBERS) s.announcements → IsSound (plan_of s)

-- an edit that is not refused leaves a sound plan (own format)
abbrev pub EditedPlansStaySound : Type 0
EditedPlansStaySound = (w : World) (e : Edit) → IsSound w.plan → IsWellFormed e → refusal_of_edit w e ≡ None → IsSound (edited w e).plan

-- in round 1 of a world with a sound plan no packet to a watched address runs in a loop, and one finds no route exactly
-- where its first AS has no entry of a prefix that holds the address (RFC 4271, section 9.1.2, on AS loops;
-- RFC 4632, section 5.1)
abbrev pub KeptPacketsArrive : Type 0
KeptPacketsArrive = (w : World) (k : Kept) (addr : AddrValue) (a : ℕ) → IsSound w.plan → IsKept w k → IsTrue (has_round w 1) → IsTrue (set.contains w.watched addr) → IsTrue (has (topology w) a) →
    (k.ends 1 addr a ≢ the_end.Loop) × (k.ends 1 addr a ≡ the_end.NoRoute ↔ ((p : PrefixValue) → CanSendBy w.plan (k.routings 1) addr a p → ⊥))

-- a report of round 1 counts no AS of any group whose packets run in a loop, in a world with a sound plan (own format)
abbrev pub NoLoopsAreReported : Type 0
NoLoopsAreReported = (w : World) (k : Kept) (addr : AddrValue) (g : Group) → IsSound w.plan → IsKept w k → IsTrue (has_round w 1) → IsTrue (set.contains w.watched addr) →
    how_many w (λ a. in_group w k g a && (same_end.ghosts).eq (k.ends 1 addr a) the_end.Loop) ≡ 0
