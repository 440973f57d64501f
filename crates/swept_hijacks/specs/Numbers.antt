-- How many ASes a longer prefix hijacks, in worlds and in sweeps.
use Rattle.std.specs.Prelude.{◌≡◌, ℕ, ◌≤◌, Bool, false, ◌||◌, ◌&&◌, IsTrue, Some, List, slice_get}
use Rattle.std.specs.FinMap as fin
use Rattle.std.specs.FinSet as set
use Rattle.std.specs.Ordering.{nat_cmp}
use Rattle.net_names.specs.Addresses.{AddrValue}
use Rattle.net_names.specs.Prefixes.{PrefixValue}
use Rattle.as_graph.specs.Topology.{has}
use Rattle.policy_kinds.specs.declared.kind.Kind.{Kind}
use Rattle.origin_validation.specs.Judging.{state_of}
use Rattle.stability_laws.specs.Plans.{IsSound, announces, leaks_in}
use Rattle.data_trace.specs.contracts.kinds.EndPartialEq.TheImpl as same_end
use Rattle.data_trace.specs.declared.kinds.End.TheVariants as the_end
use Rattle.reports.specs.declared.group.Group.TheVariants as group
use Rattle.sim_core.specs.Counting.{how_many, in_group}
use Rattle.sim_core.specs.Kept.{IsKept, Kept}
use Rattle.sim_core.specs.World.{HasCycle, World, has_round, kind_at, topology}
use Rattle.sweep.specs.declared.sweeps.Sweep.{Sweep}
use Rattle.sweep.specs.declared.trial.Fate.{Fate}
use Rattle.sweep.specs.declared.trial.Fate.TheVariants as fate
use Rattle.trial_world.specs.Sweeps.{AreNumbers, IsSweptIn}
use Rattle.routing_laws.specs.KindLaws.{is_dropper, undropping}
use Rattle.hijack_laws.specs.SubPrefix.{IsSubPrefixHijack}

-- in a world without a provider cycle and with a sound plan, x alone announces q, which hijacks the address as a longer
-- prefix, and nobody leaks in the round; `has_as` says which numbers are taken for ASes (RFC 4632, section 5.1;
-- RFC 6811, section 2)
pub record IsHijackedBy (has_as : ℕ → Bool) (w : World) (round : ℕ) (addr : AddrValue) (q : PrefixValue) (x : ℕ) : Type 0 where
  pub no_cycle : HasCycle w → ⊥
  pub sound : IsSound w.plan
  pub quiet : (b : ℕ) → leaks_in w.plan round b ≡ false
  pub hijack : IsSubPrefixHijack has_as (state_of w.payloads) w.plan addr q
  pub announced : IsTrue (announces w.plan q x)
  pub alone : (a : ℕ) → IsTrue (announces w.plan q a) → a ≡ x

-- the kinds differ only in which ASes drop invalid routes, and whoever does by the first does by the second
-- (RFC 6811, section 3)
pub record OnlyAdds (kinds more : ℕ → Kind) : Type 0 where
  pub else_same : (a : ℕ) → undropping (kinds a) ≡ undropping (more a)
  pub added : (a : ℕ) → IsTrue (is_dropper (kinds a)) → IsTrue (is_dropper (more a))

-- where only droppers are added, packets of no more ASes are delivered at the hijacker (RFC 6811, section 3;
-- RFC 4632, section 5.1)
abbrev pub NumbersFall : Type 0
NumbersFall =
    (w : World) (kinds : fin.FinMap nat_cmp Kind) (round : ℕ) (addr : AddrValue) (numbers later : Fate → ℕ) (q : PrefixValue) (x : ℕ) → 1 ≤ round →
    let now = record w { kinds = kinds } in
    IsHijackedBy (λ a. has (topology w) a || has (topology now) a) w round addr q x → OnlyAdds (kind_at w) (kind_at now) →
    AreNumbers w round addr numbers → AreNumbers now round addr later → later (fate.At x) ≤ numbers (fate.At x)

-- so the reports of two such worlds, by what is kept of them: `total|to x` of the second has no greater number (RFC
-- 6811, section 3; RFC 4632, section 5.1)
abbrev pub ReportedHijacksFall : Type 0
ReportedHijacksFall =
    (w : World) (kinds : fin.FinMap nat_cmp Kind) (k l : Kept) (round : ℕ) (addr : AddrValue) (q : PrefixValue) (x : ℕ) → let now = record w { kinds = kinds } in
    IsTrue (has_round w round) → IsTrue (set.contains w.watched addr) →
    IsHijackedBy (λ a. has (topology w) a || has (topology now) a) w round addr q x → OnlyAdds (kind_at w) (kind_at now) → IsKept w k → IsKept now l →
    how_many now (λ a. in_group now l group.Total a && (same_end.ghosts).eq (l.ends round addr a) (the_end.At x))
    ≤ how_many w (λ a. in_group w k group.Total a && (same_end.ghosts).eq (k.ends round addr a) (the_end.At x))

-- in a sweep of a kind that drops, over a world whose ASes are of that kind but for dropping: in each trial of a number
-- of adopters, packets of no more ASes are delivered at the hijacker than in the same trial of fewer adopters (RFC
-- 6811, section 3; RFC 4632, section 5.1)
abbrev pub SweptHijacksFall : Type 0
SweptHijacksFall =
    (w : World) (line : Sweep) (text : List ℕ) (swept : IsSweptIn w line text) (q : PrefixValue) (x : ℕ) → 1 ≤ line.round →
    IsHijackedBy (has (topology w)) w line.round line.addr q x →
    IsTrue (is_dropper line.kind) → ((a : ℕ) → undropping (kind_at w a) ≡ undropping line.kind) →
    (i j trial few many : ℕ) (numbers later : Fate → ℕ) →
    slice_get swept.runs i ≡ Some ((few, trial), numbers) → slice_get swept.runs j ≡ Some ((many, trial), later) → few ≤ many →
    later (fate.At x) ≤ numbers (fate.At x)
