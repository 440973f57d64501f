-- What a report counts.
use Rattle.std.specs.Prelude.{ℕ, ◌==◌, Bool, true, filter}
use Rattle.std.specs.FinSet as set
use Rattle.std.specs.Ordering.{nat_cmp}
use denote.Enum.Bare.{sameb}
use Rattle.as_graph.specs.Topology.{ases}
use Rattle.policy_kinds.specs.contracts.kind.Kind.{the_type as kind}
use Rattle.reports.specs.declared.group.Group.{Group}
use Rattle.reports.specs.declared.group.Group.TheVariants.{Stub, Of}
use Rattle.sim_core.specs.World.{World, kind_at, topology}
use Rattle.sim_core.specs.Kept.{Kept}

-- an AS is one of the group: of all ASes, of those without customers, which have rank 0, or of those whose policy is of the kind (own format; `sameb` says whether two kinds are the same)
abbrev pub in_group : World → Kept → Group → ℕ → Bool
in_group w k g a = elim g [ Stub ↦ k.ranks a == 0 | Of x ↦ sameb kind (kind_at w a) x | _ ↦ true ]

-- how many ASes of the world pass a test, each counted once
abbrev pub how_many : World → (ℕ → Bool) → ℕ
how_many w test = set.len (set.from_list {R = nat_cmp} (filter test (ases (topology w))))
