-- Sweeps over a world: the world of each trial, and how many of its ASes have each fate.
use Rattle.std.specs.Prelude.{◌≡◌, ◌<◌, ℕ, suc, ◌&&◌, nat_le, Bool, IsTrue, List, map, filter}
use Rattle.std.specs.List.{list_all}
use Rattle.std.specs.FinMap as fin
use Rattle.std.specs.FinSet as set
use Rattle.net_names.specs.Addresses.{AddrValue}
use Rattle.net_names.specs.Coverage.{holds}
use Rattle.net_names.specs.Prefixes.{PrefixValue}
use Rattle.as_graph.specs.Topology.{as_count, ases, has}
use Rattle.policy_kinds.specs.declared.kind.Kind.{Kind}
use Rattle.stability_laws.specs.Plans.{announcers_of, has_prefix}
use Rattle.stability_laws.specs.Rounds.{seeds_of}
use Rattle.stability_laws.specs.Stable.{IsStable}
use Rattle.data_trace.specs.Hops.{next_hop}
use Rattle.data_trace.specs.Traces.{IsTrace}
use Rattle.data_trace.specs.contracts.kinds.EndPartialEq.TheImpl as same_end
use Rattle.data_trace.specs.declared.kinds.End.{End}
use Rattle.data_trace.specs.declared.kinds.End.TheVariants as end
use Rattle.sim_core.specs.Counting.{how_many}
use Rattle.sim_core.specs.Families.{Family}
use Rattle.sim_core.specs.Loaded.{is_other}
use Rattle.sim_core.specs.World.{World, has_round, kind_at, setting_of, topology}
use Rattle.sweep.specs.Swept.{IsBegun, IsSwept}
use Rattle.sweep.specs.declared.sweeps.Sweep.{Sweep}
use Rattle.sweep.specs.declared.trial.Fate.{Fate}
use Rattle.sweep.specs.declared.trial.Fate.TheVariants as fate

-- the line is in the world: its round and its watched address are there, and none of its numbers of adopters is above that of the ASes (own format)
abbrev pub is_inside : World → Sweep → Bool
is_inside w line = has_round w line.round && (set.contains w.watched line.addr && list_all (λ k. nat_le k (as_count (topology w))) line.ks)

-- the world in which the ASes of w have these kinds
abbrev pub with_kinds : World → (ℕ → Kind) → World
with_kinds w kinds = record w { kinds = fin.from_entries (filter is_other (map (λ a. (a, kinds a)) (ases (topology w)))) }

-- how the traces of the packets with a fate end
abbrev pub end_of : Fate → End
end_of f = elim f [ fate.At a ↦ end.At a | fate.NoRoute ↦ end.NoRoute | fate.Loop ↦ end.Loop ]

-- these are the numbers of ASes with each fate in a round: the rounds up to it have stable routings of the prefixes that hold the address, each with the seeds that follow from the round before, and by the last of them each AS has a trace with its end (Gao and Rexford 2001; RFC 7908, section 3)
pub record AreNumbers (w : World) (round : ℕ) (addr : AddrValue) (numbers : Fate → ℕ) : Type 0 where
  pub held : Family
  pub ends : ℕ → End
  pub stable : (before : ℕ) (p : PrefixValue) → before < round → IsTrue (has_prefix w.plan p) → IsTrue (holds p addr) → IsStable (setting_of w p) (seeds_of w.plan (suc before) p (held before p)) (held (suc before) p)
  pub traces : (a : ℕ) → IsTrue (has (topology w) a) → (walk : List ℕ) × IsTrace (next_hop w.plan (held round) addr) a walk (ends a)
  pub counted : (f : Fate) → numbers f ≡ how_many w (λ a. (same_end.ghosts).eq (ends a) (end_of f))

-- the text of a sweep over the world (own format)
abbrev pub IsSweptIn : World → Sweep → List ℕ → Type 0
IsSweptIn w line = IsSwept (fin.from_entries (map (λ a. (a, tt {0})) (ases (topology w))))
    (announcers_of w.plan) (λ f. AreNumbers (with_kinds w f) line.round line.addr) (kind_at w) line

-- the beginning of that text: the rows of some trials of the line, from the first on
abbrev pub IsBegunIn : World → Sweep → List ℕ → Type 0
IsBegunIn w line = IsBegun (fin.from_entries (map (λ a. (a, tt {0})) (ases (topology w))))
    (announcers_of w.plan) (λ f. AreNumbers (with_kinds w f) line.round line.addr) (kind_at w) line
