-- What the watches of one graph and one book begin with.
use Rattle.std.specs.Prelude.{◌≡◌, ℕ, Bool, true, false, Option, Some}
use Rattle.net_names.specs.Numbers.{occurs}
use Rattle.net_names.specs.Prefixes.{PrefixValue}
use Rattle.as_graph.specs.Topology.{Topology, has}
use Rattle.stability_laws.specs.declared.entry.Entry.{Entry}
use Rattle.stability_laws.specs.Plans.{Plan, announces}
use Rattle.data_trace.specs.declared.index.WatchIndex.{WatchIndex}
use Rattle.data_trace.specs.Hops.{second_of}
use Rattle.data_trace.specs.Columns.{AreGroups}

-- the index has the AS
abbrev pub has_as : WatchIndex → ℕ → Bool
has_as i a = occurs a i.ases.ases

-- the index is that of the graph and of the numbers of the policies' groups: it has the ASes of the graph, each with its groups
pub record IsIndexOf (g : Topology) (label : ℕ → ℕ) (i : WatchIndex) : Type 0 where
  pub listed : (a : ℕ) → has_as i a ≡ has g a
  pub groups : AreGroups g label i.ases.ases i.groups.items

-- where an AS does not announce the prefix, the second AS of its entry's path is one of the index
abbrev pub StaysAmong : WatchIndex → Plan → (PrefixValue → ℕ → Option Entry) → Type 0
StaysAmong i plan held = (p : PrefixValue) (a b : ℕ) → announces plan p a ≡ false → second_of (held p a) ≡ Some b → has_as i b ≡ true
