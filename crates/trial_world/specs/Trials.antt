-- What is kept of the world of a trial.
use Rattle.std.specs.Prelude.{◌≡◌, ℕ, ◌-◌, ◌==◌, ◌&&◌, Bool, true, false, not, nat_eq, None, List, count_by, map}
use Rattle.std.specs.List.{IsDistinct}
use Rattle.std.specs.Ordering.{eq_by_cmp, nat_cmp}
use Rattle.std.specs.FinMap as fin
use Rattle.std.specs.FinSet as set
use Rattle.net_names.specs.Addresses.{AddrValue, addr_cmp}
use Rattle.net_names.specs.Numbers.{occurs}
use Rattle.net_names.specs.Prefixes.{PrefixValue}
use Rattle.as_graph.specs.Topology.{Topology, ases, has}
use Rattle.origin_validation.specs.Judging.{state_of}
use Rattle.policy_kinds.specs.Kinds.{kind_policy}
use Rattle.policy_kinds.specs.declared.kind.Kind.{Kind}
use Rattle.roa_table.specs.Sets.{Payloads}
use Rattle.stability_laws.specs.Book.{PolicyBook, policy_at}
use Rattle.stability_laws.specs.Plans.{Plan, has_prefix}
use Rattle.stability_laws.specs.Rounds.{AreRounds}
use Rattle.stability_laws.specs.World.{setting}
use Rattle.data_trace.specs.Hops.{next_hop}
use Rattle.data_trace.specs.Traces.{IsTrace}
use Rattle.data_trace.specs.Views.{rows_of}
use Rattle.data_trace.specs.Watches.{count_of}
use Rattle.data_trace.specs.contracts.kinds.EndPartialEq.TheImpl as same_end
use Rattle.data_trace.specs.declared.kinds.End.{End}
use Rattle.data_trace.specs.declared.kinds.Which.TheVariants.{All}
use Rattle.sim_core.specs.Families.{Family}
use Rattle.sim_core.specs.Loaded.{is_other}
use Rattle.sim_core.specs.World.{World, topology}
use Rattle.sweep.specs.declared.trial.Fate.{Fate}
use Rattle.sweep.specs.declared.trial.Fate.TheVariants as fate
use Rattle.trial_world.specs.Fixed.{IsFixed, world_of}
use Rattle.trial_world.specs.Sweeps.{AreNumbers, end_of, with_kinds}
use Rattle.trial_world.specs.Tables.{AreTablesIn, HadKinds}
use Rattle.trial_world.specs.Trees.{AreTreesIn, count_by_ends}
use Rattle.trial_world.specs.declared.fixed.Fixed.{Fixed}
use Rattle.trial_world.specs.declared.kept.Kept.{Kept}
use Rattle.trial_world.specs.declared.kept.Kept.TheVariants as kept
use Rattle.trial_world.specs.declared.trial.LineTrial.{LineTrial}

-- the numbers are those of the ends of packets to the address by the last of so many rounds of a part of the plan that are stable, at all ASes of the graph, each counted once; of the other prefixes nothing is held
pub record AreEndsIn (graph : Topology) (payloads : Payloads) (book : PolicyBook Kind) (whole part : Plan) (round : ℕ) (addr : AddrValue) (number : Fate → ℕ) : Type 0 where
  pub held : Family
  pub stable : AreRounds (λ p. setting kind_policy graph book (state_of payloads p)) part round held
  pub none : (p : PrefixValue) → has_prefix part p ≡ false → (a : ℕ) → held round p a ≡ None
  pub names : List ℕ
  pub listed : (a : ℕ) → occurs a names ≡ has graph a
  pub apart : IsDistinct nat_eq names
  pub ends : ℕ → End
  pub traces : (a : ℕ) → has graph a ≡ true → (walk : List ℕ) × IsTrace (next_hop whole (held round) addr) a walk (ends a)
  pub counted : (f : Fate) → number f ≡ count_by (λ a. (same_end.ghosts).eq (ends a) (end_of f)) names

-- how many of so many ASes that are gone have no route
abbrev pub gone_with : Fate → ℕ → ℕ
gone_with f gone = elim f [ fate.NoRoute ↦ gone | _ ↦ 0 ]

-- how many of these ASes have the plain kind
abbrev pub plain_in : List ℕ → PolicyBook Kind → ℕ
plain_in lone book = count_by (λ a. not (is_other (a, policy_at book a))) lone

-- of how many ASes the packets have the fate: as the watch of the tables counts them, or by the ends of the trees
abbrev pub count_in : Kept → Fate → ℕ
count_in (kept.Tables t) f = count_of (rows_of t.watch) All (end_of f)
count_in (kept.Trees t) f = count_by_ends t f

-- the numbers less the ASes that are gone
abbrev pub less_gone : (Fate → ℕ) → ℕ → Fate → ℕ
less_gone number gone f = number f - gone_with f gone

-- the set of the ASes of a world
abbrev pub as_set : World → set.FinSet nat_cmp
as_set w = fin.from_entries (map (λ a. (a, tt {0})) (ases (topology w)))

-- the world of a trial, and the round and the address of its line
abbrev pub line_base : LineTrial → World × (ℕ × AddrValue)
line_base t = (world_of t.fixed, (t.fixed.round, t.fixed.addr))

-- the round and the address are those of the line
abbrev pub is_of_line : World × (ℕ × AddrValue) → ℕ → AddrValue → Bool
is_of_line b round addr = (b.1.0 == round) && eq_by_cmp addr_cmp b.1.1 addr

-- the numbers are right in the world with the kinds of the book
abbrev pub AreCounted : Fixed → PolicyBook Kind → (Fate → ℕ) → Type 0
AreCounted f book number = AreNumbers (with_kinds (world_of f) (policy_at book)) f.round f.addr number

-- the tables or the trees are those where the ASes have the policies of the book
abbrev pub AreKeptIn : Fixed → PolicyBook Kind → Kept → Type 0
AreKeptIn f book (kept.Tables t) = AreTablesIn f book t
AreKeptIn f book (kept.Trees t) = AreTreesIn f book t

-- so they are for a book in which the ASes of the list had the policies beside them, and all others those of this one
abbrev pub AreKeptBefore : Fixed → PolicyBook Kind → List (ℕ × Kind) → Kept → Type 0
AreKeptBefore f book before t = (old : PolicyBook Kind) × HadKinds old book before × AreKeptIn f old t

-- what is kept is right for each book for which it was
abbrev pub StayKept : Fixed → Kept → Kept → Type 0
StayKept f old new = (book : PolicyBook Kind) → AreKeptIn f book old → AreKeptIn f book new

-- what is kept of a trial is right
pub record IsRight (t : LineTrial) : Type 0 where
  pub fixed : IsFixed t.fixed
  pub kept : AreKeptIn t.fixed t.book t.kept
  pub gone : t.gone ≡ plain_in t.fixed.lone.items t.book
