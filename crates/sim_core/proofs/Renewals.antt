-- Watches that are taken to an edited world, one after the other.
use Rattle.std.proofs.Common.{◌≡◌, ℕ, ◌<◌, ◌≤◌, ◌+◌, Option, Some, List, length, map, get_or, set, sym, ap, subst, ◌∙◌, arith}
use Rattle.std.specs.Prelude.{slice_get}
use Rattle.std.proofs.lemmas.Option.{slice_get-get_or}
use Rattle.as_graph.specs.Topology.{Topology, as_count}
use Rattle.net_names.specs.Addresses.{AddrValue}
use Rattle.net_names.specs.Prefixes.{PrefixValue}
use Rattle.policy_kinds.specs.Kinds.{label}
use Rattle.policy_kinds.specs.declared.kind.Kind.{Kind}
use Rattle.stability_laws.specs.Book.{PolicyBook, policy_at}
use Rattle.stability_laws.specs.Plans.{Plan}
use Rattle.stability_laws.specs.declared.entry.Entry.{Entry}
use Rattle.data_trace.specs.Hops.{next_hop}
use Rattle.data_trace.specs.Views.{addr_of, rows_of, spare_of}
use Rattle.data_trace.specs.Watches.{AreRows, Row}
use Rattle.data_trace.specs.declared.watch.Watch.{Watch}
use Rattle.sim_core.specs.Renewing.{AreRoomy, CanFollow, IsRightBut}
use Rattle.sim_core.specs.Watching.{AreWatches, seen_in, seen_of}
use Rattle.sim_core.specs.declared.watching.RoundWatches.{RoundWatches}
use Rattle.sim_core.proofs.Watches.{got_mapped, map_at}
use Rattle.sim_core.proofs.Working.{IsWorked, all_worked, one_worked}

-- what is read at a place of a list
pub read_at : {X : Type 0} (xs : List X) (i : ℕ) (x : X) → i < length xs → x ≡ get_or xs i x → slice_get xs i ≡ Some x
read_at xs i x less is = slice_get-get_or xs i x less ∙ ap (λ y. Some y) (sym is)

-- one item more, which was read at its place
pub next_worked : {X : Type 0} (P : X → X → Type 0) (old mid : List X) (n : ℕ) (y x : X) → IsWorked P old mid n → n < length mid → y ≡ get_or mid n y → P y x → IsWorked P old (set mid n x) (n + 1)
next_worked P old mid n y x so_far less at is = one_worked P old mid n y x so_far less (read_at mid n y less at) is

-- ---- room

-- the watch is seen as it was, and can keep all ASes
abbrev pub IsRoomed : Topology → Watch → Watch → Type 0
IsRoomed g y x = (seen_of x ≡ seen_of y) × (as_count g ≤ spare_of x)

-- the watches are seen as they were
abbrev pub IsSeen : Watch → Watch → Type 0
IsSeen y x = seen_of x ≡ seen_of y

abbrev pub AreRoomed : Topology → RoundWatches → RoundWatches → Type 0
AreRoomed g y x = (seen_in x ≡ seen_in y) × AreRoomy g x

abbrev pub AreSeen : RoundWatches → RoundWatches → Type 0
AreSeen y x = seen_in x ≡ seen_in y

-- ---- renewal

-- the watch is at the address at which it was, and has the rows of the graph
abbrev pub IsRenewed : Topology → Plan → (PrefixValue → ℕ → Option Entry) → PolicyBook Kind → Watch → Watch → Type 0
IsRenewed g plan held book y x = (addr_of x ≡ addr_of y) × AreRows g (next_hop plan held (addr_of x)) (λ a. label (policy_at book a)) (rows_of x)

pub renewed_rows : (g : Topology) (plan : Plan) (held : PrefixValue → ℕ → Option Entry) (book : PolicyBook Kind) (old new : List Watch) (n : ℕ) → IsWorked (IsRenewed g plan held book) old new n → length new ≤ n → AreWatches g plan held book (map seen_of new)
renewed_rows g plan held book old new n so_far whole place s at =
    let (w, there, is) = got_mapped seen_of new place s at in
    let (y, was, now) = all_worked (IsRenewed g plan held book) old new n so_far whole place w there in
    subst (λ (t : AddrValue × List Row). AreRows g (next_hop plan held t.0) (λ a. label (policy_at book a)) t.1) is now.1

-- what is seen of the watch that is not renewed yet
pub left_seen : (g : Topology) (plan : Plan) (held : PrefixValue → ℕ → Option Entry) (book : PolicyBook Kind) (changed ends : List ℕ) (old mid : List Watch) (n : ℕ) (y : Watch) → IsWorked (IsRenewed g plan held book) old mid n → n < length mid → y ≡ get_or mid n y → CanFollow g plan held book changed ends (map seen_of old)
    → IsRightBut g plan held book changed ends (seen_of y)
left_seen g plan held book changed ends old mid n y so_far less at follow = follow n (seen_of y) (map_at seen_of old n y (sym (so_far.left n (omega arith)) ∙ read_at mid n y less at))

pub left_roomy : (g : Topology) (plan : Plan) (held : PrefixValue → ℕ → Option Entry) (book : PolicyBook Kind) (one : RoundWatches) (mid : List Watch) (n : ℕ) (y : Watch) → IsWorked (IsRenewed g plan held book) one.watches.items mid n → n < length mid → y ≡ get_or mid n y → AreRoomy g one → as_count g ≤ spare_of y
left_roomy g plan held book one mid n y so_far less at roomy = roomy n y (sym (so_far.left n (omega arith)) ∙ read_at mid n y less at)
