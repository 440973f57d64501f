-- A graph with a link or a mark more or less, and what it says.
use Rattle.std.specs.Prelude.{◌≡◌, ◌≢◌, ℕ, true, false, ◌||◌, ◌==◌, nat_lt, if◌then◌else◌, None, Some, option_map}
use Rattle.std.specs.FinMap as map
use Rattle.std.specs.FinSet as set
use Rattle.net_names.specs.declared.routes.Rel.{Rel}
use Rattle.net_names.specs.Links.{LinkMap, converse, with_relation}
use Rattle.as_graph.specs.Topology.{Topology, relation, has, with_mark}

-- the graph in which b is r to a, in place of any earlier link of the pair
abbrev pub with_link : Topology → ℕ → ℕ → Rel → Topology
with_link w a b r = record w { links = with_relation w.links a b r }

-- the pair has no link, and each other pair stays
abbrev pub without_relation : LinkMap → ℕ → ℕ → LinkMap
without_relation links a b = if nat_lt a b then map.remove links (a, b) else map.remove links (b, a)

-- the graph without a link of the pair
abbrev pub without_link : Topology → ℕ → ℕ → Topology
without_link w a b = record w { links = without_relation w.links a b }

-- the graph without a mark on a, and all else as before
abbrev pub without_mark : Topology → ℕ → Topology
without_mark w a = record w { marked = set.remove w.marked a }

-- a link is seen alike from both ends, joins ASes of the graph, and none joins an AS with itself
pub record LinksAreSound : Type 0 where
  pub alike : (w : Topology) (a b : ℕ) → relation w b a ≡ option_map converse (relation w a b)
  pub ends : (w : Topology) (a b : ℕ) (r : Rel) → relation w a b ≡ Some r → has w b ≡ true
  pub to_itself : (w : Topology) (a : ℕ) → relation w a a ≡ None

-- a new link is what it says, and every other pair keeps what it had
pub record LinksAreSet : Type 0 where
  pub at : (w : Topology) (a b : ℕ) (r : Rel) → a ≢ b → relation (with_link w a b r) a b ≡ Some r
  pub others : (w : Topology) (a b : ℕ) (r : Rel) (x y : ℕ) → a ≢ b → ((x ≡ a) × (y ≡ b) → ⊥) → ((x ≡ b) × (y ≡ a) → ⊥) → relation (with_link w a b r) x y ≡ relation w x y

-- without its link a pair has none, and every other pair keeps what it had
pub record LinksAreTaken : Type 0 where
  pub at : (w : Topology) (a b : ℕ) → relation (without_link w a b) a b ≡ None
  pub back : (w : Topology) (a b : ℕ) → relation (without_link w a b) b a ≡ None
  pub others : (w : Topology) (a b x y : ℕ) → ((x ≡ a) × (y ≡ b) → ⊥) → ((x ≡ b) × (y ≡ a) → ⊥) → relation (without_link w a b) x y ≡ relation w x y

-- an edit that puts back what the pair or the AS had undoes the one before it
pub record EditsAreUndone : Type 0 where
  pub new_link : (w : Topology) (a b : ℕ) (r : Rel) → a ≢ b → relation w a b ≡ None → without_link (with_link w a b r) a b ≡ w
  pub other_link : (w : Topology) (a b : ℕ) (r s : Rel) → a ≢ b → relation w a b ≡ Some s → with_link (with_link w a b r) a b s ≡ w
  pub lost_link : (w : Topology) (a b : ℕ) (r : Rel) → a ≢ b → relation w a b ≡ Some r → with_link (without_link w a b) a b r ≡ w
  pub new_mark : (w : Topology) (a : ℕ) → set.contains w.marked a ≡ false → without_mark (with_mark w a) a ≡ w
  pub lost_mark : (w : Topology) (a : ℕ) → set.contains w.marked a ≡ true → with_mark (without_mark w a) a ≡ w

-- which ASes there are after an edit
pub record AsesAreKept : Type 0 where
  pub linked : (w : Topology) (a b : ℕ) (r : Rel) (x : ℕ) → has (with_link w a b r) x ≡ (x == a || (x == b || has w x))
  pub unlinked : (w : Topology) (a b x : ℕ) → has (without_link w a b) x ≡ true → has w x ≡ true
  pub other_ends : (w : Topology) (a b x : ℕ) → x ≢ a → x ≢ b → has (without_link w a b) x ≡ has w x
  pub marked : (w : Topology) (a x : ℕ) → has (with_mark w a) x ≡ (x == a || has w x)
  pub unmarked : (w : Topology) (a x : ℕ) → has (without_mark w a) x ≡ true → has w x ≡ true
  pub other_marks : (w : Topology) (a x : ℕ) → x ≢ a → has (without_mark w a) x ≡ has w x
