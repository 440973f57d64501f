-- The routing trees of a line that needs no paths, and the ends of packets by them.
use Rattle.std.specs.Prelude.{◌≡◌, ◌<◌, ◌≤◌, ℕ, true, false, Option, Some, None, List, [], ◌∷◌, All, length, slice_get, slice_index, ◌+◌, ◌==◌, count_by}
use Rattle.std.specs.Option.{option_map_or}
use Rattle.as_places.specs.Places.{place_of}
use Rattle.net_names.specs.Prefixes.{IsPrefix, PrefixValue}
use Rattle.as_graph.specs.Topology.{Topology, has, relation}
use Rattle.as_graph.specs.declared.build.TheConstants.{MOST_ASES}
use Rattle.origin_validation.specs.Judging.{state_of}
use Rattle.policy_kinds.specs.Kinds.{kind_policy}
use Rattle.policy_kinds.specs.declared.kind.Kind.{Kind}
use Rattle.policy_laws.specs.Policy.{Policy}
use Rattle.net_names.specs.declared.routes.State.{State}
use Rattle.rank_order.specs.Ranks.{IsRankOrder, rank_at}
use Rattle.stability_laws.specs.Book.{PolicyBook, policy_at}
use Rattle.stability_laws.specs.Plans.{Plan, announced_path, has_prefix, leaks_in}
use Rattle.stability_laws.specs.Rounds.{seeds_of}
use Rattle.stability_laws.specs.Stable.{IsStable}
use Rattle.stability_laws.specs.World.{setting}
use Rattle.stability_laws.specs.declared.entry.Entry.{Entry}
use Rattle.stability_laws.specs.declared.entry.Seed.{Seed}
use Rattle.data_trace.specs.Hops.{next_hop}
use Rattle.data_trace.specs.declared.kinds.Hop.{Hop}
use Rattle.routing_tree.specs.Ends.{AreEnds, hop_by}
use Rattle.routing_tree.specs.Links.{AreLinksOf, HasLists}
use Rattle.routing_tree.specs.Placed.{AreSeedsAt, IsPlaced}
use Rattle.routing_tree.specs.Trees.{HasPlaces, IsGrown}
use Rattle.routing_tree.specs.declared.tree.Placed.{Placed}
use Rattle.routing_tree.specs.declared.tree.PlacedSeed.{PlacedSeed}
use Rattle.sweep.specs.declared.trial.Fate.{Fate}
use Rattle.sweep.specs.declared.trial.Fate.TheVariants as fate
use Rattle.trial_world.specs.Fixed.{world_of}
use Rattle.trial_world.specs.declared.fixed.Fixed.{Fixed}
use Rattle.trial_world.specs.declared.trees.LineTrees.{LineTrees}
use Rattle.trial_world.specs.declared.trees.PrefixTree.{PrefixTree}

-- all that announce the prefix announce a path of themselves alone (RFC 4271, section 5.1.2)
abbrev pub AnnounceThemselves : Plan → PrefixValue → Type 0
AnnounceThemselves plan p = (a : ℕ) (path : List ℕ) → announced_path plan p a ≡ Some path → path ≡ a ∷ []

-- nobody leaks in the rounds from 2 to the last
abbrev pub LeaksNothing : Plan → ℕ → Type 0
LeaksNothing plan last = (round a : ℕ) → 2 ≤ round → round ≤ last → leaks_in plan round a ≡ false

-- no round up to the last needs a path: nobody leaks, and each announced path is its announcer alone
pub record NeedsNoPaths (plan : Plan) (last : ℕ) : Type 0 where
  pub no_leaks : LeaksNothing plan last
  pub alone : (p : PrefixValue) → AnnounceThemselves plan p

-- the seeds of a prefix in the first round, in which nothing of an earlier round is read
abbrev pub first_seeds : Plan → PrefixValue → ℕ → Option Seed
first_seeds plan p = seeds_of plan 1 p (λ a. None)

-- the seeds are those of a prefix of the plan at the places of these ASes
pub record AreSeedsFor (f : Fixed) (ases : List ℕ) (p : PrefixValue) (seeds : List PlacedSeed) : Type 0 where
  pub inside : All (λ s. s.place < length ases) seeds
  pub are : AreSeedsAt f.graph.now (state_of f.states.payloads p) (first_seeds f.plan p) ases seeds

-- the tree is for a prefix of the plan: with it stand those who announce it, and it has the places of these ASes
pub record IsTreeFor (f : Fixed) (ases : List ℕ) (one : PrefixTree) : Type 0 where
  pub known : has_prefix f.plan one.prefix ≡ true
  pub sound : IsPrefix one.prefix.family one.prefix.addr one.prefix.len
  pub seeds : AreSeedsFor f ases one.prefix one.seeds.items
  pub places : HasPlaces (length ases) one.tree

-- the list has a tree for each prefix of the plan and no other, that of the longest prefix first
pub record AreTreesFor (f : Fixed) (ases : List ℕ) (trees : List PrefixTree) : Type 0 where
  pub each : (i : ℕ) (one : PrefixTree) → slice_get trees i ≡ Some one → IsTreeFor f ases one
  pub whole : (p : PrefixValue) → has_prefix f.plan p ≡ true → (i : ℕ) × (one : PrefixTree) × (slice_get trees i ≡ Some one) × (one.prefix ≡ p)
  pub falling : (i j : ℕ) (x y : PrefixTree) → i < j → slice_get trees i ≡ Some x → slice_get trees j ≡ Some y → y.prefix.len ≤ x.prefix.len

-- the trees are for a line that needs no paths, with its ASes by rank, their links, and room for their kinds and ends
pub record AreLineTrees (f : Fixed) (t : LineTrees) : Type 0 where
  pub few : length t.order.ases ≤ MOST_ASES
  pub no_paths : NeedsNoPaths f.plan f.round
  pub order : IsRankOrder (has f.graph.now) (rank_at f.ranks.now) t.order.ases
  pub links : AreLinksOf (relation f.graph.now) t.order.ases t.links
  pub lists : HasLists (length t.order.ases) t.links
  pub kinds : length t.kinds.items ≡ length t.order.ases
  pub trees : AreTreesFor f t.order.ases t.prefixes.items
  pub ends : length t.ends.ends.items ≡ length t.order.ases

-- the ends of the trees are those of packets to the line's address where the ASes have the policies of the book, by the stable routing of each prefix of the line's plan (Gao and Rexford 2001)
pub record AreTreesIn (f : Fixed) (book : PolicyBook Kind) (t : LineTrees) : Type 0 where
  pub line : AreLineTrees f t
  pub routing : PrefixValue → ℕ → Option Entry
  pub stable : (p : PrefixValue) → has_prefix f.plan p ≡ true → IsStable (setting kind_policy f.graph.now book (state_of f.states.payloads p)) (first_seeds f.plan p) (routing p)
  pub none : (p : PrefixValue) → has_prefix f.plan p ≡ false → (a : ℕ) → routing p a ≡ None
  pub ends : AreEnds (next_hop (world_of f).plan routing f.addr) t.order.ases t.ends.ends.items
  pub unknown : (k : ℕ) → k < length t.order.ases → slice_index t.ends.ends.items k ≡ 0 → (p : PrefixValue) → routing p (slice_index t.order.ases k) ≡ None

-- of how many ASes the packets have the fate by the ends of the trees: 0 stands where no end is known, else the place of an AS and one; none runs in a loop
abbrev pub count_by_ends : LineTrees → Fate → ℕ
count_by_ends t f = elim f [
  | fate.At a ↦ option_map_or (λ k. count_by (λ e. e == k + 1) t.ends.ends.items) (place_of t.order.ases a) 0
  | fate.NoRoute ↦ count_by (λ e. e == 0) t.ends.ends.items
  | fate.Loop ↦ 0
]

-- the trees and the ends at these places are those where the ASes have the policies of the book
pub record AreEndsBy (f : Fixed) (book : PolicyBook Kind) (ases : List ℕ) (trees : List PrefixTree) (ends : List ℕ) : Type 0 where
  pub trees_for : AreTreesFor f ases trees
  pub count : length ends ≡ length ases
  pub routing : PrefixValue → ℕ → Option Entry
  pub stable : (p : PrefixValue) → has_prefix f.plan p ≡ true → IsStable (setting kind_policy f.graph.now book (state_of f.states.payloads p)) (first_seeds f.plan p) (routing p)
  pub none : (p : PrefixValue) → has_prefix f.plan p ≡ false → (a : ℕ) → routing p a ≡ None
  pub right : AreEnds (next_hop (world_of f).plan routing f.addr) ases ends
  pub unknown : (k : ℕ) → k < length ases → slice_index ends k ≡ 0 → (p : PrefixValue) → routing p (slice_index ases k) ≡ None

-- the kind at each place is that of the AS there, and does not mark
abbrev pub AreKindsAt : List ℕ → PolicyBook Kind → List Kind → Type 0
AreKindsAt ases book kinds = (k : ℕ) (x : Kind) → k < length ases → slice_get kinds k ≡ Some x → (x ≡ policy_at book (slice_index ases k)) × ((kind_policy x).marks ≡ false)

-- the tree is grown anew for the same prefix and the same announcers
pub record IsRegrown (placed : Placed Kind) (old new : PrefixTree) : Type 0 where
  pub prefix : new.prefix ≡ old.prefix
  pub seeds : new.seeds ≡ old.seeds
  pub places : HasPlaces (length placed.ases.now) new.tree
  pub grown : (g : Topology) (policy : ℕ → Policy) (state : ℕ → State) (announced : ℕ → Option Seed) → IsPlaced kind_policy g policy placed → AreSeedsAt g state announced placed.ases.now old.seeds.items
      → IsGrown g policy state announced placed.ases.now new.tree

-- so is each tree of a list
abbrev pub AreRegrown : Placed Kind → List PrefixTree → List PrefixTree → Type 0
AreRegrown placed old new = (i : ℕ) (x y : PrefixTree) → slice_get old i ≡ Some x → slice_get new i ≡ Some y → IsRegrown placed x y

-- nothing is held at the place in the first trees of a list
abbrev pub HoldsNoneBefore : List PrefixTree → ℕ → ℕ → Type 0
HoldsNoneBefore trees i k = (j : ℕ) (x : PrefixTree) → j < i → slice_get trees j ≡ Some x → slice_index x.tree.lengths.items k ≡ 0

-- whoever holds something in a tree and nothing in those before it sends its packets by the tree
abbrev pub SendByFirst : (ℕ → Hop) → List ℕ → List PrefixTree → Type 0
SendByFirst next ases trees = (i : ℕ) (one : PrefixTree) → slice_get trees i ≡ Some one → (k : ℕ) → k < length ases → 0 < slice_index one.tree.lengths.items k → HoldsNoneBefore trees i k → next (slice_index ases k) ≡ hop_by ases one.tree k
