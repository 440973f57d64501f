-- For each place the list of the places that send to it, linked in both directions.
use Rattle.std.specs.Prelude.{◌≡◌, ◌≢◌, ℕ, ◌<◌, List, length, slice_index_or, Option, Some, None, if◌then◌else◌, nat_eq, ◌==◌}
use Rattle.std.specs.List.{list_any}
use Rattle.data_trace.specs.declared.places.PlaceHop.{PlaceHop}
use Rattle.data_trace.specs.declared.places.PlaceHop.TheVariants.{Here, To, NoRoute}
use Rattle.data_trace.specs.Marks.{hop_at}

-- the place that a link leads to
abbrev pub link_at : List (Option ℕ) → ℕ → Option ℕ
link_at links a = slice_index_or links a None

-- the place in whose list an AS with this next hop stands
abbrev pub target : PlaceHop → Option ℕ
target NoRoute = None
target Here = None
target (To b) = Some b

-- each AS stands in the list of its owner, and from its rank on back to the first
pub record AreLists (owner first before after : ℕ → Option ℕ) (rank : ℕ → ℕ) : Type 0 where
  pub front : (a b : ℕ) → owner a ≡ Some b → before a ≡ None → first b ≡ Some a
  pub behind : (a b p : ℕ) → owner a ≡ Some b → before a ≡ Some p → (owner p ≡ Some b) × (after p ≡ Some a) × (rank p < rank a)
  pub starts : (a b : ℕ) → first b ≡ Some a → (owner a ≡ Some b) × (before a ≡ None)
  pub goes_on : (a b c : ℕ) → owner a ≡ Some b → after a ≡ Some c → (owner c ≡ Some b) × (before c ≡ Some a)

-- all links lead to places below n
abbrev pub AreBelow : List (Option ℕ) → ℕ → Type 0
AreBelow links n = (a b : ℕ) → link_at links a ≡ Some b → b < n

-- a place leaves the list of b: p was before it, and c after it
pub record Unlinks (first before after first' before' after' : ℕ → Option ℕ) (b : ℕ) (p c : Option ℕ) : Type 0 where
  pub first_b : p ≡ None → first' b ≡ c
  pub first_other : (y : ℕ) → (p ≡ None → y ≢ b) → first' y ≡ first y
  pub after_p : (x : ℕ) → p ≡ Some x → after' x ≡ c
  pub after_other : (x : ℕ) → p ≢ Some x → after' x ≡ after x
  pub before_c : (x : ℕ) → c ≡ Some x → before' x ≡ p
  pub before_other : (x : ℕ) → c ≢ Some x → before' x ≡ before x

-- a becomes the first in the list of b, before c
pub record LinksFirst (first before after first' before' after' : ℕ → Option ℕ) (a b : ℕ) (c : Option ℕ) : Type 0 where
  pub first_b : first' b ≡ Some a
  pub first_other : (y : ℕ) → y ≢ b → first' y ≡ first y
  pub after_a : after' a ≡ c
  pub after_other : (x : ℕ) → x ≢ a → after' x ≡ after x
  pub before_a : c ≢ Some a → before' a ≡ None
  pub before_c : (x : ℕ) → c ≡ Some x → before' x ≡ Some a
  pub before_other : (x : ℕ) → x ≢ a → c ≢ Some x → before' x ≡ before x

-- the owners with one changed
abbrev pub owner_with : (ℕ → Option ℕ) → ℕ → Option ℕ → ℕ → Option ℕ
owner_with owner a o x = if x == a then o else owner x

-- the owners while the places of the queue stand in no list
abbrev pub owner_but : List PlaceHop → List ℕ → ℕ → Option ℕ
owner_but hops queue x = if list_any (nat_eq x) queue then None else target (hop_at hops x)

-- n places, whose lists hold each AS that isn't in the queue
pub record HasLists (hops : List PlaceHop) (queue : List ℕ) (first before after : List (Option ℕ)) : Type 0 where
  pub first_len : length first ≡ length hops
  pub before_len : length before ≡ length hops
  pub after_len : length after ≡ length hops
  pub first_below : AreBelow first (length hops)
  pub before_below : AreBelow before (length hops)
  pub after_below : AreBelow after (length hops)
  pub lists : ∥ ((rank : ℕ → ℕ) × AreLists (owner_but hops queue) (link_at first) (link_at before) (link_at after) rank) ∥₁

-- the numbers below n, in order
pub record AreNumbers (xs : List ℕ) (n : ℕ) : Type 0 where
  pub len : length xs ≡ n
  pub each : (k : ℕ) → k < n → slice_index_or xs k 0 ≡ k

-- n links, and none leads anywhere
pub record AreNone (links : List (Option ℕ)) (n : ℕ) : Type 0 where
  pub len : length links ≡ n
  pub each : (x : ℕ) → link_at links x ≡ None
