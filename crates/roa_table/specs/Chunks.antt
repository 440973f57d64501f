-- All payloads in rising order, in chunks.
use Rattle.std.specs.Prelude.{◌≡◌, ℕ, suc, ◌<◌, ◌≤◌, true, false, List, [], ◌∷◌, ◌++◌, length, take, drop, get_or, slice_index_or, ⊤}
use Rattle.std.specs.List.{list_all, AllByRecursion}
use Rattle.std.specs.Ordering.{is_lt}
use Rattle.net_names.specs.Prefixes.{PrefixValue, prefix_cmp}
use Rattle.net_names.specs.Payloads.{VrpValue}
use Rattle.roa_table.specs.Sets.{IsSound}
use Rattle.roa_table.specs.Lists.{IsRising, is_below, is_from, are_apart, stands_in}
use Rattle.roa_table.specs.declared.chunk.Chunk.{Chunk}
use Rattle.roa_table.specs.declared.table.TheConstants.{MOST_PAYLOADS}

-- the payloads of all chunks, in their order
abbrev pub all_of : List Chunk → List VrpValue
all_of [] = []
all_of (s ∷ ss) = s.vrps.items ++ all_of ss

-- of two chunks the first has prefixes below the second one's low prefix, and the second one has none of these
pub record IsBefore (s t : Chunk) : Type 0 where
  pub low : is_lt (prefix_cmp s.low t.low) ≡ true
  pub below : list_all (is_below t.low) s.vrps.items ≡ true
  pub from : list_all (is_from t.low) t.vrps.items ≡ true

-- the payloads of each chunk rise, and each chunk is before the later ones
abbrev pub IsInOrder : List Chunk → Type 0
IsInOrder [] = ⊤
IsInOrder (s ∷ ss) = IsRising s.vrps.items × AllByRecursion (IsBefore s) ss × IsInOrder ss

-- the chunk in which payloads of this prefix stand: the last one whose low prefix is not above it, or else the first one
pub record IsHome (ss : List Chunk) (p : PrefixValue) (k : ℕ) : Type 0 where
  pub inside : k < length ss
  pub low : (s : Chunk) → 0 < k → is_lt (prefix_cmp p (slice_index_or ss k s).low) ≡ false
  pub later : AllByRecursion (λ (t : Chunk). is_lt (prefix_cmp p t.low) ≡ true) (drop (suc k) ss)

-- the chunks of a set: in order, of payloads each, of so many and at most 2,000,000
pub record IsTable (ss : List Chunk) (n : ℕ) : Type 0 where
  pub order : IsInOrder ss
  pub sound : (v : VrpValue) → stands_in (all_of ss) v ≡ true → IsSound v
  pub counted : n ≡ length (all_of ss)
  pub bound : n ≤ MOST_PAYLOADS

-- the payloads from a place between two prefixes on have become this chunk
pub record TakesLast (old new : List VrpValue) (t : Chunk) : Type 0 where
  pub at : ℕ
  pub within : at < length old
  pub apart : are_apart (take at old) (drop at old) ≡ true
  pub front : new ≡ take at old
  pub back : t.vrps.items ≡ drop at old
  pub low : (d : VrpValue) → t.low ≡ (get_or old at d).prefix
