-- Rows that are gathered from the ends of links.
use Rattle.std.specs.Prelude.{◌≡◌, ℕ, true, false, nat_eq, ◌<◌, length, is_some, List, ◌++◌, ⊤}
use Rattle.std.specs.List.{IsDistinct}
use Rattle.indexmap.specs.IndexMap.{get, IsUnique}
use Rattle.net_names.specs.Numbers.{occurs}
use Rattle.as_graph.specs.declared.ends.End.{End}
use Rattle.as_graph.specs.declared.error.GraphError.{GraphError}
use Rattle.as_graph.specs.declared.error.GraphError.TheVariants.{Memory, TooManyLinks, TooManyAses}
use Rattle.as_graph.specs.Ends.{ends_at}
use Rattle.as_graph.specs.Graphs.{Rows, neighbours_of, is_marked, is_there}
use Rattle.as_graph.specs.declared.build.TheConstants.{MOST_ASES}

-- each AS at an end has one row, with its neighbours at the higher ends and then those at the lower ends
pub record AreGathered (m : Rows) (hs ls : List End) : Type 0 where
  pub unique : IsUnique nat_eq m
  pub neighbours : (a : ℕ) → neighbours_of m a ≡ ends_at a hs ++ ends_at a ls
  pub unmarked : (a : ℕ) → is_marked m a ≡ false
  pub needed : (a : ℕ) → is_some (get nat_eq m a) ≡ is_there m a

-- more than 150,000 ASes stand at the ends
pub record HasManyAses (hs ls : List End) (ks : List ℕ) : Type 0 where
  pub apart : IsDistinct nat_eq ks
  pub each : (a : ℕ) → occurs a ks ≡ true → 0 < length (ends_at a hs ++ ends_at a ls)
  pub many : MOST_ASES < length ks

-- why no rows are gathered
abbrev pub IsGatherRefusal : List End → List End → GraphError → Type 0
IsGatherRefusal hs ls Memory = ⊤
IsGatherRefusal hs ls TooManyLinks = ⊥
IsGatherRefusal hs ls TooManyAses = (ks : List ℕ) × HasManyAses hs ls ks
