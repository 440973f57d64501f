-- The lists that a watch keeps for its updates.
use Rattle.std.specs.Prelude.{ℕ, ◌≤◌, List, [], vec_capacity}
use Rattle.data_trace.specs.declared.places.PlaceHop.{PlaceHop}
use Rattle.data_trace.specs.declared.keeping.Lists.{Lists}
use Rattle.data_trace.specs.Lists.{HasLists}

-- there is room for n places in the lists, in the queue and in the path
pub record HasRoom (n : ℕ) (l : Lists) : Type 0 where
  pub first : n ≤ vec_capacity l.first
  pub before : n ≤ vec_capacity l.before
  pub after : n ≤ vec_capacity l.after
  pub queue : n ≤ vec_capacity l.queue
  pub path : n ≤ vec_capacity l.path

-- the lists are those of all places by these next hops, with room for n places
pub record AreKept (hops : List PlaceHop) (n : ℕ) (l : Lists) : Type 0 where
  pub lists : HasLists hops [] l.first.items l.before.items l.after.items
  pub room : HasRoom n l
