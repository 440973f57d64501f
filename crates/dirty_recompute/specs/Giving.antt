-- What it leaves when an AS is given an entry, or none.
use Rattle.std.specs.Prelude.{◌≡◌, ◌≢◌, ◌⊎◌, ◌↔◌, ℕ, Bool, IsTrue, Option, None, ◌∷◌}
use Rattle.net_names.specs.declared.routes.Class.{Class}
use Rattle.path_pool.specs.declared.path_id.PathId.{PathId}
use Rattle.path_pool.specs.declared.pool.PathPool.{PathPool}
use Rattle.path_pool.specs.Pool.{list_of}
use Rattle.stability_laws.specs.declared.entry.Entry.{Entry}
use Rattle.route_choice.specs.declared.overlay.Overlay.{Overlay}
use Rattle.route_choice.specs.declared.table.Table.{Table}
use Rattle.route_choice.specs.Routings.{routing_of}
use Rattle.route_choice.specs.Tables.{change_at}
use Rattle.dirty_recompute.specs.Resources.{has_change, IsPaidFor}
use Rattle.dirty_recompute.specs.Steps.{ChangesOnly}

-- the entry of this class and number whose path is a and then the path of that cell
abbrev pub with_first : PathPool → ℕ → Class → PathId → Option ℕ → Entry
with_first pool a class rest otc = record { class = class; path = a ∷ list_of pool rest.0; otc = otc }

-- nothing that the overlay holds is given up where a gets this: the overlay has no change at a, or a holds nothing, or it holds this
abbrev pub GivesUpNone : PathPool → Table → Overlay → ℕ → Option Entry → Type 0
GivesUpNone pool table overlay a new = (change_at overlay a ≡ None) ⊎ ((routing_of pool table overlay a ≡ None) ⊎ (new ≡ routing_of pool table overlay a))

-- a holds this, `answer` says whether it is another entry than before, and nothing else has changed
pub record IsGiven (old new : PathPool) (table : Table) (before after : Overlay) (a : ℕ) (entry : Option Entry) (answer : Bool) : Type 0 where
  pub at : routing_of new table after a ≡ entry
  pub only : ChangesOnly a (routing_of old table before) (routing_of new table after) (has_change before) (has_change after)
  pub changed : IsTrue answer ↔ (routing_of new table after a ≢ routing_of old table before a)
  pub paid : IsPaidFor old new (routing_of old table before) (routing_of new table after) a

-- the ASes hold what they held, and the overlay has the changes that it had
pub record SameHeld (old new : PathPool) (table : Table) (before after : Overlay) : Type 0 where
  pub routing : (n : ℕ) → routing_of new table after n ≡ routing_of old table before n
  pub changes : (n : ℕ) → change_at after n ≡ change_at before n
