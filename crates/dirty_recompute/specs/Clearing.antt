-- What is taken away where nobody announces anything.
use Rattle.std.specs.Prelude.{◌≡◌, ◌≢◌, ℕ, true, None}
use Rattle.route_choice.specs.declared.overlay.Overlay.{Overlay}
use Rattle.route_choice.specs.declared.table.Table.{Table}
use Rattle.route_choice.specs.Tables.{held_at, joined, overlay_uses}
use Rattle.dirty_recompute.specs.Resources.{has_change}

-- each change takes an entry of the table away, and none gives one
pub record TakesAway (table : Table) (overlay : Overlay) : Type 0 where
  pub changes : (a : ℕ) → has_change overlay a ≡ true → (joined table overlay a ≡ None) × (held_at table a ≢ None)
  pub uses : (k : ℕ) → overlay_uses overlay k ≡ 0

-- these ASes hold nothing any more, and neither do those that held nothing before
pub record AreCleared (table : Table) (before after : Overlay) (who : ℕ → Type 0) : Type 0 where
  pub takes : TakesAway table after
  pub none : (a : ℕ) → who a → joined table after a ≡ None
  pub kept : (a : ℕ) → joined table before a ≡ None → joined table after a ≡ None

-- with the changes in place no AS holds anything, and each change takes an entry away
pub record IsCleared (table : Table) (overlay : Overlay) : Type 0 where
  pub takes : TakesAway table overlay
  pub none : (a : ℕ) → joined table overlay a ≡ None
