-- That a table has as many entries as there are uses of a path.
use Rattle.std.specs.Prelude.{◌≡◌, ℕ, ◌≤◌, true, List, length, IsSome}
use Rattle.net_names.specs.Numbers.{occurs, IsDistinct}
use Rattle.route_choice.specs.declared.table.Table.{Table}
use Rattle.route_choice.specs.Tables.{held_at, table_uses}

-- No fewer ASes hold something in the table than entries of it have the path.
pub record AreUsesCounted (t : Table) (k : ℕ) : Type 0 where
  pub ases : List ℕ
  pub distinct : IsDistinct ases
  pub entries : (a : ℕ) → occurs a ases ≡ true → IsSome (held_at t a)
  pub enough : table_uses t k ≤ length ases
