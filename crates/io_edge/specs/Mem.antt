-- Inputs and a sink in memory that fail at stated calls.
use Rattle.std.specs.Prelude.{ℕ, List}
use Rattle.io_edge.specs.Files.{NamedFile}
use Rattle.io_edge.specs.Calls.{Calls}
use Rattle.io_edge.specs.Room.{Room}

-- Files, the last one that was put in first; what is left of the file that was begun; the calls; and the greatest answer of one `take`.
pub record MemFiles : Type 0 where
  pub files : List NamedFile
  pub left : List ℕ
  pub calls : Calls
  pub most : ℕ

-- The bytes that are kept, the calls, and the greatest answer of one `put`.
pub record MemBytes : Type 0 where
  pub kept : Room
  pub calls : Calls
  pub most : ℕ
