-- Files in memory, by name.
use Rattle.std.specs.Prelude.{ℕ, List, [], ◌∷◌, Option, Some, None, if◌then◌else◌, unwrap_or}
use Rattle.std.specs.Str.{bytes_eq}

-- A file under a name.
pub record NamedFile : Type 0 where
  pub name : List ℕ
  pub bytes : List ℕ

-- What is held under a name: the first file of that name counts.
abbrev pub held : List NamedFile → List ℕ → Option (List ℕ)
held [] name = None
held (file ∷ files) name = if bytes_eq file.name name then Some file.bytes else held files name

-- The bytes under a name, and none where there is no such file.
abbrev pub bytes_under : List NamedFile → List ℕ → List ℕ
bytes_under files name = unwrap_or (held files name) []

-- Files, the last one that was put in first, and what is left of the file that was begun.
pub record KeptFiles : Type 0 where
  pub files : List NamedFile
  pub left : List ℕ
