-- Named files as the program keeps them.
use Rattle.std.specs.Prelude.{ℕ, ◌<◌, List, [], length, Option, Some, None, drop, string_bytes, slice_get, option_and_then, position}
use Rattle.std.specs.Str.{bytes_eq}
use Rattle.io_edge.specs.Files.{NamedFile}
use Rattle.io_edge.specs.declared.files.MemFile.{MemFile}

-- The file and its name.
abbrev pub seen : MemFile → NamedFile
seen file = record { name = string_bytes file.name; bytes = file.bytes.items }

-- Where the first file of this name stands.
abbrev pub place_of : List MemFile → List ℕ → Option ℕ
place_of files name = position (λ file. bytes_eq (string_bytes file.name) name) files

-- What a file holds from an offset on; no file holds nothing.
abbrev pub rest_of : Option MemFile → ℕ → List ℕ
rest_of None at = []
rest_of (Some file) at = drop at file.bytes.items

-- What is left of the file at the place that was begun.
abbrev pub left_of : List MemFile → Option ℕ → ℕ → List ℕ
left_of files begun at = rest_of (option_and_then (λ place. slice_get files place) begun) at

-- The place that was begun is one of the files.
abbrev pub IsWithin : List MemFile → Option ℕ → Type 0
IsWithin files None = Unit {0}
IsWithin files (Some place) = place < length files
