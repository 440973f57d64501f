-- Named files as the program keeps them, and as contracts see them.
use Rattle.std.proofs.Common.{◌≡◌, ℕ, Bool, true, false, cond, List, [], ◌∷◌, Option, Some, None, refl, sym, ap, ◌∙◌, map, string_bytes, unwrap_or, slice_get, option_and_then, arith}
use Rattle.std.specs.List.{find, position, position_or_len}
use Rattle.std.specs.Option.{option_map, is_some}
use Rattle.std.specs.Str.{bytes_eq}
use Rattle.std.proofs.lemmas.List.Folds.{find_at}
use Rattle.std.proofs.lemmas.Option.{slice_get_past, slice_get_cases}
use Rattle.std.proofs.lemmas.Bool.Decides.{nat_tests}
use Rattle.io_edge.specs.Files.{held, bytes_under}
use Rattle.io_edge.specs.Kept.{seen, place_of, left_of, rest_of}
use Rattle.io_edge.specs.declared.files.MemFile.{MemFile}

-- whether a file has this name
abbrev is_named : List ℕ → MemFile → Bool
is_named name file = bytes_eq (string_bytes file.name) name

-- the element at the first place is the first element
at_position : {X : Type 0} (p : X → Bool) (xs : List X) → option_and_then (λ place. slice_get xs place) (position p xs) ≡ find p xs
at_position p xs = grind (arith, nat_tests, find_at p xs, slice_get_past xs (position_or_len p xs))

-- the file that a name finds
held-find : (files : List MemFile) (name : List ℕ) → option_map (λ file. file.bytes.items) (find (is_named name) files) ≡ held (map seen files) name
held-find [] name = refl
held-find (file ∷ files) name = cases (is_named name file) (held-find files name)
  where
    cases : (b : Bool) → option_map (λ (f : MemFile). f.bytes.items) (find (is_named name) files) ≡ held (map seen files) name
        → option_map (λ (f : MemFile). f.bytes.items) (cond b (Some file) (find (is_named name) files)) ≡ cond b (Some file.bytes.items) (held (map seen files) name)
    cases true h = refl
    cases false h = h

is_some-map : {X Y : Type 0} (f : X → Y) (o : Option X) → is_some (option_map f o) ≡ is_some o
is_some-map f None = refl
is_some-map f (Some x) = refl

is_some-position : {X : Type 0} (p : X → Bool) (xs : List X) → is_some (position p xs) ≡ is_some (find p xs)
is_some-position p xs = grind (arith, nat_tests, find_at p xs, slice_get_past xs (position_or_len p xs), slice_get_cases xs (position_or_len p xs))

-- a name has a place exactly where it is held
pub place-found : (files : List MemFile) (name : List ℕ) → is_some (place_of files name) ≡ is_some (held (map seen files) name)
place-found files name =
    is_some-position (is_named name) files
    ∙ sym (is_some-map (λ (file : MemFile). file.bytes.items) (find (is_named name) files))
    ∙ ap is_some (held-find files name)

whole_rest : (o : Option MemFile) → rest_of o 0 ≡ unwrap_or (option_map (λ (file : MemFile). file.bytes.items) o) []
whole_rest None = refl
whole_rest (Some file) = refl

-- what is left at the place of a name
pub place-left : (files : List MemFile) (name : List ℕ) → left_of files (place_of files name) 0 ≡ bytes_under (map seen files) name
place-left files name =
    ap (λ o. rest_of o 0) (at_position (is_named name) files)
    ∙ whole_rest (find (is_named name) files)
    ∙ ap (λ o. unwrap_or o []) (held-find files name)
