-- Notes of who told whom that it holds something.
use Rattle.std.specs.Prelude.{◌≡◌, ◌≢◌, ℕ, ◌-◌, ◌<◌, ◌≤◌, Some, List, length, map, slice_get, slice_index}
use Rattle.three_pass.specs.declared.told.Note.{Note}

-- who was told, note by note
abbrev pub tos : List Note → List ℕ
tos notes = map (λ x. x.to) notes

-- where the note before to the same AS stands, note by note
abbrev pub befores : List Note → List ℕ
befores notes = map (λ x. x.before) notes

-- one of the notes is b's to a
pub record IsNoted (notes : List Note) (a b : ℕ) : Type 0 where
  pub at : ℕ
  pub note : Note
  pub there : slice_get notes at ≡ Some note
  pub to : note.to ≡ a
  pub from : note.from.asn ≡ b

-- for each row the last note to its AS is known, and from each note the one before to the same AS
pub record IsChained (rows last to before : List ℕ) : Type 0 where
  pub within : (k : ℕ) → k < length rows → slice_index last k ≤ length to
  pub own : (k : ℕ) → k < length rows → 0 < slice_index last k → slice_index to (slice_index last k - 1) ≡ slice_index rows k
  pub none_after : (k j : ℕ) → k < length rows → slice_index last k ≤ j → j < length to → slice_index to j ≢ slice_index rows k
  pub earlier : (i : ℕ) → i < length to → slice_index before i ≤ i
  pub same : (i : ℕ) → i < length to → 0 < slice_index before i → slice_index to (slice_index before i - 1) ≡ slice_index to i
  pub none_between : (i j : ℕ) → i < length to → slice_index before i ≤ j → j < i → slice_index to j ≢ slice_index to i
