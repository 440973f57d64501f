-- Who told whom that it holds something.
use Rattle.std.specs.Prelude.{◌≡◌, ◌⊎◌, ℕ, true, Option, Some, slice_get}
use Rattle.net_names.specs.declared.routes.Rel.{Rel}
use Rattle.three_pass.specs.declared.told.Note.{Note}
use Rattle.three_pass.specs.declared.told.Told.{Told}
use Rattle.three_pass.specs.Notes.{IsNoted}

-- b told a that it holds something
abbrev pub IsTold : Told → ℕ → ℕ → Type 0
IsTold t a b = (t.all ≡ true) ⊎ IsNoted t.notes.items a b

-- each note says rightly what its sender is to who was told
abbrev pub AreTrue : (ℕ → ℕ → Option Rel) → Told → Type 0
AreTrue w t = (j : ℕ) (x : Note) → slice_get t.notes.items j ≡ Some x → w x.to x.from.asn ≡ Some x.from.rel
