-- What a run reads from.
use Rattle.std.specs.Prelude.{ℕ, Option}
use Rattle.clap.specs.Walk.{Text}
use Rattle.io_edge.specs.Faults.{HasRisen}

-- What a run reads from: what is told of the bytes under a name, and that a read under a name failed.
abbrev pub Source : Type 1
Source = record { holds : Text → Option Text; fails : Text → Type 0 }

-- Inputs from one time to another. A read fails only where the faults rose and the name wasn't sound.
abbrev pub source_of : {I : Type 0} → (I → Text → Option Text) → (I → Text → Type 0) → (I → ℕ) → I → I → Source
source_of holds sound faults old new = record { holds = holds old; fails = λ name. HasRisen (faults old) (faults new) × (sound old name → ⊥) }
