-- What a run writes to.
use Rattle.std.specs.Prelude.{ℕ, Option}
use Rattle.clap.specs.Walk.{Text}
use Rattle.io_edge.specs.Bytes.{Appends, AppendsFront}
use Rattle.io_edge.specs.Faults.{HasRisen}

-- What a run writes to: that a text was appended, and that the faults rose and a front of it was appended.
abbrev pub Stream : Type 1
Stream = record { wrote : Text → Type 0; failed : Text → Type 0 }

-- A sink from one time to another.
abbrev pub stream_of : {O : Type 0} → (O → Option Text) → (O → ℕ) → O → O → Stream
stream_of written faults old new = record { wrote = Appends (written old) (written new); failed = λ text. HasRisen (faults old) (faults new) × AppendsFront (written old) (written new) text }
