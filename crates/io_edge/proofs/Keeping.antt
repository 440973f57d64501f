-- What names hold is kept, call after call.
use Rattle.std.proofs.Common.{ℕ, List, Option, ◌∙◌, arith}
use Rattle.io_edge.specs.Faults.{KeepsNames}

-- what is kept twice is kept
pub keeps_on : {I : Type 0} {holds : I → List ℕ → Option (List ℕ)} {is_sound : I → List ℕ → Type 0} {faults : I → ℕ} (a b c : I) → KeepsNames holds is_sound faults a b → KeepsNames holds is_sound faults b c → KeepsNames holds is_sound faults a c
keeps_on a b c h k = record { holds_same = λ name. k.holds_same name ∙ h.holds_same name; sound = λ name s. k.sound name (h.sound name s); later = omega (arith, h.later, k.later) }
