-- Ends by steps, for proofs: where a packet is after so many steps.
use Rattle.std.specs.Prelude.{◌≡◌, ℕ, zero, suc, true, Option, Some, None, is_some}
use Rattle.data_trace.specs.declared.kinds.Hop.{Hop}
use Rattle.data_trace.specs.declared.kinds.Hop.TheVariants.{Here, To, NoRoute}
use Rattle.data_trace.specs.declared.kinds.End.{End}
use Rattle.data_trace.specs.declared.kinds.End.TheVariants as the_end

-- what follows at the AS to which the next hop leads, if there is one
abbrev pub onward : Hop → (ℕ → Option ℕ) → Option ℕ
onward Here f = None
onward NoRoute f = None
onward (To b) f = f b

-- where a packet from a is after n steps, if it goes so far
abbrev pub reached : (ℕ → Hop) → ℕ → ℕ → Option ℕ
reached next zero a = Some a
reached next (suc n) a = onward (next a) (λ b. reached next n b)

-- a packet from a ends so: after some steps it is where it is delivered, or where there is no route, or it never stops
abbrev pub Ends : (ℕ → Hop) → ℕ → End → Type 0
Ends next a (the_end.At c) = (n : ℕ) × (reached next n a ≡ Some c) × (next c ≡ Here)
Ends next a the_end.NoRoute = (n : ℕ) × (c : ℕ) × (reached next n a ≡ Some c) × (next c ≡ NoRoute)
Ends next a the_end.Loop = (n : ℕ) → is_some (reached next n a) ≡ true
