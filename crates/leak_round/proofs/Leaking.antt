-- A leaker more.
use Rattle.std.proofs.Common.{◌≡◌, Bool, true, ◌||◌, Option, refl}
use Rattle.route_choice.specs.declared.held.Held.{Held}
use Rattle.route_choice.specs.declared.held.SeedHeld.{SeedHeld}
use Rattle.stability_laws.proofs.Leaking.{put_again}
use Rattle.leak_round.specs.Leaked.{own_or_leaked}

-- who has a seed keeps it, and who leaks twice leaks the same
pub leaked_again : (o : Option SeedHeld) (b : Bool) (h : Option Held) → own_or_leaked (own_or_leaked o b h) true h ≡ own_or_leaked o (b || true) h
leaked_again = put_again own_or_leaked (λ s b h. refl) (λ h. refl)
