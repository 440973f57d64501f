-- Turns of links, one after the other.
use Rattle.std.specs.Prelude.{◌≡◌, ◌≢◌, ◌⊎◌, ℕ, suc, Bool, false, find, is_none, replicate, Option, Some, None, option_map, List, [], ◌∷◌}
use Rattle.std.specs.List.{flat_map}
use Rattle.std.specs.Option.{option_map_or}
use Rattle.std.specs.Ordering.{is_gt}
use Rattle.net_names.specs.Links.{pair_cmp}
use Rattle.net_names.specs.declared.routes.Rel.{Rel}
use Rattle.stability_laws.specs.declared.entry.Seed.{Seed}
use Rattle.stability_laws.specs.Offers.{Setting}
use Rattle.message_sim.specs.Messages.{MessageNet}
use Rattle.message_sim.specs.Delivery.{IsDelivery}
use Rattle.message_sim.specs.StepValues.{StepValue}

-- the link whose turn it is: the one that is named; where none is, the lowest one with a message, if any message is under way (own format)
abbrev pub IsTurnOn : MessageNet → Option (ℕ × ℕ) → ℕ × ℕ → Type 0
IsTurnOn x (Some named) l = l ≡ named
IsTurnOn x None l = (n a : ℕ) → x.queue n a ≢ [] → (x.queue l.0 l.1 ≢ []) × (is_gt (pair_cmp l (n, a)) ≡ false)

-- from x to y by these turns, which take out so many messages: a turn delivers the oldest message on its link, and changes nothing where none is there (own format)
abbrev pub AreTurns : Setting → (ℕ → Option Seed) → List (Option (ℕ × ℕ)) → MessageNet → ℕ → MessageNet → Type 0
AreTurns w seeds [] x made y = (made ≡ 0) × (x ≡ y)
AreTurns w seeds (t ∷ ts) x made y = (l : ℕ × ℕ) × IsTurnOn x t l
    × (((x.queue l.0 l.1 ≡ []) × AreTurns w seeds ts x made y) ⊎ ((z : MessageNet) × (k : ℕ)
    × (made ≡ suc k) × IsDelivery w seeds x l.0 l.1 z × AreTurns w seeds ts z k y))

-- the turns that steps ask for (own format)
abbrev pub turns_of : List StepValue → List (Option (ℕ × ℕ))
turns_of steps = flat_map (λ s. replicate s.most s.link) steps

-- the line of the first step that names two ASes without a link (own format)
abbrev pub first_foreign_in : (ℕ → ℕ → Option Rel) → List StepValue → Option ℕ
first_foreign_in relation steps = option_map (λ s. s.line) (find (λ s. option_map_or (λ l. is_none (relation l.1 l.0)) s.link false) steps)

-- a step names two ASes that have no link
abbrev pub is_foreign : (ℕ → ℕ → Option Rel) → StepValue → Bool
is_foreign relation s = option_map_or (λ l. is_none (relation l.1 l.0)) s.link false
