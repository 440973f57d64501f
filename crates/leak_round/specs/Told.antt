-- What is told of changes of rounds.
use Rattle.std.specs.Prelude.{◌≡◌, ◌⊎◌, ℕ, Bool, ◌&&◌, ◌==◌, IsTrue, Option, Some, is_some, List}
use Rattle.std.specs.List.{list_any}
use Rattle.net_names.specs.Numbers.{occurs}
use Rattle.net_names.specs.Prefixes.{PrefixValue}
use Rattle.route_choice.specs.Tables.{places_of}
use Rattle.leak_round.specs.declared.changes.Change.{Change}
use Rattle.leak_round.specs.Overlays.{change_in}

-- some of the changes of the round is at the AS
abbrev pub changes_at : List Change → ℕ → ℕ → Bool
changes_at xs round a = list_any (λ x. (x.round == round) && occurs a (places_of x.overlay)) xs

-- the AS has a change of the round for some prefix, or its announcement is edited
abbrev pub IsToldOf : List Change → Option ℕ → ℕ → ℕ → Type 0
IsToldOf xs edited round a = ((prefix : PrefixValue) × IsTrue (is_some (change_in xs round prefix a))) ⊎ (edited ≡ Some a)
