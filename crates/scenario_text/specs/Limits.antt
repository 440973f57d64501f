-- The last pass: no limit is passed (own format).
use Rattle.std.specs.Prelude.{nat_lt, [], ◌∷◌, length, fold, map, None, option_map, Result, Ok}
use Rattle.std.specs.Bool.{then_some}
use Rattle.std.specs.List.{list_any}
use Rattle.std.specs.Option.{option_or}
use Rattle.std.specs.Ordering.{eq_by_cmp}
use Rattle.std.specs.Set.{distinct_count}
use Rattle.net_names.specs.Prefixes.{prefix_cmp}
use Rattle.net_names.specs.Steps.{unless}
use Rattle.scenario_text.specs.declared.faults.LimitOf.TheVariants as limits
use Rattle.scenario_text.specs.declared.faults.ScenarioError.{ScenarioError}
use Rattle.scenario_text.specs.declared.faults.ScenarioError.TheVariants.{Limit}
use Rattle.scenario_text.specs.declared.limits.TheConstants.{MOST_ANNOUNCEMENTS, MOST_LEAK_LISTS, MOST_LEAKERS, MOST_NUMBERS, MOST_PREFIXES, MOST_WATCHED}
use Rattle.scenario_text.specs.Scenarios.{ScenarioValue}

-- the four lists, where no limit is passed, or else the first that is: 64 announcements, 32 different prefixes, 64 numbers in a path, 4 rounds, so that 3 lists of leakers, 64 leakers in a round, 16 watched addresses (own format)
unfoldable pub within : ScenarioValue → Result ScenarioValue ScenarioError
within s = unless (option_map Limit (fold option_or None (
    then_some (nat_lt MOST_ANNOUNCEMENTS (length s.announcements)) limits.Announcements ∷
    then_some (nat_lt MOST_PREFIXES (distinct_count (eq_by_cmp prefix_cmp) (map (λ a. a.prefix) s.announcements))) limits.Prefixes ∷
    then_some (list_any (λ a. nat_lt MOST_NUMBERS (length a.path)) s.announcements) limits.Path ∷
    then_some (nat_lt MOST_LEAK_LISTS (length s.leaks)) limits.Rounds ∷
    then_some (list_any (λ l. nat_lt MOST_LEAKERS (length l)) s.leaks) limits.Leakers ∷
    then_some (nat_lt MOST_WATCHED (length s.watch)) limits.Watch ∷ []))) (Ok s)
