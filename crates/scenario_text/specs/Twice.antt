-- The third pass: nothing is named twice (own format).
use Rattle.std.specs.Prelude.{List, [], ◌∷◌, length, map, fold, Option, None, Result, Ok}
use Rattle.std.specs.Bool.{then_some}
use Rattle.std.specs.List.{list_any}
use Rattle.std.specs.Option.{option_or}
use Rattle.std.specs.declared.cmp.Ordering.{Ordering}
use Rattle.std.specs.Ordering.{nat_cmp, eq_by_cmp}
use Rattle.net_names.specs.Addresses.{addr_cmp}
use Rattle.net_names.specs.Prefixes.{announcement_cmp}
use Rattle.net_names.specs.Steps.{unless, first_fault}
use Rattle.scenario_text.specs.declared.places.Member.TheVariants.{Announcements, Policies, Leaks, Watch}
use Rattle.scenario_text.specs.declared.places.Place.{Place}
use Rattle.scenario_text.specs.declared.faults.ScenarioError.{ScenarioError}
use Rattle.scenario_text.specs.declared.faults.ScenarioError.TheVariants.{Twice}
use Rattle.scenario_text.specs.Places.{in_member, item}
use Rattle.scenario_text.specs.Scenarios.{ScenarioValue}
use Rattle.scenario_text.specs.Walks.{Reader}

-- the first item of the list that is named twice, if one is: an equal one stands before it (own format)
unfoldable pub twice : {K : Type 0} → (K → K → Ordering) → Place → List K → Option ScenarioError
twice cmp p = first_fault (λ before key. then_some (list_any (eq_by_cmp cmp key) before) (Twice (item p (length before)))) []

-- no item of the list is named twice, or the first that is
abbrev pub once_in : {K : Type 0} → (K → K → Ordering) → Reader (List K) (Unit {0})
once_in cmp p keys = unless (twice cmp p keys) (Ok tt)

-- the four lists, where nothing is named twice, or else the first that is: announcements are named by prefix and AS, policies by their AS, leakers within their round (own format)
unfoldable pub once : ScenarioValue → Result ScenarioValue ScenarioError
once s = unless (fold option_or None (
    twice announcement_cmp (in_member Announcements) (map (λ a. (a.prefix, a.asn)) s.announcements)
    ∷ twice nat_cmp (in_member Policies) (map (λ p. p.0) s.policies)
    ∷ first_fault (λ before. twice nat_cmp (item (in_member Leaks) (length before))) [] s.leaks
    ∷ twice addr_cmp (in_member Watch) s.watch ∷ [])) (Ok s)
