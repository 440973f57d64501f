-- The world that is loaded.
use Rattle.std.specs.Prelude.{ℕ, ◌+◌, Bool, true, false, List, ◌++◌, map, filter, flat_map, length}
use Rattle.std.specs.List.{enumerate_from}
use Rattle.std.specs.FinMap.{from_entries}
use Rattle.std.specs.FinSet as set
use Rattle.net_names.specs.Links.{LinkMap}
use Rattle.policy_kinds.specs.declared.kind.Kind.{Kind}
use Rattle.policy_kinds.specs.declared.kind.Kind.TheVariants as kind
use Rattle.roa_table.specs.Sets.{Payloads}
use Rattle.stability_laws.specs.Plans.{Plan}
use Rattle.scenario_text.specs.Scenarios.{ScenarioValue}
use Rattle.sim_core.specs.World.{World}

-- what a scenario announces and leaks: the ASes of the first list leak in round 2, and so on (own format)
abbrev pub plan_of : ScenarioValue → Plan
plan_of s = record {
  prefixes = from_entries (map (λ a. (a.prefix, tt)) s.announcements);
  announced = from_entries (map (λ a. ((a.prefix, a.asn), a.path)) s.announcements);
  leakers = from_entries (flat_map (λ l. map (λ a. ((l.0, a), tt)) l.1) (enumerate_from 2 s.leaks));
}

-- the policy is another than the plain one
abbrev pub is_other : ℕ × Kind → Bool
is_other p = elim p.1 [ kind.Plain ↦ false | _ ↦ true ]

-- the world of these links, payloads and this scenario: its policies are those other than the plain one, and it has one round more than lists of leakers
abbrev pub world_of : LinkMap → Payloads → ScenarioValue → World
world_of links vrps s = record { links = links; payloads = vrps; kinds = from_entries (filter is_other s.policies); plan = plan_of s; rounds = length s.leaks + 1; watched = set.from_list s.watch }

-- the ASes that a scenario names by an announcement, a leak or a policy other than the plain one, some twice (own format)
abbrev pub names_in : ScenarioValue → List ℕ
names_in s = map (λ a. a.asn) s.announcements ++ (flat_map (λ leakers. leakers) s.leaks ++ map (λ p. p.0) (filter is_other s.policies))
