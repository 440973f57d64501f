-- The scenario and the payloads of a generated input (own format).
use Rattle.std.specs.Prelude.{ℕ, ◌+◌, ◌*◌, ◌^◌, ◌/◌, ◌%◌, ◌==◌, List, [], ◌∷◌, if◌then◌else◌, map, filter, min}
use Rattle.std.specs.FinMap as fin
use Rattle.std.specs.List.{range_with_len}
use Rattle.net_names.specs.Addresses.{AddrValue}
use Rattle.net_names.specs.Prefixes.{PrefixValue}
use Rattle.net_names.specs.declared.addresses.Family.TheVariants.{V4}
use Rattle.policy_kinds.specs.declared.kind.Kind.{Kind}
use Rattle.policy_kinds.specs.declared.kind.Kind.TheVariants.{Plain, DropInvalid, PreferValid, ProviderFirst}
use Rattle.roa_table.specs.Sets.{Payloads}
use Rattle.scenario_text.specs.declared.scenario.Announcement.{Announcement}
use Rattle.scenario_text.specs.Scenarios.{ScenarioValue}

-- the prefix of this length whose first address is 10.0.0.0 (own format)
abbrev pub block : ℕ → PrefixValue
block len = record { family = V4; addr = 167772160; len = len }

-- 10.0.0.1, in the lower half of 10.0.0.0/8, which is half 0, and 10.128.0.1, in the upper half, which is half 1 (own format)
abbrev pub host : ℕ → AddrValue
host half = record { family = V4; bits = 167772161 + half * 2 ^ 23 }

-- the policy of an AS by its number: of multiples of 3, else of 5, else of 7, and of the others
abbrev pub kind_of : ℕ → Kind
kind_of a = if a % 3 == 0 then DropInvalid else (if a % 5 == 0 then PreferValid else (if a % 7 == 0 then ProviderFirst else Plain))

-- AS n announces 10.0.0.0/8, and the AS in the middle 10.0.0.0/9, the half of it, each with its own number as the path; each AS has the policy of its number; of the ASes up to 5,000 each hundredth leaks in round 2, from 50 on; an address of each half is watched
abbrev pub drawn_scenario : ℕ → ScenarioValue
drawn_scenario n = let leaking = filter (λ a. a % 100 == 50) (range_with_len 1 (min n 5000)) in
    let own : ℕ → ℕ → Announcement = λ l a. record { prefix = block l; asn = a; path = a ∷ [] } in
    record { announcements = own 8 n ∷ own 9 (1 + n / 2) ∷ []; policies = map (λ a. (a, kind_of a)) (range_with_len 1 n); leaks = leaking ∷ []; watch = host 0 ∷ host 1 ∷ [] }

-- those of the ASes 1 to k that leak in round 2
abbrev pub leakers_to : ℕ → List ℕ
leakers_to k = filter (λ a. a % 100 == 50) (range_with_len 1 k)

-- one payload alone: AS n may announce 10.0.0.0/8, and nothing longer
abbrev pub drawn_payloads : ℕ → Payloads
drawn_payloads n = fin.insert fin.empty (record { prefix = block 8; max = 8; asn = n }) tt
