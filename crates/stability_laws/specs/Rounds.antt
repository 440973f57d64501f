-- The seeds of a round, and the routings of all rounds.
use Rattle.std.specs.FinMap as fin
use Rattle.std.specs.Prelude.{ℕ, suc, ◌<◌, Bool, ◌&&◌, nat_lt, IsTrue, if◌then◌else◌, Option, None, Some, option_and_then, List}
use Rattle.net_names.specs.Prefixes.{PrefixValue}
use Rattle.policy_laws.specs.Policy.{is_own_or_customers}
use Rattle.stability_laws.specs.declared.entry.Entry.{Entry}
use Rattle.stability_laws.specs.declared.entry.Seed.{Seed}
use Rattle.stability_laws.specs.Offers.{Setting}
use Rattle.stability_laws.specs.Plans.{has_prefix, announced_path}
use Rattle.stability_laws.specs.Stable.{IsStable}
pub use Rattle.stability_laws.specs.Plans.{Plan, announcement_cmp}

-- the seed of an AS: the path that it announces, without a number; else, at a leaker, the path and
-- the number of what it held in the round before, where a peer or a provider gave it
-- (RFC 7908, section 3, route leaks)
abbrev pub seed_given : Option (List ℕ) → Bool → Option Entry → Option Seed
seed_given (Some path) leaks held = Some (record { path = path; otc = None })
seed_given None leaks held = if leaks then option_and_then (λ e. if is_own_or_customers e.class then None else Some (record { path = e.path; otc = e.otc })) held else None

-- the seeds of a round and a prefix, given the routing of the round before, in which leakers look
-- up what they leak; in round 1 none leaks
abbrev pub seeds_of : Plan → ℕ → PrefixValue → (ℕ → Option Entry) → ℕ → Option Seed
seeds_of plan round prefix before a = seed_given (announced_path plan prefix a) (nat_lt 1 round && fin.contains_key plan.leakers (round, a)) (before a)

-- what each AS holds of each prefix in each round
abbrev pub Family : Type 0
Family = ℕ → PrefixValue → ℕ → Option Entry

-- each round's routing of each prefix is stable for the seeds of that round, which follow from the
-- routing of the round before
abbrev pub AreRounds : (PrefixValue → Setting) → Plan → ℕ → Family → Type 0
AreRounds w plan rounds g = (r : ℕ) (p : PrefixValue) → r < rounds → IsTrue (has_prefix plan p) →
    IsStable (w p) (seeds_of plan (suc r) p (g r p)) (g (suc r) p)
