-- The seeds of a round, put in one after the other (private clauses cite these words).
use Rattle.std.specs.Prelude.{ℕ, Bool, if◌then◌else◌, Option, None, Some, List, option_and_then, option_map}
use Rattle.net_names.specs.Prefixes.{PrefixValue}
use Rattle.policy_laws.specs.Policy.{is_own_or_customers}
use Rattle.stability_laws.specs.declared.entry.Entry.{Entry}
use Rattle.stability_laws.specs.declared.entry.Seed.{Seed}
use Rattle.stability_laws.specs.Plans.{Plan, announced_path}

-- the seed of an AS that announces the path (own rule)
abbrev pub own_seed : List ℕ → Seed
own_seed path = record { path = path; otc = None }

-- the seed of what an AS announces of the prefix, where it announces it (own rule)
abbrev pub announced_seed : Plan → PrefixValue → ℕ → Option Seed
announced_seed plan prefix a = option_map own_seed (announced_path plan prefix a)

-- what a leaker puts in of what it held, where a peer or a provider gave it (RFC 7908, section 3)
abbrev pub leaked_by : Option Entry → Option Seed
leaked_by held = option_and_then (λ e. if is_own_or_customers e.class then None else Some (record { path = e.path; otc = e.otc })) held

-- the seed that an AS has already, or what it leaks if it leaks (own rule)
abbrev pub own_or_leaked : Option Seed → Bool → Option Entry → Option Seed
own_or_leaked (Some s) leaks held = Some s
own_or_leaked None leaks held = if leaks then leaked_by held else None
