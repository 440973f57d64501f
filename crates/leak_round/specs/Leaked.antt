-- What leakers put in.
use Rattle.std.specs.Prelude.{◌≡◌, ℕ, ◌-◌, Bool, true, false, Option, None, Some, option_map, List}
use Rattle.net_names.specs.Prefixes.{PrefixValue}
use Rattle.net_names.specs.declared.routes.Class.{Class}
use Rattle.net_names.specs.declared.routes.Class.TheVariants.{Origin, Customer, Peer, Provider}
use Rattle.stability_laws.specs.Plans.{Plan, leaks_in}
use Rattle.route_choice.specs.declared.held.Held.{Held}
use Rattle.route_choice.specs.declared.held.SeedHeld.{SeedHeld}
use Rattle.route_choice.specs.declared.round_tables.RoundTables.{RoundTables}
use Rattle.route_choice.specs.declared.seeds.SeedIds.{SeedIds}
use Rattle.route_choice.specs.Tables.{seed_at}
use Rattle.leak_round.specs.declared.announced.Announced.{Announced}
use Rattle.leak_round.specs.declared.changes.Change.{Change}
use Rattle.leak_round.specs.Announced.{own_path, own_seed}
use Rattle.leak_round.specs.Overlays.{held_with}

-- what a leaker puts in of an entry of this class: its path and number, where a peer or a provider gave it (RFC 7908, section 3)
abbrev pub leaked_of : Class → Held → Option SeedHeld
leaked_of Origin h = None
leaked_of Customer h = None
leaked_of Peer h = Some (record { path = h.path; otc = h.otc })
leaked_of Provider h = Some (record { path = h.path; otc = h.otc })

-- what a leaker puts in of what it holds
abbrev pub leaked_by : Option Held → Option SeedHeld
leaked_by None = None
leaked_by (Some h) = leaked_of h.class h

-- the seed that an AS has already, or what it leaks if it leaks
abbrev pub own_or_leaked : Option SeedHeld → Bool → Option Held → Option SeedHeld
own_or_leaked (Some s) leaks held = Some s
own_or_leaked None false held = None
own_or_leaked None true held = leaked_by held

-- the seeds of a prefix in a round: the announced paths, and what each leaker leaks of what it holds in the round before with the changes in place, unless it announces the prefix (RFC 7908, section 3)
abbrev pub AreSeedsWith : Plan → List Announced → List RoundTables → List Change → ℕ → PrefixValue → SeedIds → Type 0
AreSeedsWith plan announced rounds changes round prefix seeds =
    (a : ℕ) → seed_at seeds a ≡ own_or_leaked (option_map own_seed (own_path announced prefix a)) (leaks_in plan round a) (held_with rounds changes (round - 1) prefix a)
