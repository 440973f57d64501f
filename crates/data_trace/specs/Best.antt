-- The best entry so far, while prefixes are looked through.
use Rattle.std.specs.Prelude.{ℕ, nat_lt, if◌then◌else◌, Option, None, Some, option_and_then, List, fold, filter, slice_get}
use Rattle.std.specs.Option.{option_map_or}
use Rattle.net_names.specs.Addresses.{AddrValue}
use Rattle.net_names.specs.Prefixes.{PrefixValue}
use Rattle.net_names.specs.Coverage.{holds}
use Rattle.path_pool.specs.declared.pool.PathPool.{PathPool}
use Rattle.path_pool.specs.Pool.{list_of}
use Rattle.stability_laws.specs.Plans.{Plan, announces, prefixes_of}
use Rattle.route_choice.specs.declared.held.Held.{Held}
use Rattle.route_choice.specs.declared.round_tables.RoundTables.{RoundTables}
use Rattle.route_choice.specs.Tables.{held_at}
use Rattle.route_choice.specs.RoundTables.{table_at}
use Rattle.data_trace.specs.declared.kinds.Hop.{Hop}
use Rattle.data_trace.specs.declared.kinds.Hop.TheVariants.{Here, To, NoRoute}
use Rattle.data_trace.specs.declared.best.Best.{Best}

-- what an AS holds of a prefix in the tables of a round
abbrev pub held_in : RoundTables → PrefixValue → ℕ → Option Held
held_in tables p a = option_and_then (λ t. held_at t a) (table_at tables p)

-- the better of the best so far and what is held of a further prefix
abbrev pub better_of : Option Best → PrefixValue → Option Held → Option Best
better_of best p None = best
better_of None p (Some h) = Some (record { prefix = p; held = h })
better_of (Some b) p (Some h) = if nat_lt b.prefix.len p.len then Some (record { prefix = p; held = h }) else Some b

-- the best entry of an AS among these prefixes
abbrev pub best_in : RoundTables → ℕ → List PrefixValue → Option Best
best_in tables a ps = fold (λ best p. better_of best p (held_in tables p a)) None ps

-- the prefixes of the plan that hold the address
abbrev pub holding : Plan → AddrValue → List PrefixValue
holding plan addr = filter (λ p. holds p addr) (prefixes_of plan)

-- the next hop by the best entry
abbrev pub hop_of : PathPool → Plan → ℕ → Option Best → Hop
hop_of pool plan a None = NoRoute
hop_of pool plan a (Some b) = if announces plan b.prefix a then Here else option_map_or To (slice_get (list_of pool b.held.path.0) 1) NoRoute
