-- The next hops of one round and one address.
use Rattle.std.specs.Prelude.{ℕ}
use Rattle.route_choice.specs.RoundTables.{round_routing}
use Rattle.data_trace.specs.declared.kinds.Hop.{Hop}
use Rattle.data_trace.specs.declared.forwarding.Forwarding.{Forwarding}
use Rattle.data_trace.specs.Hops.{next_hop}

-- where an AS sends a packet to the address, by the tables of the round
abbrev pub hops_by : Forwarding → ℕ → Hop
hops_by f = next_hop f.plan.now (round_routing f.pool.now f.tables.now) f.addr
