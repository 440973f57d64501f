use Rattle.std.proofs.Common.{◌≡◌, ℕ, Option, Some, sym, subst}
use Rattle.net_names.specs.Prefixes.{PrefixValue}
use Rattle.stability_laws.specs.declared.entry.Entry.{Entry}
use Rattle.route_choice.specs.RoundTables.{table_at}
use Rattle.route_choice.specs.Routings.{table_routing}
use Rattle.route_choice.specs.Tables.{prefix_of}
use Rattle.leak_round.specs.Rounds.{kept, pool_of}
use Rattle.leak_round.specs.Staying.{StaysRightIn}
use Rattle.leak_round.proofs.Stays.{routed}
use Rattle.leak_round.proofs.ends.stays_in_round.Goals as goal

pub returns : goal.returns
returns g c = λ yes.
    let pool = c.pool-pool.result.now in
    let ts = c.in-Some.tables.now in
    let t = c.in-Some-table.table.now in
    let w = c.args.world.now in
    let prefix : PrefixValue = c.args.prefix in
    let f : ℕ → Option Entry = table_routing pool t in
    let h : ℕ → Option Entry = kept c.args.rounds.now c.args.round prefix in
    let at : table_at ts prefix ≡ Some t = sym c.in-Some-table.ensures in
    let same : f ≡ h = λ i b. routed pool (pool_of c.args.rounds.now) ts prefix t h c.pool-pool.ensures.value at (c.in-Some.ensures.routing prefix) b i in
    let own : prefix_of t ≡ prefix = c.in-Some.ensures.by_prefix prefix t at in
    subst (λ (k : ℕ → Option Entry). StaysRightIn g.P.RoutePolicy.meaning g.V.OriginStates.state_of w prefix k c.args.asn c.args.end) same
    (subst (λ (p : PrefixValue). StaysRightIn g.P.RoutePolicy.meaning g.V.OriginStates.state_of w p f c.args.asn c.args.end) own (c.stays_right.ensures yes))
