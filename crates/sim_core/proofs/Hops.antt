-- Traces and watches over tables are those of what the tables stand for.
use Rattle.std.proofs.Common.{◌≡◌, ℕ, suc, ◌<◌, Bool, true, false, IsTrue, is_some, List, Option, Some, None, Result, Ok, Err, IfOk, refl, sym, ap, subst, ◌∙◌}
use Rattle.as_graph.specs.Topology.{Topology, has}
use Rattle.net_names.specs.Addresses.{AddrValue}
use Rattle.net_names.specs.Prefixes.{PrefixValue}
use Rattle.path_pool.specs.declared.pool.PathPool.{PathPool}
use Rattle.policy_kinds.specs.Kinds.{kind_policy}
use Rattle.policy_kinds.specs.declared.kind.Kind.{Kind}
use Rattle.roa_table.specs.Sets.{Payloads}
use Rattle.origin_validation.specs.Judging.{state_of}
use Rattle.route_choice.specs.declared.table.Table.{Table}
use Rattle.route_choice.specs.declared.round_tables.RoundTables.{RoundTables}
use Rattle.route_choice.specs.RoundTables.{round_routing, table_at}
use Rattle.stability_laws.specs.Book.{PolicyBook}
use Rattle.stability_laws.specs.Laws.{PathsGoOn}
use Rattle.stability_laws.specs.Plans.{Plan, IsSound, announces, has_prefix}
use Rattle.stability_laws.specs.Rounds.{AreRounds}
use Rattle.stability_laws.specs.World.{setting}
use Rattle.stability_laws.specs.declared.entry.Entry.{Entry}
use Rattle.data_trace.specs.Hops.{next_hop, second_of}
use Rattle.data_trace.specs.Traces.{IsTrace}
use Rattle.data_trace.specs.Views.{rows_of}
use Rattle.data_trace.specs.Watches.{AreRows, StaysInside}
use Rattle.data_trace.specs.declared.kinds.End.{End}
use Rattle.data_trace.specs.declared.watch.Watch.{Watch}
use Rattle.sim_core.specs.Watching.{GoesOnInside}

pub same_trace : {T E : Type 0} (walk : T → List ℕ) (end : T → End) (r : Result T E) (plan other : Plan) (held now : PrefixValue → ℕ → Option Entry) (addr : AddrValue) (a : ℕ) → plan ≡ other → ((p : PrefixValue) (b : ℕ) → held p b ≡ now p b)
    → IfOk r (λ t. IsTrace (next_hop plan held addr) a (walk t) (end t)) → IfOk r (λ t. IsTrace (next_hop other now addr) a (walk t) (end t))
same_trace walk end (Ok t) plan other held now addr a same each h =
    subst (λ (s : Plan × (PrefixValue → ℕ → Option Entry)). IsTrace (next_hop s.0 s.1 addr) a (walk t) (end t)) (λ i. (same i, λ p b. each p b i)) h
same_trace walk end (Err e) plan other held now addr a same each h = h

pub same_rows : (watch : Watch) (g : Topology) (label_of : ℕ → ℕ) (plan other : Plan) (held now : PrefixValue → ℕ → Option Entry) (addr : AddrValue) → plan ≡ other → ((p : PrefixValue) (b : ℕ) → held p b ≡ now p b)
    → AreRows g (next_hop plan held addr) label_of (rows_of watch) → AreRows g (next_hop other now addr) label_of (rows_of watch)
same_rows watch g label_of plan other held now addr same each h =
    subst (λ (s : Plan × (PrefixValue → ℕ → Option Entry)). AreRows g (next_hop s.0 s.1 addr) label_of (rows_of watch)) (λ i. (same i, λ p b. each p b i)) h

-- a prefix without a table has no entries, so that the entries of tables go on to ASes that are there where those of the plan's prefixes do
pub tables_go_on : (there : ℕ → Bool) (pool : PathPool) (tables : RoundTables) (plan other : Plan) (now : PrefixValue → ℕ → Option Entry) → plan ≡ other → ((p : PrefixValue) (b : ℕ) → round_routing pool tables p b ≡ now p b) → ((p : PrefixValue) → is_some (table_at tables p) ≡ has_prefix other p)
    → ((p : PrefixValue) (a b : ℕ) → IsTrue (has_prefix other p) → announces other p a ≡ false → second_of (now p a) ≡ Some b → there b ≡ true)
    → (p : PrefixValue) (a b : ℕ) → announces plan p a ≡ false → second_of (round_routing pool tables p a) ≡ Some b → there b ≡ true
tables_go_on there pool tables plan other now same each full go_on p a b free second = by (table_at tables p) refl
  where
    by : (t : Option Table) → table_at tables p ≡ t → there b ≡ true
    by (Some t) is = go_on p a b (sym (full p) ∙ ap is_some is) (ap (λ (x : Plan). announces x p a) (sym same) ∙ free) (ap second_of (sym (each p a)) ∙ second)
    by None is = absurd (let none : None ≡ Some b = sym (rw is refl) ∙ second in cc)

pub inside_tables : (g : Topology) (pool : PathPool) (tables : RoundTables) (plan other : Plan) (now : PrefixValue → ℕ → Option Entry) → plan ≡ other → ((p : PrefixValue) (b : ℕ) → round_routing pool tables p b ≡ now p b) → ((p : PrefixValue) → is_some (table_at tables p) ≡ has_prefix other p)
    → GoesOnInside g other now → StaysInside g plan (round_routing pool tables)
inside_tables g pool tables plan other now same each full inside = tables_go_on (has g) pool tables plan other now same each full inside

-- the paths of a stable family go on inside the graph
pub goes_on_inside : PathsGoOn kind_policy → (g : Topology) (book : PolicyBook Kind) (payloads : Payloads) (plan : Plan) (rounds : ℕ) (family : ℕ → PrefixValue → ℕ → Option Entry) → IsSound plan → AreRounds (λ p. setting kind_policy g book (state_of payloads p)) plan rounds family
    → (before : ℕ) → before < rounds → GoesOnInside g plan (family (suc before))
goes_on_inside law g book payloads plan rounds family sound are before within p a b known free second = by (family (suc before) p a) refl
  where
    by : (held : Option Entry) → family (suc before) p a ≡ held → has g b ≡ true
    by None is = absurd (let none : None ≡ Some b = sym (ap second_of is) ∙ second in cc)
    by (Some e) is =
        let (next, goes, inside) = (law g book (λ q. state_of payloads q) plan rounds family sound are before p within known a e is).1 free in
        let second_is : Some next ≡ Some b = sym goes ∙ (sym (ap second_of is) ∙ second) in
        let same : next ≡ b = cc in
        subst (λ (x : ℕ). has g x ≡ true) same inside
