-- What a watch of the tables of a part of a plan sees, by the whole plan.
use Rattle.std.specs.Prelude.{option_and_then}
use Rattle.std.proofs.Common.{◌≡◌, ℕ, zero, suc, ◌≤◌, Bool, true, false, is_some, Option, Some, None, refl, sym, ap, ◌∙◌, arith, true≢false}
use Rattle.net_names.specs.Prefixes.{PrefixValue}
use Rattle.path_pool.specs.declared.pool.PathPool.{PathPool}
use Rattle.route_choice.specs.declared.table.Table.{Table}
use Rattle.route_choice.specs.declared.round_tables.RoundTables.{RoundTables}
use Rattle.route_choice.specs.RoundTables.{round_routing, table_at}
use Rattle.route_choice.specs.Routings.{table_routing}
use Rattle.stability_laws.specs.Plans.{IsSound, Plan, announces, has_prefix}
use Rattle.stability_laws.specs.declared.entry.Entry.{Entry}
use Rattle.data_trace.specs.Hops.{second_of}
use Rattle.as_graph.specs.Topology.{Topology, has}
use Rattle.origin_validation.specs.Judging.{state_of}
use Rattle.policy_kinds.specs.Kinds.{kind_policy}
use Rattle.policy_kinds.specs.declared.kind.Kind.{Kind}
use Rattle.roa_table.specs.Sets.{Payloads}
use Rattle.stability_laws.specs.Book.{PolicyBook}
use Rattle.stability_laws.specs.Laws.{PathsGoOn}
use Rattle.stability_laws.specs.Rounds.{AreRounds}
use Rattle.stability_laws.specs.World.{setting}
use Rattle.leak_round.specs.Rounds.{kept}
use Rattle.leak_round.specs.declared.rounds.Rounds.{Rounds}
use Rattle.sim_core.specs.Watching.{GoesOnInside}
use Rattle.sim_core.proofs.Hops.{goes_on_inside}
use Rattle.trial_world.specs.Fixed.{IsFixed, world_of}
use Rattle.trial_world.specs.Tables.{IsSeen}
use Rattle.trial_world.specs.declared.fixed.Fixed.{Fixed}
use Rattle.trial_world.specs.declared.tables.Seen.{Seen}
use Rattle.trial_world.proofs.LoneAses.{off}
use Rattle.trial_world.proofs.PartPlans.{announces_whole}

-- a prefix without a table has no entries
pub no_table : (pool : PathPool) (tables : RoundTables) (p : PrefixValue) → is_some (table_at tables p) ≡ false → (a : ℕ) → round_routing pool tables p a ≡ None
no_table pool tables p none a = by (table_at tables p) none
  where
    by : (t : Option Table) → is_some t ≡ false → option_and_then (λ (x : Table). table_routing pool x a) t ≡ None
    by None e = refl
    by (Some t) e = absurd (true≢false e)

-- the entries that a watch of the line sees go on to ASes of the graph, where those of the line's round do
pub seen_inside : (f : Fixed) → IsFixed f → (rounds : Rounds) (s : Seen) → IsSeen f rounds s → (there : ℕ → Bool) → ((b : ℕ) → there b ≡ has f.graph.now b) → GoesOnInside f.graph.now f.plan (kept rounds f.round)
    → (p : PrefixValue) (a b : ℕ) → announces s.plan.now p a ≡ false → second_of (round_routing s.pool.now s.tables.now p a) ≡ Some b → there b ≡ true
seen_inside f fixed rounds s is there listed inside p a b free second = by (has_prefix f.plan p) refl
  where
    in_whole : announces f.plan p a ≡ true → announces s.plan.now p a ≡ true
    in_whole h = ap (λ (t : Plan). announces t p a) is.plan ∙ announces_whole f.addr (world_of f).plan f.plan fixed.plan.is_part p a h

    by : (t : Bool) → has_prefix f.plan p ≡ t → there b ≡ true
    by true e = listed b ∙ inside p a b e (off (announces f.plan p a) (λ h. true≢false (sym (in_whole h) ∙ free))) (ap second_of (sym (is.routing p a)) ∙ second)
    by false e = absurd (let none : None ≡ Some b = sym (ap second_of (no_table s.pool.now s.tables.now p (is.prefixes p ∙ e) a)) ∙ second in cc)

-- in the last round the paths go on to ASes of the graph
pub inside_part : PathsGoOn kind_policy → (g : Topology) (book : PolicyBook Kind) (payloads : Payloads) (plan : Plan) → IsSound plan → (round : ℕ) → 1 ≤ round → (family : ℕ → PrefixValue → ℕ → Option Entry)
    → AreRounds (λ p. setting kind_policy g book (state_of payloads p)) plan round family → GoesOnInside g plan (family round)
inside_part law g book payloads plan sound zero some family are = absurd (omega (arith, some))
inside_part law g book payloads plan sound (suc before) some family are = goes_on_inside law g book payloads plan (suc before) family sound are before (omega arith)
