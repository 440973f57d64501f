use Rattle.std.proofs.Common.{◌≡◌, ◌≤◌, ℕ, true, false, None, option_map, length, refl, ap, sym, subst, ◌∙◌, arith}
use Rattle.std.specs.Prelude.{is_some, IsSome}
use Rattle.net_names.specs.Numbers.{occurs}
use Rattle.as_graph.specs.Topology.{Topology, has, as_count}
use Rattle.as_graph.proofs.Chains.{distinct_le}
use Rattle.path_pool.specs.declared.pool.PathPool.{PathPool}
use Rattle.route_choice.specs.declared.overlay.Overlay.{Overlay}
use Rattle.route_choice.specs.declared.table.Table.{Table}
use Rattle.route_choice.specs.Routings.{entry_of, routing_of}
use Rattle.route_choice.specs.Slots.{over}
use Rattle.route_choice.specs.Tables.{held_at, places_of}
use Rattle.dirty_recompute.specs.Resources.{FewNewCells}
use Rattle.leak_round.specs.Overlays.{IsListed}
use Rattle.leak_round.proofs.Counting.{few_entries}
use Rattle.leak_round.proofs.table_changes.changes_of_table.Goals as goal

-- the ASes with a new entry are ASes of the graph
few_ases : (g : Topology) (pool pool' : PathPool) (t : Table) (o : Overlay) (h : FewNewCells pool pool' o) → ((a : ℕ) → has g a ≡ false → routing_of pool' t o a ≡ None) → length h.ases ≤ as_count g
few_ases g pool pool' t o h away = few_entries g (routing_of pool' t o) h.ases h.distinct entry away
  where
    entry : (a : ℕ) → occurs a h.ases ≡ true → IsSome (routing_of pool' t o a)
    entry a there = let (held, is) = h.entries a there in subst IsSome (sym (ap (λ c. option_map (entry_of pool') (over c (held_at t a))) is)) refl

-- and each of them has a change
few_places : (pool pool' : PathPool) (o : Overlay) (h : FewNewCells pool pool' o) → IsListed o → length h.ases ≤ length (places_of o)
few_places pool pool' o h listed = distinct_le h.ases (places_of o) h.distinct (λ a there. (let (held, is) = h.entries a there in listed.whole a ∙ ap is_some is))

pub plan_edit-requires : goal.plan_edit-requires
plan_edit-requires g c =
    let can = c.requires.can in
    record {
      no_cycle = c.args.finding.now.no_cycle;
      last = c.args.finding.now.last;
      ranks = c.requires.ranks;
      entries = can.entries;
      right = can.right;
      seeds = can.at_ases;
      seeds_live = can.seeds_live;
      entries_live = can.entries_live;
      held = can.held;
      counts = λ k. omega (arith, c.requires.room.counts k);
      room = omega (arith, c.requires.room.cells, c.as_count-count.ensures.value, c.as_count-count.ensures.few);
    }

pub returns-clause-found : goal.returns-clause-found
returns-clause-found g c =
    let o = c.in_ok-overlay.overlay in
    let now = c.in_ok-overlay.ensures.planned in
    let pool = c.args.pool.now in
    let pool' = c.plan_edit.new.pool in
    let listed : IsListed o = record { whole = c.len-changes.ensures.listed; apart = c.len-changes.ensures.apart } in
    let few = few_ases c.args.finding.now.world.now.graph.now pool pool' c.plan_edit.new.table o now.cells now.exact.stable.only_ases in
    let listed_few = few_places pool pool' o now.cells listed in
    let most : length now.cells.ases ≤ 150000 = omega (arith, few, c.as_count-count.ensures.value, c.as_count-count.ensures.few) in
    record {
      exact = now.exact;
      enough = now.enough;
      spare = now.spare;
      listed = listed;
      holds = now.holds;
      keeps = record { live = now.kept.live; lists = now.kept.lists };
      grows = record { cells = omega (arith, now.cells.few, most); counts = λ k. omega (arith, now.cells.counts k, most); limit = c.in_ok-overlay.ensures.limit };
      cells = omega (arith, now.cells.few, listed_few);
    }
