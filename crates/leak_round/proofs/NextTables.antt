-- The table whose turn it is.
use Rattle.std.proofs.Common.{◌≡◌, ℕ, ◌-◌, false, Some, option_map, List, Result, Ok, Err, sym, ap, subst, ◌∙◌}
use Rattle.std.specs.Prelude.{IsSome, OnOk}
use Rattle.net_names.specs.declared.routes.State.{State}
use Rattle.net_names.specs.Prefixes.{PrefixValue}
use Rattle.path_pool.specs.declared.pool.PathPool.{PathPool}
use Rattle.policy_laws.specs.Policy.{Policy}
use Rattle.stability_laws.specs.Plans.{leaks_in}
use Rattle.stability_laws.specs.World.{setting_in}
use Rattle.route_choice.specs.declared.round_tables.RoundTables.{RoundTables}
use Rattle.route_choice.specs.declared.seeds.SeedIds.{SeedIds}
use Rattle.route_choice.specs.declared.table.Table.{Table}
use Rattle.route_choice.specs.Resources.{AreSeedsLive}
use Rattle.route_choice.specs.Slots.{over}
use Rattle.leak_round.specs.declared.changes.Change.{Change}
use Rattle.leak_round.specs.declared.finding.Finding.{Finding}
use Rattle.leak_round.specs.declared.round_prefix.RoundPrefix.{RoundPrefix}
use Rattle.leak_round.specs.Edited.{announced_after, seeds_after}
use Rattle.leak_round.specs.Announced.{own_path, own_seed}
use Rattle.leak_round.specs.Leaked.{own_or_leaked}
use Rattle.leak_round.specs.Overlays.{held_of, table_in}
use Rattle.leak_round.specs.Findings.{AreSeedsAfter, AreSeedsBefore, AreSeedsKept, AreWrongBy, CanFindNext, IsNextFound, IsNoneAdded}
use Rattle.leak_round.specs.Found.{AreSame, CanFindInTable, IsAdded, IsPaid, IsTableAdded}
use Rattle.leak_round.specs.Touched.{touches}
use Rattle.leak_round.proofs.Changing.{can_found, live_after, live_before}
use Rattle.leak_round.proofs.Found.{added as added_one, found_added}
use Rattle.leak_round.proofs.Listing.{some_of}
use Rattle.leak_round.proofs.Roomed.{table_there}
use Rattle.leak_round.proofs.Unchanged.{none_before, none_found, none_paid}

module _ {P V : Type 0} {meaning : P → Policy} {state_of : V → PrefixValue → ℕ → State} {x : Finding P V} {at : RoundPrefix} {pool : PathPool} {rounds : List RoundTables} {cs : List Change} {steps : ℕ}
    (can : CanFindNext meaning state_of x at pool rounds cs steps) where
  pub next_there : IsSome (table_in rounds at.round at.prefix)
  next_there = table_there pool x.plan.now rounds can.can.full at.round at.prefix can.turn.from can.turn.to can.turn.known

  pub next_live_before : (seeds : SeedIds) → AreSeedsBefore x at rounds seeds → AreSeedsLive pool seeds
  next_live_before seeds put =
      live_before (setting_in meaning state_of x.world.now) x.world.now.graph.now (touches x.touched.now) x.plan.now (seeds_after x.edited.now x.plan.now) x.announced.now (announced_after x.edited.now x.announced.now) pool rounds cs can.so_far.0 steps
      can.can can.held can.so_far.1 at.round at.prefix seeds put

  pub next_live_after : (seeds : SeedIds) → AreSeedsAfter x at rounds cs seeds → AreSeedsLive pool seeds
  next_live_after seeds put =
      live_after (setting_in meaning state_of x.world.now) x.world.now.graph.now (touches x.touched.now) x.plan.now (seeds_after x.edited.now x.plan.now) x.announced.now (announced_after x.edited.now x.announced.now) pool rounds cs can.so_far.0 steps
      can.can can.held can.so_far.1 at.round at.prefix seeds put

  -- where the round before has no change the seeds stay
  pub next_same : AreSeedsKept x at cs → (seeds : SeedIds) → AreSeedsBefore x at rounds seeds → AreSeedsAfter x at rounds cs seeds
  next_same kept seeds put a =
      let none = none_before (setting_in meaning state_of x.world.now) x.world.now.graph.now (touches x.touched.now) x.plan.now (seeds_after x.edited.now x.plan.now) x.announced.now (announced_after x.edited.now x.announced.now) pool rounds cs can.so_far.0 steps
      can.can can.held can.so_far.1 at.round at.prefix kept.before a in
      put a ∙ sym (λ i. own_or_leaked (option_map own_seed (own_path (announced_after (kept.unedited i) x.announced.now) at.prefix a)) (leaks_in (seeds_after (kept.unedited i) x.plan.now) at.round a) (over (none i) (held_of rounds (at.round - 1) at.prefix a)))

  -- where moreover nobody is touched the table has no change, and those before it stay found
  pub next_none : AreSeedsKept x at cs → ((a : ℕ) → touches x.touched.now at.prefix a ≡ false) → (cs' : List Change) {T E : Type 0} (r : Result T E) → OnOk r (IsNoneAdded cs cs' at.round at.prefix) → OnOk r (IsNextFound meaning state_of x at pool pool rounds rounds cs cs' steps steps)
  next_none kept untouched cs' (Ok done) added =
      let (t, there) = some_of (table_in rounds at.round at.prefix) next_there in
      record {
        found = λ first so_far.
            none_found (setting_in meaning state_of x.world.now) x.world.now.graph.now (touches x.touched.now) x.plan.now (seeds_after x.edited.now x.plan.now) x.announced.now (announced_after x.edited.now x.announced.now) pool rounds cs first steps
            can.can can.held so_far at.round at.prefix kept.before can.turn (ap (λ e. seeds_after e x.plan.now) kept.unedited) untouched t there cs' added;
        added = subst (λ (zs : List Change). IsAdded cs zs at.round at.prefix) (sym added.items) (added_one cs (record { round = at.round; prefix = at.prefix; overlay = added.overlay }));
        paid = none_paid pool cs cs' at.round at.prefix added;
      }
  next_none kept untouched cs' (Err e) added = added

  module _ (seeds : SeedIds) (ases : List ℕ) (wrong : AreWrongBy x at rounds cs pool seeds ases) where
    -- it can be found with these seeds and ASes
    pub next_can : (t : Table) → table_in rounds at.round at.prefix ≡ Some t → CanFindInTable (setting_in meaning state_of x.world.now at.prefix) x.world.now.graph.now at.prefix seeds ases pool t
    next_can t there =
        can_found (setting_in meaning state_of x.world.now) x.world.now.graph.now (touches x.touched.now) x.plan.now (seeds_after x.edited.now x.plan.now) x.announced.now (announced_after x.edited.now x.announced.now) pool rounds cs can.so_far.0 steps
        can.can can.held can.so_far.1 at.round at.prefix can.turn seeds ases wrong t there

    -- where it is found so, those before it stay found
    pub next_found : (pool' : PathPool) (rounds' : List RoundTables) (cs' : List Change) (last : ℕ) {T E : Type 0} (r : Result T E) → AreSame rounds rounds'
        → OnOk r (IsTableAdded (setting_in meaning state_of x.world.now at.prefix) x.world.now.graph.now seeds ases pool pool' rounds rounds' cs cs' at.round at.prefix steps last)
        → OnOk r (IsAdded cs cs' at.round at.prefix) → OnOk r (IsPaid pool pool' cs cs' 1)
        → OnOk r (IsNextFound meaning state_of x at pool pool' rounds rounds' cs cs' steps last)
    next_found pool' rounds' cs' last (Ok done) same made added paid = record {
      found = λ first so_far.
          found_added (setting_in meaning state_of x.world.now) x.world.now.graph.now (touches x.touched.now) x.plan.now (seeds_after x.edited.now x.plan.now) x.announced.now (announced_after x.edited.now x.announced.now) pool rounds cs first steps
          can.can can.held so_far at.round at.prefix can.turn seeds ases wrong pool' rounds' cs' last same made;
      added = added;
      paid = paid;
    }
    next_found pool' rounds' cs' last (Err e) same made added paid = added
