use Rattle.std.proofs.Common.{◌≡◌, ℕ, true, false, refl, sym, subst, ◌∙◌, arith, rules}
use Rattle.std.proofs.lemmas.Bool.{true≢false}
use Rattle.net_names.specs.declared.routes.State.TheVariants.{NotFound}
use Rattle.as_graph.specs.Topology.{has}
use Rattle.route_choice.specs.Routings.{entry_of, seeds_of, table_routing}
use Rattle.route_choice.specs.Tables.{held_at}
use Rattle.worked_cases.specs.Narrows.{narrow_policy}
use Rattle.worked_cases.proofs.Standing.{neither, none_held, right_beside, still_has}
use Rattle.worked_cases.proofs.tests.narrow_policy.cut.Goals as goal

pub plan_edit-requires : goal.plan_edit-requires
plan_edit-requires g c =
    let was = c.args.graph.now in
    let at = c.args.at.now in
    let seeds = seeds_of at.pool at.seeds in
    record {
      no_cycle = c.planned_ranks-ranks.ensures.no_cycle;
      last = c.planned_ranks-ranks.ensures.last;
      ranks = c.planned_ranks-ranks.ensures.after;
      entries = λ b none free.
          let apart = neither c.args.ends.0 c.args.ends.1 b free in
          let stood : has was b ≡ false = still_has c.ases_are_kept.ensures was c.unlink.new.self c.args.ends.0 c.args.ends.1 b false c.in-Ok.ensures.ok apart.0 apart.1 none in
          none_held (entry_of at.pool) (held_at at.table b) (c.requires.settled.stable.only_ases b stood);
      right = λ b there free.
          let apart = neither c.args.ends.0 c.args.ends.1 b free in
          let stood : has was b ≡ true = still_has c.ases_are_kept.ensures was c.unlink.new.self c.args.ends.0 c.args.ends.1 b true c.in-Ok.ensures.ok apart.0 apart.1 there in
          rw c.in-Ok.ensures.ok (right_beside (λ p. narrow_policy) c.right_follows.ensures c.links_are_taken.ensures was c.args.book.now (λ _. NotFound) seeds seeds (table_routing at.pool at.table) c.args.ends.0 c.args.ends.1 b apart.0 apart.1 refl (c.requires.settled.stable.right b stood));
      seeds = λ b none. c.requires.settled.only b (λ e. true≢false (sym (subst (λ (x : ℕ). has c.unlink.new.self x ≡ true) (sym e) (search rules)) ∙ none));
      seeds_live = c.requires.settled.seeds_live;
      entries_live = c.requires.settled.entries_live;
      held = c.requires.settled.held;
      counts = λ k. omega (arith, c.requires.settled.few k);
      room = search rules;
    }
