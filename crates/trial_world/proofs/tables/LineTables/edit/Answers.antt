use Rattle.std.proofs.Common.{◌≡◌, ◌∙◌, ap, refl, sym, subst, arith}
use Rattle.stability_laws.specs.Plans.{Plan, announces}
use Rattle.net_names.specs.Numbers.{occurs}
use Rattle.leak_round.specs.Plans.{ases_told}
use Rattle.leak_round.specs.Rounds.{kept, round_count}
use Rattle.sim_core.proofs.Grounds.{not_told}
use Rattle.trial_world.specs.Tables.{AreLineRows}
use Rattle.trial_world.proofs.PartPlans.{on_err}
use Rattle.trial_world.proofs.TrialTables.{announcer_in, nothing_outside, rounds_now, stay, still_right}
use Rattle.trial_world.proofs.Watched.{inside_part}
use Rattle.trial_world.proofs.tables.LineTables.edit.Goals as goal

pub returns-in_err-room-clause-err : goal.returns-in_err-room-clause-err
returns-in_err-room-clause-err g c =
    on_err c.from_residual-in_err-room.result (stay c.args.fixed.now c.args.self.now c.args.self.now.rounds c.room.new.self (λ h. h) refl refl (λ r p a. refl) c.room.ensures.rows c.room.ensures.addr)

pub returns-in_err-plan-clause-err : goal.returns-in_err-plan-clause-err
returns-in_err-plan-clause-err g c =
    on_err c.from_residual-in_err-plan.result (stay c.args.fixed.now c.args.self.now c.plan.new.self c.room.new.self (λ h. c.in_err-plan.ensures.err) c.plan.ensures.stays.plan c.plan.ensures.stays.rounds c.plan.ensures.stays.kept c.room.ensures.rows c.room.ensures.addr)

pub plan-requires : goal.plan-requires
plan-requires g c =
    let f = c.args.fixed.now in
    let fixed = c.requires.fixed in
    let (old, had, are) = c.requires.from in
    record {
      closed = are.line.closed;
      few_cells = c.requires.few_cells;
      no_cycle = fixed.no_cycle;
      last = fixed.last;
      ranks = fixed.ranks_are;
      can_edit = λ e is. cc;
      announcers = λ p a h. announcer_in f fixed p a (ap (λ (x : Plan). announces x p a) (sym are.line.plan_is) ∙ h);
      entries = λ round p b low high known none free. nothing_outside f old c.args.self.now are round p b low high known none;
      right = λ r p b less known here free.
          still_right c.links_are_sound.ensures f old c.args.book.now c.args.before.now had c.args.self.now are c.in_ok-touched.touched c.in_ok-touched.ensures c.right_follows.ensures r p b less known here free;
    }

pub renew-requires-clause-line : goal.renew-requires-clause-line
renew-requires-clause-line g c =
    let (old, had, are) = c.requires.from in
    record {
      closed = c.commit-done.ensures.closed;
      plan_is = c.commit-done.ensures.plan ∙ c.in_ok-plan.ensures.planned.edited ∙ are.line.plan_is;
      count_is = c.commit-done.ensures.rounds ∙ c.plan.ensures.stays.rounds ∙ are.line.count_is;
    }

pub renew-requires-clause-inside : goal.renew-requires-clause-inside
renew-requires-clause-inside g c =
    let f = c.args.fixed.now in
    let (old, had, are) = c.requires.from in
    let stable = rounds_now f c.args.book.now c.args.self.now.rounds c.plan.new.self c.commit-done.new.self c.in_ok-plan.plan are.line c.in_ok-plan.ensures.planned.edited c.plan.ensures.stays.rounds c.commit-done.ensures.kept c.in_ok-plan.ensures.planned.stable in
    inside_part c.paths_go_on.ensures f.graph.now c.args.book.now f.states.payloads f.plan c.plans_are_sound.ensures f.round c.requires.fixed.from (kept c.commit-done.new.self) stable

pub renew-requires-clause-addr : goal.renew-requires-clause-addr
renew-requires-clause-addr g c = (let (old, had, are) = c.requires.from in c.room.ensures.addr ∙ are.addr)

pub renew-requires-clause-rows : goal.renew-requires-clause-rows
renew-requires-clause-rows g c =
    let f = c.args.fixed.now in
    let (old, had, are) = c.requires.from in
    record {
      held = kept c.args.self.now.rounds f.round;
      right = subst (AreLineRows f (kept c.args.self.now.rounds f.round)) (sym c.room.ensures.rows) are.rows;
      same = λ a free p.
          c.commit-done.ensures.kept f.round p a
          ∙ not_told c.plan.new.self c.in_ok-plan.plan f.round a (ases_told c.commit-done.result f.round)
          (c.commit-done.ensures.told f.round c.requires.fixed.from (let count : round_count c.commit-done.new.self ≡ f.round = c.commit-done.ensures.rounds ∙ c.plan.ensures.stays.rounds ∙ are.line.count_is in omega (arith, count)))
          (ap (occurs a) (sym c.changed_in-changed.ensures) ∙ free) p
          ∙ c.plan.ensures.stays.kept f.round p a;
    }

pub returns-clause-ok : goal.returns-clause-ok
returns-clause-ok g c =
    let f = c.args.fixed.now in
    let (old, had, are) = c.requires.from in
    record {
      line = record {
        closed = c.commit-done.ensures.closed;
        plan_is = c.commit-done.ensures.plan ∙ c.in_ok-plan.ensures.planned.edited ∙ are.line.plan_is;
        count_is = c.commit-done.ensures.rounds ∙ c.plan.ensures.stays.rounds ∙ are.line.count_is;
      };
      stable = rounds_now f c.args.book.now c.args.self.now.rounds c.plan.new.self c.commit-done.new.self c.in_ok-plan.plan are.line c.in_ok-plan.ensures.planned.edited c.plan.ensures.stays.rounds c.commit-done.ensures.kept c.in_ok-plan.ensures.planned.stable;
      addr = c.renew.ensures.addr;
      rows = c.renew.ensures.rows;
    }
