use Rattle.std.proofs.Common.{◌≡◌, true, refl}
use Rattle.leak_round.specs.Touched.{touches}
use Rattle.scenario_text.specs.declared.acts.Edit.TheVariants.{Policy}
use Rattle.sim_core.specs.Editing.{ground_of}
use Rattle.sim_core.specs.declared.errors.EditError.TheVariants as refused
use Rattle.sim_core.proofs.Doing.{begun_belongs, small_world}
use Rattle.sim_core.proofs.Given.{touched_policy, back_accepted, begun_rest, begun_world, given_no_cycle, given_stays, policy_differs, policy_refused, policy_undone, still_room}
use Rattle.sim_core.proofs.Outcomes.{changed_quickly, edit_refused, edit_unbegun}
use Rattle.sim_core.proofs.parts.Parts.edit_policy.Goals as goal

pub change_at-requires-clause-no_cycle : goal.change_at-requires-clause-no_cycle
change_at-requires-clause-no_cycle g c = given_no_cycle c.args.self.now c.make_room.new.self c.give.new.self c.args.asn c.args.kind c.in_ok-make_room.ensures.ok c.in_ok-give.ensures.ok c.requires.no_cycle

pub change_at-requires-clause-from : goal.change_at-requires-clause-from
change_at-requires-clause-from g c =
    let old = c.args.self.now in
    let mid = c.make_room.new.self in
    let new = c.give.new.self in (
      ground_of old,
      begun_belongs old new c.requires.right c.requires.no_cycle (begun_rest old mid new c.args.asn c.args.kind c.in_ok-make_room.ensures.ok c.in_ok-give.ensures.ok),
      policy_differs c.links_are_sound.ensures old mid new c.args.asn c.args.kind (touches c.in_ok-touched.touched) c.in_ok-make_room.ensures.ok c.in_ok-give.ensures.ok c.in_ok-touched.ensures.own c.in_ok-touched.ensures.neighbours,
    )

pub change_at-requires-clause-stay : goal.change_at-requires-clause-stay
change_at-requires-clause-stay g c =
    given_stays c.args.self.now c.make_room.new.self c.give.new.self c.args.asn c.args.kind c.in_ok-make_room.ensures.ok c.in_ok-give.ensures.ok c.requires.right c.requires.no_cycle _

pub returns-in-Ok : goal.returns-in-Ok
returns-in-Ok g c =
    let old = c.args.self.now in
    let mid = c.make_room.new.self in
    let given = c.give.new.self in
    let roomed = c.in_ok-make_room.ensures.ok in
    let is = c.in_ok-give.ensures.ok in
    changed_quickly old given c.change_at.new.self (Policy c.args.asn c.args.kind) c.in-Ok.changed (λ p x. touches c.in_ok-touched.touched p x ≡ true) c.args.steps.now c.change_at.new.steps (begun_world old mid given c.args.asn c.args.kind roomed is) (begun_rest old mid given c.args.asn c.args.kind roomed is)
    refl (small_world given c.is_small-2.ensures) (given_no_cycle old mid given c.args.asn c.args.kind roomed is c.requires.no_cycle) c.in-Ok.ensures.changed c.in-Ok.ensures.quick
    (λ p x there. touched_policy old c.args.asn c.args.kind p x (c.in_ok-touched.ensures.only p x there))

pub give_back-requires-clause-room : goal.give_back-requires-clause-room
give_back-requires-clause-room g c = still_room c.args.self.now c.make_room.new.self c.give.new.self c.change_at.new.self c.args.asn c.args.kind c.kind_of-was.result c.kind_of-was.ensures c.in_ok-make_room.ensures.ok c.in_ok-give.ensures.ok c.in-Err.ensures.err

pub give_back-requires-clause-fits : goal.give_back-requires-clause-fits
give_back-requires-clause-fits g c e refusal =
    back_accepted c.args.self.now c.make_room.new.self c.give.new.self c.change_at.new.self c.args.asn c.args.kind c.kind_of-was.result e c.kind_of-was.ensures c.is_small.ensures c.in_ok-make_room.ensures.ok c.in_ok-give.ensures.ok c.in-Err.ensures.err refusal

pub returns : goal.returns
returns g c = record {
  edited = (tt, policy_undone c.args.self.now c.make_room.new.self c.give.new.self c.change_at.new.self c.give_back.new.self c.args.asn c.args.kind c.kind_of-was.result c.kind_of-was.ensures c.in_ok-make_room.ensures.ok c.in_ok-give.ensures.ok c.in-Err.ensures.err c.give_back.ensures);
  quick = tt;
}

pub returns-in_err-touched : goal.returns-in_err-touched
returns-in_err-touched g c = edit_unbegun c.args.self.now _ c.from_residual.result _ _ c.from_residual.ensures.1

pub returns-in_err-make_room : goal.returns-in_err-make_room
returns-in_err-make_room g c = edit_refused c.args.self.now _ _ refused.Memory c.from_residual-in_err-make_room.result _ _ c.from_residual-in_err-make_room.ensures.1 tt c.in_err-make_room.ensures.err

pub returns-in_err-give : goal.returns-in_err-give
returns-in_err-give g c =
    let e = c.in_err-give.field-0.0 in
    let why = policy_refused c.args.self.now c.make_room.new.self c.give.new.self c.args.asn c.args.kind e c.in_ok-make_room.ensures.ok c.in_err-give.ensures.refused c.in_err-give.ensures.err in
    edit_refused c.args.self.now _ _ e c.from_residual-in_err-give.result _ _ c.from_residual-in_err-give.ensures.1 why.0 why.1
