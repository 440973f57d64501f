use Rattle.std.proofs.Common.{◌≡◌, ◌∙◌, true, Some, None, cond, refl, sym, ap, subst}
use Rattle.std.specs.FinSet as set
use Rattle.roa_table.specs.Sets.{Payloads, taken}
use Rattle.leak_round.specs.Touched.{touches}
use Rattle.scenario_text.specs.declared.acts.Edit.TheVariants.{VrpTake}
use Rattle.sim_core.specs.Editing.{ground_of}
use Rattle.sim_core.specs.Ground.{BelongTo, Ground}
use Rattle.sim_core.specs.declared.errors.EditError.TheVariants as refused
use Rattle.sim_core.proofs.Doing.{belongs, edit_done, unchanged}
use Rattle.sim_core.proofs.Grounds.{quick_done}
use Rattle.sim_core.proofs.Outcomes.{edit_refused, edit_unbegun}
use Rattle.sim_core.proofs.PayloadEdits.{reads_kind, payload_allowed, payload_differs, small_taken}
use Rattle.sim_core.proofs.parts.Parts.take_vrp.Goals as goal

pub change_at-requires-clause-from : goal.change_at-requires-clause-from
change_at-requires-clause-from g c =
    let s = c.args.self.now in
    let now : Ground = record { graph = s.graph; payloads = taken s.vrps c.args.vrp; book = s.book } in
    (ground_of s, belongs s c.requires.right c.requires.no_cycle, payload_differs (ground_of s) now s.rounds (touches c.in_ok-touched.touched) refl refl (λ p known a there reads. c.in_ok-touched.ensures.these p known a (s.reading a reads) reads))

pub change_at-requires-clause-stay : goal.change_at-requires-clause-stay
change_at-requires-clause-stay g c = λ _. (belongs c.args.self.now c.requires.right c.requires.no_cycle).ranks_are

pub returns : goal.returns
returns g c =
    let s = c.args.self.now in
    let mid = c.change_at.new.self in
    let e = VrpTake c.args.vrp in
    let is = c.in_ok-changed.ensures.changed in
    let vrps : c.take.new.self ≡ taken s.vrps c.args.vrp = c.take.ensures.gone ∙ ap (λ (v : Payloads). taken v c.args.vrp) is.vrps in
    record {
      edited = edit_done s _ e c.in_ok-changed.changed.routes
          (λ i. record { links = (is.graph i).links; payloads = vrps i; kinds = (is.book i).named; plan = is.plan i; rounds = is.count i; watched = set.from_list (ap (λ w. w.items) is.watched i) })
          (payload_allowed s e (taken s.vrps c.args.vrp) refl (ap (λ t. cond t None (Some (refused.AbsentVrp c.args.vrp))) (sym c.if-not-has.ensures)) (small_taken s.graph s.vrps c.args.vrp c.is_small.ensures) c.requires.no_cycle)
          (subst (λ (g : Ground). BelongTo g mid.ranks mid.rounds mid.watches.items) (λ i. record { graph = sym is.graph i; payloads = sym vrps i; book = sym is.book i }) is.belong)
          is.changed;
      quick = quick_done s s mid e (λ p a. touches c.in_ok-touched.touched p a ≡ true) c.args.steps.now c.change_at.new.steps c.in_ok-changed.ensures.quick refl is.graph
          (λ p x there. (let (covered, reads) = c.in_ok-touched.ensures.only p x there in (covered, reads_kind s x reads)));
    }

pub returns-in_err-touched : goal.returns-in_err-touched
returns-in_err-touched g c = edit_unbegun c.args.self.now _ c.from_residual.result _ _ c.from_residual.ensures.1

pub returns-in_err-changed : goal.returns-in_err-changed
returns-in_err-changed g c =
    edit_refused c.args.self.now _ _ refused.Memory c.from_residual-in_err-changed.result _ _ c.from_residual-in_err-changed.ensures.1 tt (unchanged c.args.self.now c.change_at.new.self c.in_err-changed.ensures.err)
