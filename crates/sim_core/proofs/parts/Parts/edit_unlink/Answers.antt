use Rattle.std.proofs.Common.{◌≡◌, ◌∙◌, ◌⊎◌, min, max, None, sym, ap}
use Rattle.std.specs.Prelude.{IfSome}
use Rattle.as_graph.specs.Topology.{Topology, relation}
use Rattle.scenario_text.specs.declared.acts.Edit.TheVariants.{Unlink}
use Rattle.sim_core.specs.declared.errors.EditError.TheVariants.{AbsentLink}
use Rattle.sim_core.proofs.Doing.{small_world}
use Rattle.sim_core.proofs.LinkEdits.{absent_cut, back_any, cut_apart, cut_no_cycle, cut_none, fits_back, if_none_some, link_begun, link_stays, links_undone, links_world}
use Rattle.as_graph.specs.Refusals.{IsLinkRefusal}
use Rattle.as_graph.specs.declared.error.GraphError.{GraphError}
use Rattle.sim_core.proofs.Outcomes.{changed_quickly, edit_refused}
use Rattle.sim_core.proofs.parts.Parts.edit_unlink.Goals as goal

pub change_ends-requires-clause-no_cycle : goal.change_ends-requires-clause-no_cycle
change_ends-requires-clause-no_cycle g c = cut_no_cycle c.link_laws.ensures.sound c.link_laws.ensures.set c.link_laws.ensures.taken c.args.self.now c.cut_link.new.self c.args.a c.args.b c.in_ok-cut_link.ensures.ok c.requires.no_cycle

pub change_ends-requires-clause-from : goal.change_ends-requires-clause-from
change_ends-requires-clause-from g c =
    link_begun c.link_laws.ensures.set c.link_laws.ensures.taken c.link_laws.ensures.kept c.args.self.now c.cut_link.new.self c.args.a c.args.b None c.requires.right c.requires.no_cycle
    (cut_apart c.link_laws.ensures.sound c.args.self.now c.args.a c.args.b c.in_ok-cut_link.ensures.there) c.in_ok-cut_link.ensures.ok

pub change_ends-requires-clause-stay : goal.change_ends-requires-clause-stay
change_ends-requires-clause-stay g c =
    let old = c.args.self.now in
    let mid = c.cut_link.new.self in
    let laws = c.link_laws.ensures in
    link_stays laws.set laws.taken laws.kept laws.stay old mid c.args.a c.args.b None c.requires.right c.requires.no_cycle (cut_apart laws.sound old c.args.a c.args.b c.in_ok-cut_link.ensures.there) c.in_ok-cut_link.ensures.ok c.rel-link.result None c.rel-link.ensures
    (cut_none laws.taken old mid c.args.a c.args.b c.in_ok-cut_link.ensures.ok) c.bear-kept.result c.bear-kept.ensures.0

pub returns-in-Ok : goal.returns-in-Ok
returns-in-Ok g c =
    let old = c.args.self.now in
    let mid = c.cut_link.new.self in
    let h = c.in_ok-cut_link.ensures.ok in
    let link = relation old.graph c.args.a c.args.b in
    let none = cut_no_cycle c.link_laws.ensures.sound c.link_laws.ensures.set c.link_laws.ensures.taken old mid c.args.a c.args.b h c.requires.no_cycle in
    changed_quickly old mid c.change_ends.new.self (Unlink c.args.a c.args.b) c.in-Ok.changed (λ p x. (x ≡ c.args.a) ⊎ (x ≡ c.args.b)) c.args.steps.now c.change_ends.new.steps (links_world old mid c.args.a c.args.b _ h) h.rest
    (absent_cut link (AbsentLink (min c.args.a c.args.b) (max c.args.a c.args.b)) c.in_ok-cut_link.ensures.there) (small_world mid c.is_small-2.ensures) none c.in-Ok.ensures.changed c.in-Ok.ensures.quick
    (λ p x there. there)

pub set_back-requires-clause-apart : goal.set_back-requires-clause-apart
set_back-requires-clause-apart g c = cut_apart c.link_laws.ensures.sound c.args.self.now c.args.a c.args.b c.in_ok-cut_link.ensures.there

pub set_back-requires-clause-there : goal.set_back-requires-clause-there
set_back-requires-clause-there g c = if_none_some _ c.rel-link.result (relation c.args.self.now.graph c.args.a c.args.b) c.in_ok-cut_link.ensures.there (sym c.rel-link.ensures)

pub set_back-requires-clause-fits : goal.set_back-requires-clause-fits
set_back-requires-clause-fits g c =
    let old = c.args.self.now in
    let mid = c.cut_link.new.self in
    let alike = c.in-Err.ensures.err in
    let there = c.in_ok-cut_link.ensures.there in
    coe 1 0 (i. IfSome c.rel-link.result (λ r. (e : GraphError) → IsLinkRefusal (alike.graph i) c.args.a c.args.b r e → ⊥))
    (fits_back c.link_laws.ensures.undone old mid c.args.a c.args.b (cut_apart c.link_laws.ensures.sound old c.args.a c.args.b there) c.in_ok-cut_link.ensures.ok (cut_none c.link_laws.ensures.taken old mid c.args.a c.args.b c.in_ok-cut_link.ensures.ok) c.is_small.ensures c.rel-link.result (sym c.rel-link.ensures))

pub returns-in-Err : goal.returns-in-Err
returns-in-Err g c =
    let old = c.args.self.now in
    let mid = c.cut_link.new.self in
    let same = c.change_ends.new.self in
    let h = c.in_ok-cut_link.ensures.ok in
    let alike = c.in-Err.ensures.err in
    let there = c.in_ok-cut_link.ensures.there in
    let undone = links_undone old mid same c.set_back.new.self c.args.a c.args.b _ _ h alike c.set_back.ensures
    (back_any c.link_laws.ensures.undone old.graph c.args.a c.args.b (cut_apart c.link_laws.ensures.sound old c.args.a c.args.b there) same.graph (ap (λ (t : Topology). t.links) alike.graph ∙ h.are) there c.rel-link.result (sym c.rel-link.ensures)) in
    record { edited = (tt, undone); quick = tt }

pub returns-in_err-cut_link : goal.returns-in_err-cut_link
returns-in_err-cut_link g c =
    edit_refused c.args.self.now _ _ c.in_err-cut_link.field-0.0 c.from_residual.result _ _ c.from_residual.ensures.1 c.in_err-cut_link.ensures.refused c.in_err-cut_link.ensures.err
