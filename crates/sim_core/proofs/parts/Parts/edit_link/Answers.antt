use Rattle.std.proofs.Common.{◌≡◌, ◌∙◌, ◌⊎◌, inl, inr, None, Some, option_map, refl, sym, ap}
use Rattle.net_names.specs.Links.{LinkMap}
use Rattle.as_graph.specs.Topology.{Topology, relation}
use Rattle.scenario_text.specs.declared.acts.Edit.TheVariants.{Link}
use Rattle.sim_core.specs.Edits.{passed_limit, refusal_of_edit}
use Rattle.sim_core.specs.Views.{world_seen}
use Rattle.sim_core.specs.World.{graph_of}
use Rattle.sim_core.specs.declared.errors.EditError.TheVariants as refused
use Rattle.sim_core.proofs.Doing.{small_world}
use Rattle.sim_core.proofs.LinkEdits.{back_linked, fits_any, if_none_any, link_begun, link_stays, link_stopped, linked_now, links_undone, links_world, there_none}
use Rattle.sim_core.proofs.Outcomes.{changed_quickly, edit_refused}
use Rattle.sim_core.proofs.parts.Parts.edit_link.Goals as goal

pub change_linked-requires-clause-there : goal.change_linked-requires-clause-there
change_linked-requires-clause-there g c =
    there_none c.link_laws.ensures.sound c.link_laws.ensures.set c.link_laws.ensures.taken c.args.self.now c.set_link.new.self c.args.a c.args.b c.args.rel c.requires.apart c.args.a c.args.b (inl (refl, refl)) c.in_ok-set_link.ensures.ok c.requires.editable.no_cycle

pub change_linked-requires-clause-back : goal.change_linked-requires-clause-back
change_linked-requires-clause-back g c =
    there_none c.link_laws.ensures.sound c.link_laws.ensures.set c.link_laws.ensures.taken c.args.self.now c.set_link.new.self c.args.a c.args.b c.args.rel c.requires.apart c.args.b c.args.a (inr (refl, refl)) c.in_ok-set_link.ensures.ok c.requires.editable.no_cycle

pub change_linked-requires-clause-from : goal.change_linked-requires-clause-from
change_linked-requires-clause-from g c =
    link_begun c.link_laws.ensures.set c.link_laws.ensures.taken c.link_laws.ensures.kept c.args.self.now c.set_link.new.self c.args.a c.args.b (Some c.args.rel) c.requires.editable.right c.requires.editable.no_cycle c.requires.apart c.in_ok-set_link.ensures.ok

pub change_linked-requires-clause-stay : goal.change_linked-requires-clause-stay
change_linked-requires-clause-stay g c =
    let old = c.args.self.now in
    let mid = c.set_link.new.self in
    let laws = c.link_laws.ensures in
    link_stays laws.set laws.taken laws.kept laws.stay old mid c.args.a c.args.b (Some c.args.rel) c.requires.editable.right c.requires.editable.no_cycle c.requires.apart c.in_ok-set_link.ensures.ok c.rel-old.result (Some c.args.rel) c.rel-old.ensures
    (linked_now laws.set old mid c.args.a c.args.b c.args.rel c.requires.apart c.in_ok-set_link.ensures.ok) c.bear-kept.result c.bear-kept.ensures.0

pub returns-in-Ok : goal.returns-in-Ok
returns-in-Ok g c =
    let old = c.args.self.now in
    let mid = c.set_link.new.self in
    let h = c.in_ok-set_link.ensures.ok in
    changed_quickly old mid c.change_linked.new.self (Link c.args.a c.args.b c.args.rel) c.in-Ok.changed (λ p x. (x ≡ c.args.a) ⊎ (x ≡ c.args.b)) c.args.steps.now c.change_linked.new.steps (links_world old mid c.args.a c.args.b _ h) h.rest
    refl (small_world mid c.is_small.ensures) c.in-Ok.ensures.no_cycle c.in-Ok.ensures.changed c.in-Ok.ensures.quick (λ p x there. there)

pub set_back-requires-clause-there : goal.set_back-requires-clause-there
set_back-requires-clause-there g c = if_none_any c.rel-old.result (λ none. (let no : None ≡ Some c.args.rel = sym none ∙ (ap (λ (t : Topology). relation t c.args.a c.args.b) c.in-Err.ensures.err.graph ∙ linked_now c.link_laws.ensures.set c.args.self.now c.set_link.new.self c.args.a c.args.b c.args.rel c.requires.apart c.in_ok-set_link.ensures.ok) in cc))

pub set_back-requires-clause-fits : goal.set_back-requires-clause-fits
set_back-requires-clause-fits g c = fits_any c.change_linked.new.self.graph c.args.a c.args.b c.args.rel (ap (λ (t : Topology). relation t c.args.a c.args.b) c.in-Err.ensures.err.graph ∙ linked_now c.link_laws.ensures.set c.args.self.now c.set_link.new.self c.args.a c.args.b c.args.rel c.requires.apart c.in_ok-set_link.ensures.ok) c.rel-old.result

pub returns-in-Err : goal.returns-in-Err
returns-in-Err g c =
    let e = Link c.args.a c.args.b c.args.rel in
    let old = c.args.self.now in
    let mid = c.set_link.new.self in
    let same = c.change_linked.new.self in
    let h = c.in_ok-set_link.ensures.ok in
    let alike = c.in-Err.ensures.err in
    let world = links_world old mid c.args.a c.args.b _ h in
    let accepted : refusal_of_edit (world_seen old) e ≡ None = ap (option_map refused.Limit) (ap passed_limit (sym world) ∙ small_world mid c.is_small.ensures) in
    let refusal = link_stopped (world_seen old) mid.graph c.args.a c.args.b c.args.rel c.in-Err.error accepted (ap (λ (l : LinkMap). relation (graph_of l mid.graph.marked)) h.are) c.in-Err.ensures.refused in
    let undone = links_undone old mid same c.set_back.new.self c.args.a c.args.b _ _ h alike c.set_back.ensures
    (back_linked c.link_laws.ensures.undone old.graph c.args.a c.args.b c.args.rel c.requires.apart same.graph (ap (λ (t : Topology). t.links) alike.graph ∙ h.are) c.rel-old.result (sym c.rel-old.ensures)) in
    record { edited = (refusal, undone); quick = tt }

pub returns-in_err-set_link : goal.returns-in_err-set_link
returns-in_err-set_link g c =
    edit_refused c.args.self.now _ _ c.in_err-set_link.field-0.0 c.from_residual.result _ _ c.from_residual.ensures.1 c.in_err-set_link.ensures.refused c.in_err-set_link.ensures.err
