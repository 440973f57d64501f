use Rattle.std.proofs.Common.{◌∙◌, ◌<◌, ◌≤◌, refl, sym, ap, subst}
use Rattle.std.specs.FinMap as fin
use Rattle.as_graph.specs.Edits.{with_link}
use Rattle.as_graph.specs.Refusals.{IsLinkRefusal}
use Rattle.as_graph.specs.Topology.{Topology, as_count, relation}
use Rattle.as_graph.specs.declared.error.GraphError.{GraphError}
use Rattle.net_names.proofs.Shared.{on_err}
use Rattle.sim_core.proofs.LinkEdits.{too_many_ases, too_many_links}
use Rattle.sim_core.proofs.PayloadEdits.{vrps_undone}
use Rattle.sim_core.proofs.parts.Parts.set_link.Goals as goal

pub returns-in-Err-TooManyLinks-clause-refused : goal.returns-in-Err-TooManyLinks-clause-refused
returns-in-Err-TooManyLinks-clause-refused c =
    let why = subst (λ (e : GraphError). IsLinkRefusal c.room_for.new.graph c.args.a c.args.b c.args.rel e) c.in-Err-TooManyLinks.field-0-is c.in-Err-TooManyLinks.ensures.refused in
    too_many_links c.args.self.now c.args.a c.args.b c.args.rel c.requires (ap (λ (t : Topology). relation t c.args.a c.args.b) (sym c.in_ok-room_for.ensures.ok) ∙ why.0)
    (subst (λ (t : Topology). 1500000 ≤ fin.len t.links) c.in_ok-room_for.ensures.ok why.1)

pub returns-in-Err-TooManyAses-clause-refused : goal.returns-in-Err-TooManyAses-clause-refused
returns-in-Err-TooManyAses-clause-refused c =
    let why = subst (λ (e : GraphError). IsLinkRefusal c.room_for.new.graph c.args.a c.args.b c.args.rel e) c.in-Err-TooManyAses.field-0-is c.in-Err-TooManyAses.ensures.refused in
    too_many_ases c.args.self.now c.args.a c.args.b c.args.rel c.requires (ap (λ (t : Topology). relation t c.args.a c.args.b) (sym c.in_ok-room_for.ensures.ok) ∙ why.0)
    (subst (λ (t : Topology). fin.len t.links < 1500000) c.in_ok-room_for.ensures.ok why.1)
    (subst (λ (t : Topology). 150000 < as_count (with_link t c.args.a c.args.b c.args.rel)) c.in_ok-room_for.ensures.ok why.2)

pub returns-in_err-room_for-clause-err : goal.returns-in_err-room_for-clause-err
returns-in_err-room_for-clause-err c = on_err c.from_residual.result (vrps_undone c.args.self.now _ (ap (λ (t : Topology). t.links) c.in_err-room_for.ensures.err) refl refl (record { ranks = refl; rounds = refl; watched = refl; watches = refl }))
