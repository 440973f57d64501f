use Rattle.std.proofs.Common.{ℕ, List, subst, ◌≤◌, ◌∙◌, ap, sym}
use Rattle.std.proofs.lemmas.Result.{err_from_is_err_and}
use Rattle.as_graph.specs.Refusals.{IsBuildRefusal}
use Rattle.as_graph.specs.Topology.{Topology, as_count, unmarked}
use Rattle.as_graph.specs.declared.error.GraphError.{GraphError}
use Rattle.sim_core.specs.Loaded.{names_in}
use Rattle.sim_core.specs.Marking.{IsMarksRefusal, marked}
use Rattle.sim_core.proofs.Marks.{many_ends}
use Rattle.sim_core.proofs.naming.world_graph.Goals as goal

pub returns-in-Err-TooManyAses : goal.returns-in-Err-TooManyAses
returns-in-Err-TooManyAses c =
    let P : GraphError → Type 0 = λ e. IsBuildRefusal c.args.links.now e in
    many_ends (unmarked c.args.links.now) (names_in c.args.scenario.now) (subst P c.in-Err-TooManyAses.field-0-is c.in-Err-TooManyAses.ensures.refused)

pub returns : goal.returns
returns c = (c.in_ok-mark_all.ensures.ok ∙ ap (λ (g : Topology). marked g c.deref.result.now) c.in-Ok.ensures.ok ∙ ap (marked (unmarked c.args.links.now)) (c.deref.ensures.value ∙ c.in_ok-names.ensures), c.in_ok-mark_all.ensures.few (subst (λ (g : Topology). as_count g ≤ 150000) (sym c.in-Ok.ensures.ok) c.in-Ok.ensures.few))

pub returns-in_err-names : goal.returns-in_err-names
returns-in_err-names c =
    let p = err_from_is_err_and c.from_residual.result c.from_residual.ensures.1 in
    rw (p.1, p.2) tt

pub returns-in_err-mark_all : goal.returns-in_err-mark_all
returns-in_err-mark_all c =
    let p = err_from_is_err_and c.from_residual-in_err-mark_all.result c.from_residual-in_err-mark_all.ensures.1 in
    rw (p.1, p.2) (subst (λ (t : Topology × List ℕ). IsMarksRefusal t.0 t.1 c.in_err-mark_all.field-0.0) (λ i. (c.in-Ok.ensures.ok i, (c.deref.ensures.value ∙ c.in_ok-names.ensures) i)) c.in_err-mark_all.ensures.refused)
