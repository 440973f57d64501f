use Rattle.std.proofs.Common.{◌≡◌, None, drop, ap, sym, ◌∙◌}
use Rattle.std.proofs.lemmas.List.{drop_all}
use Rattle.as_graph.specs.Topology.{has}
use Rattle.activations.specs.Named.{first_foreign_in}
use Rattle.activations.proofs.Sound.{none_foreign}
use Rattle.activations.proofs.acts.NamedAses.first_foreign.Goals as goal

pub returns-clause-none : goal.returns-clause-none
returns-clause-none c =
    let items = c.as_slice-line-items.result.now in
    let first = first_foreign_in (has c.args.graph.now) in
    let past : first (drop c.loop-line.line-index items) ≡ None = ap first (drop_all c.loop-line.line-index items c.loop-line-test.false) in
    none_foreign (has c.args.graph.now) c.args.self.now (sym (sym c.loop-line.invariant ∙ past) ∙ ap first (c.as_slice-line-items.ensures.value ∙ c.self.view_is))
