use Rattle.std.proofs.Common.{ap, slice_get, if◌then◌else◌, sym, ◌∙◌}
use Rattle.activations.specs.Named.{first_foreign_in}
use Rattle.as_graph.specs.Topology.{relation}
use Rattle.stability_laws.specs.Plans.{has_prefix}
use Rattle.message_sim.specs.Turns.{first_foreign_in as first_unlinked_in}
use Rattle.asprop_run.specs.Loaded.{loaded_world}
use Rattle.asprop_run.proofs.Acting.{outside_first, same_has}
use Rattle.asprop_run.proofs.Checked.{tables_first}
use Rattle.asprop_run.proofs.Delivered.{unlinked_first}
use Rattle.asprop_run.proofs.outside.first_outside.Goals as goal

pub returns-then-has_table : goal.returns-then-has_table
returns-then-has_table c =
    let w = loaded_world c.args.loaded.now in
    let acts = c.in-Some-Activations.acts.now in
    outside_first w c.args.jobs.now acts c.first_foreign.result (rw c.in-Some-Activations.field-0-is at c.in-Some-Activations.ensures.value) (sym c.has_table.ensures ∙ c.if-has_table.true)
    (c.first_foreign.ensures.value ∙ ap (λ there. first_foreign_in there acts.named) (same_has w c.graph.result.now c.graph.ensures))

pub returns-then-has_table-2 : goal.returns-then-has_table-2
returns-then-has_table-2 c =
    let w = loaded_world c.args.loaded.now in
    let d = c.in-Some-Messages.deliveries.now in
    unlinked_first w c.args.jobs.now d c.first_foreign-then-has_table-2.result (rw c.in-Some-Messages.field-0-is at c.in-Some-Messages.ensures.value) (sym c.has_table-in-Some-Messages.ensures ∙ c.if-has_table-2.true)
    (c.first_foreign-then-has_table-2.ensures ∙ ap (λ g. first_unlinked_in (relation g) d.steps) c.graph-then-has_table-2.ensures)

pub returns-in-Some-Tables : goal.returns-in-Some-Tables
returns-in-Some-Tables c =
    let t = c.in-Some-Tables.tables.now in
    tables_first (loaded_world c.args.loaded.now) c.args.jobs.now t c.first_outside.result (rw c.in-Some-Tables.field-0-is at c.in-Some-Tables.ensures.value)
    (c.first_outside.ensures ∙ (λ i. slice_get t.starts (if has_prefix (c.plan.ensures i) t.prefix then c.rounds.ensures i else 0)))
