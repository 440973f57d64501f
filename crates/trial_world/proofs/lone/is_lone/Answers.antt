use Rattle.std.proofs.Common.{◌∙◌, length, sym, eqb-true, true≢false}
use Rattle.std.proofs.lemmas.Bool.{eq-eqb}
use Rattle.trial_world.proofs.LoneAses.{lone_if, not_lone}
use Rattle.trial_world.proofs.lone.is_lone.Goals as goal

pub returns-then-is_empty : goal.returns-then-is_empty
returns-then-is_empty c = lone_if c.args.graph.now c.args.plan.now c.links_stand_lower_first.ensures c.args.asn c.neighbours.result.now c.neighbours.ensures (eqb-true (length c.neighbours.result.now) 0 (sym c.is_empty.ensures ∙ c.if-is_empty.true)) c.names.ensures

pub returns-else-is_empty : goal.returns-else-is_empty
returns-else-is_empty c = c.if-is_empty.false ∙ not_lone c.args.graph.now c.args.plan.now c.args.asn c.neighbours.result.now c.neighbours.ensures (λ e. true≢false (sym (eq-eqb (length c.neighbours.result.now) 0 e) ∙ sym c.is_empty.ensures ∙ c.if-is_empty.false))
