use Rattle.std.proofs.Common.{sym, None, subst, refl}
use Rattle.as_graph.specs.Rows.{IsRising, SetsRel}
use Rattle.as_graph.proofs.RowLemmas.{rel_in-gap}
use Rattle.as_graph.proofs.RowEdits.{sets_only_remove, sorted_remove}
use Rattle.as_graph.proofs.row.Row.take.Goals as goal

pub invariant_of-self : goal.invariant_of-self
invariant_of-self c = record { rising = subst IsRising (sym c.remove-gone.ensures.items) (sorted_remove c.args.self.now.neighbours.items c.args.self.now.rising c.args.asn c.in-Ok.at c.in-Ok.ensures.found) }

pub returns-in-Ok-clause-sets : goal.returns-in-Ok-clause-sets
returns-in-Ok-clause-sets c =
    subst (λ m. SetsRel c.args.self.now.neighbours.items m c.args.asn None) (sym c.remove-gone.ensures.items)
    (sets_only_remove c.args.self.now.neighbours.items c.args.self.now.rising c.args.asn c.in-Ok.at c.in-Ok.ensures.found)

pub returns-in-Err-clause-sets : goal.returns-in-Err-clause-sets
returns-in-Err-clause-sets c = record { this = rel_in-gap c.args.self.now.neighbours.items c.args.asn c.in-Err.field-0 c.in-Err.ensures.absent; others = λ k o. refl }

pub returns-in-Err-clause-freed : goal.returns-in-Err-clause-freed
returns-in-Err-clause-freed c = λ some. absurd (some (rel_in-gap c.args.self.now.neighbours.items c.args.asn c.in-Err.field-0 c.in-Err.ensures.absent))
