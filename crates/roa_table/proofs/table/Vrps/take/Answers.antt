use Rattle.std.proofs.Common.{◌-◌, cond, sym, ap, ◌∙◌}
use Rattle.roa_table.proofs.Tabled.{has_is, taken_table, some_there}
use Rattle.roa_table.proofs.table.Vrps.take.Goals as goal

pub overflow_sub-self : goal.overflow_sub-self
overflow_sub-self c = some_there c.self.inside.chunks.items c.self.inside.count c.self.invariant c.args.self.now c.self.view_is c.args.vrp (sym (has_is c.self.inside.chunks.items c.self.inside.count c.self.invariant c.args.self.now c.self.view_is c.args.vrp) ∙ sym c.if-found.ensures.found)

pub invariant_of-self : goal.invariant_of-self
invariant_of-self c = taken_table c.self.inside.chunks.items c.self.inside.count c.self.invariant c.args.self.now c.self.view_is c.take-found.new.chunks.items c.if-found.ensures.order c.args.vrp c.if-found.ensures.gone _
    (ap (λ b. cond b (c.self.inside.count - 1) c.self.inside.count) (c.if-found.ensures.found ∙ has_is c.self.inside.chunks.items c.self.inside.count c.self.invariant c.args.self.now c.self.view_is c.args.vrp))

pub invariant_of-self-else-found : goal.invariant_of-self-else-found
invariant_of-self-else-found c = taken_table c.self.inside.chunks.items c.self.inside.count c.self.invariant c.args.self.now c.self.view_is c.take-found.new.chunks.items c.if-found.ensures.order c.args.vrp c.if-found.ensures.gone _
    (ap (λ b. cond b (c.self.inside.count - 1) c.self.inside.count) (c.if-found.ensures.found ∙ has_is c.self.inside.chunks.items c.self.inside.count c.self.invariant c.args.self.now c.self.view_is c.args.vrp))

pub returns-then-found-clause-found : goal.returns-then-found-clause-found
returns-then-found-clause-found c = c.if-found.true ∙ c.if-found.ensures.found ∙ has_is c.self.inside.chunks.items c.self.inside.count c.self.invariant c.args.self.now c.self.view_is c.args.vrp

pub returns-else-found-clause-found : goal.returns-else-found-clause-found
returns-else-found-clause-found c = c.if-found.false ∙ c.if-found.ensures.found ∙ has_is c.self.inside.chunks.items c.self.inside.count c.self.invariant c.args.self.now c.self.view_is c.args.vrp
