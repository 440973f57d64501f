use Rattle.std.proofs.Common.{not, sym, ap, ◌∙◌, refl, arith}
use Rattle.std.proofs.lemmas.Result.{err_from_is_err_and}
use Rattle.net_names.specs.Orders.{vrp_total, exact_vrp}
use Rattle.roa_table.proofs.Rising.{insert_there}
use Rattle.roa_table.proofs.Tabled.{count_is, added_table}
use Rattle.roa_table.proofs.table.Vrps.add.Goals as goal

pub returns-then-known-clause-ok : goal.returns-then-known-clause-ok
returns-then-known-clause-ok c = sym (insert_there vrp_total exact_vrp c.args.self.now c.args.vrp (sym c.if-known.ensures))

pub returns-then-known-clause-is_new : goal.returns-then-known-clause-is_new
returns-then-known-clause-is_new c = ap not c.if-known.ensures

pub returns-then-known-clause-too_many : goal.returns-then-known-clause-too_many
returns-then-known-clause-too_many c = ((λ e. cc e), λ p. cc (p.0, c.if-known.ensures))

pub returns-then-count-ge-MOST_PAYLOADS-clause-too_many : goal.returns-then-count-ge-MOST_PAYLOADS-clause-too_many
returns-then-count-ge-MOST_PAYLOADS-clause-too_many c = ((λ e. (sym c.if-known.ensures, sym (count_is c.self.inside.chunks.items c.self.inside.count c.self.invariant c.args.self.now c.self.view_is) ∙ omega (arith, c.self.invariant.bound))), λ p. refl)

pub invariant_of-self-2 : goal.invariant_of-self-2
invariant_of-self-2 c = added_table c.self.inside.chunks.items c.self.inside.count c.self.invariant c.args.self.now c.self.view_is c.put.new.chunks.items c.in_ok-put.ensures.order c.args.vrp c.max.ensures.sound c.in_ok-put.ensures.ok (sym c.if-known.ensures) (omega arith)

pub returns-clause-is_new : goal.returns-clause-is_new
returns-clause-is_new c = ap not c.if-known.ensures

pub returns-clause-too_many : goal.returns-clause-too_many
returns-clause-too_many c = ((λ e. cc e), λ p. absurd (omega (arith, count_is c.self.inside.chunks.items c.self.inside.count c.self.invariant c.args.self.now c.self.view_is, p.1)))

pub returns-in_err-put-clause-too_many : goal.returns-in_err-put-clause-too_many
returns-in_err-put-clause-too_many c =
    let given = err_from_is_err_and c.from_residual.result c.from_residual.ensures.1 in
    ((λ e. absurd (cc (e, given.1, given.2))), λ p. absurd (omega (arith, count_is c.self.inside.chunks.items c.self.inside.count c.self.invariant c.args.self.now c.self.view_is, p.1)))
