use Rattle.std.proofs.Common.{length, nat_eq, ap, subst, arith}
use Rattle.std.specs.List.{IsDistinct}
use Rattle.route_choice.specs.Slots.{Slots, keys}
use Rattle.route_choice.specs.Beside.{beside_entries}
use Rattle.route_choice.proofs.RowLemmas.{whole_length, whole_apart}
use Rattle.route_choice.proofs.slots.Slots.len.Goals as goal

pub returns-clause-count : goal.returns-clause-count
returns-clause-count c =
    let whole = whole_length c.self.inside.rows.items (beside_entries c.self.inside.beside) in
    let seen = ap (λ (v : Slots). length v.entries) c.self.view_is in
    omega (arith, whole, seen, c.len.ensures, c.len-2.ensures.len, c.self.inside.rows.ok.0)

pub returns-clause-apart : goal.returns-clause-apart
returns-clause-apart c =
    subst (λ (v : Slots). IsDistinct nat_eq (keys v)) c.self.view_is (whole_apart c.self.invariant)
