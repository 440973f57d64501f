use Rattle.std.proofs.Common.{◌≡◌, ◌∙◌, sym, ap, refl, subst, length, arith}
use Rattle.std.proofs.lemmas.Result.{err_from_is_err_and}
use Rattle.net_names.specs.LinkLists.{map_of, AreLinks}
use Rattle.net_names.proofs.LinkLemmas.{found, missed, changed, changed_map, inserted, inserted_map, counted, there}
use Rattle.net_names.proofs.links.Links.put.Goals as goal

pub invariant_of-self : goal.invariant_of-self
invariant_of-self c = changed c.self.inside.items.items c.as_slice.result.now c.as_slice.ensures.value c.self.invariant c.args.self.now c.self.view_is c.args.lo c.args.hi c.in-Ok.at c.index_mut.result.now c.index_mut.ensures.value c.args.rel (c.in-Ok.ensures.bound, c.in-Ok.ensures.position)

pub returns-in-Ok-clause-ok : goal.returns-in-Ok-clause-ok
returns-in-Ok-clause-ok c = changed_map c.self.inside.items.items c.as_slice.result.now c.as_slice.ensures.value c.self.invariant c.args.self.now c.self.view_is c.args.lo c.args.hi c.in-Ok.at c.index_mut.result.now c.index_mut.ensures.value c.args.rel (c.in-Ok.ensures.bound, c.in-Ok.ensures.position)

pub returns-then-len-eq-MOST_LINKS-clause-too_many : goal.returns-then-len-eq-MOST_LINKS-clause-too_many
returns-then-len-eq-MOST_LINKS-clause-too_many c =
    let n = counted c.self.inside.items.items c.self.invariant c.args.self.now c.self.view_is in
    let f = missed c.self.inside.items.items c.as_slice.result.now c.as_slice.ensures.value c.self.invariant c.args.self.now c.self.view_is c.args.lo c.args.hi c.in-Err.at (c.in-Err.ensures.bound, c.in-Err.ensures.position) in
    ((λ _. (f, omega (arith, n, c.len.ensures, c.if-len-eq-MOST_LINKS.true, c.self.inside.items.ok.0))), λ _. refl)

pub returns-in_err-insert-in-Err-clause-too_many : goal.returns-in_err-insert-in-Err-clause-too_many
returns-in_err-insert-in-Err-clause-too_many c =
    let n = counted c.self.inside.items.items c.self.invariant c.args.self.now c.self.view_is in
    let given = err_from_is_err_and c.from_residual.result c.from_residual.ensures.1 in
    ((λ e. absurd (cc (e, given.1, given.2))), λ p. absurd (c.if-len-eq-MOST_LINKS.false (omega (arith, n, p.1, c.len.ensures, c.self.inside.items.ok.0))))

pub returns-in-Ok-clause-too_many : goal.returns-in-Ok-clause-too_many
returns-in-Ok-clause-too_many c =
    let f = found c.self.inside.items.items c.as_slice.result.now c.as_slice.ensures.value c.self.invariant c.args.self.now c.self.view_is c.args.lo c.args.hi c.in-Ok.at c.index_mut.result.now (c.in-Ok.ensures.bound, c.in-Ok.ensures.position) in
    ((λ e. absurd (cc)), λ p. absurd (there c.args.self.now c.args.lo c.args.hi _ f p.0))

pub returns-in_ok-insert-in-Err-clause-too_many : goal.returns-in_ok-insert-in-Err-clause-too_many
returns-in_ok-insert-in-Err-clause-too_many c =
    let n = counted c.self.inside.items.items c.self.invariant c.args.self.now c.self.view_is in
    ((λ e. absurd (cc)), λ p. absurd (c.if-len-eq-MOST_LINKS.false (omega (arith, n, p.1, c.len.ensures, c.self.inside.items.ok.0))))

pub invariant_of-self-in-Err : goal.invariant_of-self-in-Err
invariant_of-self-in-Err c =
    let room : length c.self.inside.items.items ≡ 1500000 → ⊥ = λ e. c.if-len-eq-MOST_LINKS.false (omega (arith, e, c.len.ensures, c.self.inside.items.ok.0)) in
    subst AreLinks (sym c.in_ok-insert-in-Err.ensures.items) (inserted c.self.inside.items.items c.as_slice.result.now c.as_slice.ensures.value c.self.invariant c.args.self.now c.self.view_is c.args.lo c.args.hi c.in-Err.at c.args.rel c.requires (c.in-Err.ensures.bound, c.in-Err.ensures.position) room)

pub returns-in_ok-insert-in-Err-clause-ok : goal.returns-in_ok-insert-in-Err-clause-ok
returns-in_ok-insert-in-Err-clause-ok c =
    ap map_of c.in_ok-insert-in-Err.ensures.items ∙ inserted_map c.self.inside.items.items c.as_slice.result.now c.as_slice.ensures.value c.self.invariant c.args.self.now c.self.view_is c.args.lo c.args.hi c.in-Err.at c.args.rel c.requires (c.in-Err.ensures.bound, c.in-Err.ensures.position)
