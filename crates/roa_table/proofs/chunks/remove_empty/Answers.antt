use Rattle.std.proofs.Common.{◌≡◌, ◌∙◌, ap, sym, subst, rules, length, eqb-true}
use Rattle.roa_table.specs.Chunks.{all_of, IsInOrder}
use Rattle.roa_table.proofs.Chunking.{remove_order, remove_same}
use Rattle.roa_table.proofs.chunks.remove_empty.Goals as goal

pub returns-then-is_empty-clause-order : goal.returns-then-is_empty-clause-order
returns-then-is_empty-clause-order c = subst IsInOrder (sym c.remove.ensures.items) (remove_order c.args.chunks.now.items c.args.k c.requires.order)

pub returns-then-is_empty-clause-same : goal.returns-then-is_empty-clause-same
returns-then-is_empty-clause-same c =
    let none : length c.index.result.now.vrps.items ≡ 0 = eqb-true (length c.index.result.now.vrps.items) 0 (search rules) in
    ap all_of c.remove.ensures.items ∙ remove_same c.args.chunks.now.items c.args.k c.index.result.now c.requires.inside c.index.ensures none
