use Rattle.std.proofs.Common.{◌≡◌, ◌++◌, ◌+◌, ◌∷◌, [], ℕ, List, length, sym, ap, subst, arith, ◌∙◌}
use Rattle.as_graph.specs.Topology.{relation}
use Rattle.cycle_check.specs.Providers.{AreFilled}
use Rattle.cycle_check.proofs.Filling.{filled_first, filled_more}
use Rattle.cycle_check.proofs.provider_rows.filled.Goals as goal

pub loop-place-init : goal.loop-place-init
loop-place-init c =
    let w = relation c.args.graph.now in
    let ases = c.args.ases.now in
    let starts : c.push.new.list.items ≡ 0 ∷ [] = c.in_ok-push.ensures ∙ ap (λ (xs : List ℕ). xs ++ 0 ∷ []) c.new-starts.ensures.items in
    subst (λ xs. AreFilled w ases xs c.new-items.result.items 0) (sym starts) (subst (λ xs. AreFilled w ases (0 ∷ []) xs 0) (sym c.new-items.ensures.items) (filled_first w ases))

pub loop-place-preserved : goal.loop-place-preserved
loop-place-preserved c =
    let w = relation c.args.graph.now in
    let ases = c.args.ases.now in
    let n = c.loop-place.place in
    let starts = c.loop-place.starts.items in
    let items = c.loop-place.items.items in
    let new = c.put_row.new.items in
    let e = c.len.result in
    let (ps, are, at) = c.in_ok-put_row.ensures in
    let end : e ≡ length (items ++ ps) = omega (arith, c.len.ensures, new.ok.0, ap length are) in
    let more = filled_more w ases starts items ps n e c.loop-place.invariant end c.in_ok-put_end.ensures.small at in
    subst (λ xs. AreFilled w ases xs new.items (n + 1)) (sym c.in_ok-put_end.ensures.end) (subst (λ xs. AreFilled w ases (starts ++ e ∷ []) xs (n + 1)) (sym are) more)
