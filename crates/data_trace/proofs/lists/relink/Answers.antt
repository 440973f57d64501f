use Rattle.std.proofs.Common.{◌+◌, List, ℕ, drop, subst}
use Rattle.std.proofs.lemmas.List.{drop_more}
use Rattle.data_trace.specs.Lists.{HasLists}
use Rattle.data_trace.proofs.Joining.{apart_later}
use Rattle.data_trace.proofs.lists.relink.Goals as goal

pub roots-preserved : goal.roots-preserved
roots-preserved c =
    let xs : List ℕ = c.args.roots.now in
    let i : ℕ = c.roots.a-index in
    c.join.ensures (drop (i + 1) xs) (subst (λ q. HasLists c.args.hops.now q c.roots.first c.roots.before c.roots.after) (drop_more xs i 0 c.roots-test.true) c.roots.invariant)
    (apart_later xs i c.requires.distinct c.roots-test.true)
