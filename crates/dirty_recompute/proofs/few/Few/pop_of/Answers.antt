use Rattle.std.proofs.Common.{subst, sym}
use Rattle.std.specs.Prelude.{IfSome}
use Rattle.std.proofs.lemmas.Option.{IfSome_then}
use Rattle.std.specs.BTreeSet as keys
use Rattle.dirty_recompute.specs.Spots.{key_cmp}
use Rattle.dirty_recompute.specs.Fews.{IsNextKey}
use Rattle.dirty_recompute.proofs.FewLemmas.{next_least, next_greatest}
use Rattle.dirty_recompute.proofs.few.Few.pop_of.Goals as goal

pub returns-in-Up-clause-next : goal.returns-in-Up-clause-next
returns-in-Up-clause-next c =
    subst (λ way. IfSome c.pop_first.result (IsNextKey way (keys.contains key_cmp c.args.many.now))) (sym c.in-Up.is) (IfSome_then c.pop_first.result c.pop_first.ensures.least (next_least c.args.many.now))

pub returns-in-Down-clause-next : goal.returns-in-Down-clause-next
returns-in-Down-clause-next c =
    subst (λ way. IfSome c.pop_last.result (IsNextKey way (keys.contains key_cmp c.args.many.now))) (sym c.in-Down.is) (IfSome_then c.pop_last.result c.pop_last.ensures.greatest (next_greatest c.args.many.now))
