use Rattle.std.proofs.Common.{ap, ◌∙◌, ◌||◌}
use Rattle.std.specs.BTreeSet as keys
use Rattle.dirty_recompute.specs.Spots.{key_cmp}
use Rattle.dirty_recompute.specs.Fews.{is_one}
use Rattle.dirty_recompute.proofs.FewLemmas.{many_next, nothing_in, one_next}
use Rattle.dirty_recompute.proofs.few.Few.pop.Goals as goal

pub returns-in-Some-clause-taken : goal.returns-in-Some-clause-taken
returns-in-Some-clause-taken c = λ rank was. (let alone = c.args.self.now.alone _ c.in-Some.is in one_next rank c.args.self.now _ _ c.in-Some.is alone (nothing_in c.args.self.now.many.keys alone) c.args.way was)

pub returns-in-Some-pop_of-clause-taken : goal.returns-in-Some-pop_of-clause-taken
returns-in-Some-pop_of-clause-taken c = λ rank was.
    many_next rank c.args.self.now (λ q. is_one rank c.args.self.now.one q || keys.contains key_cmp c.pop_of.new.many q) _ c.in-None.is c.in-Some-pop_of.ensures.member
    (λ q. ap (λ o. is_one rank o q || keys.contains key_cmp c.pop_of.new.many q) c.in-None.is ∙ c.in-Some-pop_of.ensures.updates.0 q) c.args.way c.in-Some-pop_of.ensures.next was
