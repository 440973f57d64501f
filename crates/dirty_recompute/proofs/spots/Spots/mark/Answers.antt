use Rattle.std.proofs.Common.{rules}
use Rattle.dirty_recompute.proofs.CrowdLemmas.{mark_made, was_there}
use Rattle.dirty_recompute.proofs.SpotLemmas.{marked_apart, marked_rising, marked_within}
use Rattle.dirty_recompute.proofs.spots.Spots.mark.Goals as goal

pub returns : goal.returns
returns c = mark_made _ c.args.at _ c.args.waits c.index_mut.ensures.value

pub invariant_of-self-clause-apart : goal.invariant_of-self-clause-apart
invariant_of-self-clause-apart c =
    marked_apart _ _ c.args.at c.args.waits _ (was_there _ c.args.at _ c.args.waits c.index_mut.ensures.value c.requires) (mark_made _ c.args.at _ c.args.waits c.index_mut.ensures.value) c.args.self.now.apart

pub invariant_of-self-clause-rising : goal.invariant_of-self-clause-rising
invariant_of-self-clause-rising c =
    marked_rising _ _ c.args.at c.args.waits _ (was_there _ c.args.at _ c.args.waits c.index_mut.ensures.value c.requires) (mark_made _ c.args.at _ c.args.waits c.index_mut.ensures.value) c.args.self.now.rising

pub invariant_of-self-clause-within : goal.invariant_of-self-clause-within
invariant_of-self-clause-within c =
    marked_within _ _ c.args.at c.args.waits _ (was_there _ c.args.at _ c.args.waits c.index_mut.ensures.value c.requires) (mark_made _ c.args.at _ c.args.waits c.index_mut.ensures.value) c.args.self.now.low c.args.self.now.high _ _ c.args.self.now.within (search rules) (search rules) (search rules) (search rules)
