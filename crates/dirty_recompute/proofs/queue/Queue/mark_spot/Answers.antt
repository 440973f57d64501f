use Rattle.std.proofs.Common.{refl, sym}
use Rattle.dirty_recompute.proofs.QueueLemmas.{marked_added, same_parts}
use Rattle.dirty_recompute.proofs.queue.Queue.mark_spot.Goals as goal

pub returns-in-Some-find_near-clause-yes : goal.returns-in-Some-find_near-clause-yes
returns-in-Some-find_near-clause-yes c = λ yes rank. marked_added rank c.args.self.now _ c.in-Some.spots c.mark.new.self c.in-Some-find_near.at c.args.asn c.in-Some.is refl c.in-Some-find_near.ensures c.mark.ensures

pub returns-in-None-find_near-clause-no : goal.returns-in-None-find_near-clause-no
returns-in-None-find_near-clause-no c = λ no rank. same_parts rank c.args.self.now _ (sym c.in-Some.is) refl

pub returns-in-None-clause-no : goal.returns-in-None-clause-no
returns-in-None-clause-no c = λ no rank. same_parts rank c.args.self.now _ refl refl
