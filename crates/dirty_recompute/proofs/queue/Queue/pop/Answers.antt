use Rattle.std.proofs.Common.{refl}
use Rattle.dirty_recompute.proofs.QueueLemmas.{few_next, few_nobody, spots_next, spots_nobody}
use Rattle.dirty_recompute.proofs.queue.Queue.pop.Goals as goal

pub returns-in-Some-take-clause-taken : goal.returns-in-Some-take-clause-taken
returns-in-Some-take-clause-taken c = λ rank was. spots_next rank c.args.self.now _ c.in-Some.spots c.take.new.self c.in-Some-take.spot c.in-Some.is refl was c.args.way c.in-Some-take.ensures.some

pub returns-in-None-take-clause-none : goal.returns-in-None-take-clause-none
returns-in-None-take-clause-none c = λ rank. spots_nobody rank c.args.self.now c.in-Some.spots c.in-Some.is c.in-None-take.ensures.none

pub returns-in-None-clause-taken : goal.returns-in-None-clause-taken
returns-in-None-clause-taken c = λ rank was. few_next rank c.args.self.now _ c.in-None.is c.in-None.is was c.args.way c.pop.result (c.pop.ensures.taken rank)

pub returns-in-None-clause-none : goal.returns-in-None-clause-none
returns-in-None-clause-none c = λ rank. few_nobody rank c.args.self.now c.pop.result c.in-None.is (c.pop.ensures.none rank)
