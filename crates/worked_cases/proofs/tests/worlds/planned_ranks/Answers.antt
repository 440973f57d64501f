use Rattle.rank_order.specs.Ranks.{rank_at}
use Rattle.worked_cases.proofs.Standing.{no_rank}
use Rattle.worked_cases.proofs.tests.worlds.planned_ranks.Goals as goal

pub plan-requires-clause-fits : goal.plan-requires-clause-fits
plan-requires-clause-fits g c = λ a there other. c.ranks_fit.ensures c.args.graph.now (rank_at c.ranks_of-ranks.result) c.ranks_of-ranks.ensures.no_cycle c.ranks_of-ranks.ensures.ranks a

pub plan-requires-clause-only : goal.plan-requires-clause-only
plan-requires-clause-only g c = λ a none other. no_rank c.ranks_fit.ensures c.links_are_sound.ensures c.args.graph.now (rank_at c.ranks_of-ranks.result) c.ranks_of-ranks.ensures.no_cycle c.ranks_of-ranks.ensures.ranks a none
