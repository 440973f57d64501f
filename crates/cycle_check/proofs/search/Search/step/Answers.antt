use Rattle.std.proofs.Common.{ap}
use Rattle.cycle_check.proofs.Reaching.{search_more}
use Rattle.cycle_check.specs.Cycles.{without_pair}
use Rattle.cycle_check.specs.Searches.{toward}
use Rattle.cycle_check.proofs.search.Search.step.Goals as goal

pub returns-clause-search : goal.returns-clause-search
returns-clause-search c =
    search_more (toward c.args.self.now.up (without_pair c.args.graph.now c.args.pair.now.provider c.args.pair.now.customer)) c.args.start c.args.self.now.reached.entries c.reach_all.new.reached.entries c.args.self.now.done c.at-asn.result.0
    c.requires.search c.requires.more (ap (λ p. p.0) c.at-asn.ensures) c.in_ok-reach_all.ensures.goes_on c.reach_all.ensures.unique c.in_ok-reach_all.ensures.all
