use Rattle.std.proofs.Common.{◌-◌, length}
use Rattle.stability_laws.specs.Plans.{prefixes_of}
use Rattle.leak_round.specs.OwnSeeds.{AreOwnSeeds}
use Rattle.leak_round.proofs.own_seeds.fill_own_seeds.Given as goal

abbrev pub invariant-prefixes : goal.invariant-prefixes
invariant-prefixes l = AreOwnSeeds l.plan l.announced l.own.items

abbrev pub decreases-prefixes : goal.decreases-prefixes
decreases-prefixes l = length (prefixes_of l.plan) - length l.own.items
