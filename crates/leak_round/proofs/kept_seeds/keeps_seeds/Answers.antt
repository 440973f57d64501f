use Rattle.std.proofs.Common.{sym}
use Rattle.net_names.proofs.Shared.{none_from}
use Rattle.leak_round.proofs.kept_seeds.keeps_seeds.Goals as goal

pub returns : goal.returns
returns g c = λ yes. record { unedited = none_from c.args.finding.now.edited.now (sym c.if-is_some.ensures); before = c.is_none_before.ensures yes }
