use Rattle.std.proofs.Common.{ap, ◌∙◌}
use Rattle.std.specs.FinMap as map
use Rattle.std.proofs.lemmas.Result.{on_ok_weaker}
use Rattle.stability_laws.proofs.RoundSeeds.{put_this, put_other}
use Rattle.stability_laws.proofs.round_seeds.put_seed.Goals as goal

pub returns-clause-this : goal.returns-clause-this
returns-clause-this c = on_ok_weaker c.put.result (λ e. ap (λ m. map.get m c.args.asn) e ∙ put_this c.args.seeds.now c.args.asn c.args.seed) c.put.ensures.ok

pub returns-clause-others : goal.returns-clause-others
returns-clause-others c = on_ok_weaker c.put.result (λ e a ne. ap (λ m. map.get m a) e ∙ put_other c.args.seeds.now c.args.asn c.args.seed a ne) c.put.ensures.ok
