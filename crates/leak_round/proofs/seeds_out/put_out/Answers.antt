use Rattle.std.proofs.Common.{Some, option_map, sym, ap, subst, ◌∙◌}
use Rattle.std.specs.FinMap as map
use Rattle.stability_laws.proofs.RoundSeeds.{put_other, put_this}
use Rattle.route_choice.specs.Routings.{seed_of}
use Rattle.leak_round.specs.SeedPaths.{HaveAtMost}
use Rattle.path_pool.specs.Pool.{limit_of}
use Rattle.leak_round.proofs.PathsOut.{put_short}
use Rattle.leak_round.proofs.seeds_out.put_out.Goals as goal

pub returns-clause-this : goal.returns-clause-this
returns-clause-this c =
    ap (λ m. map.get m c.args.asn) c.in_ok-put.ensures.ok ∙ put_this c.args.seeds.now c.args.asn c.in_ok-seed.seed ∙ ap (λ s. Some s) c.in_ok-seed.ensures.seed ∙ ap (option_map (seed_of c.args.pool.now)) (sym c.in-Some.is ∙ c.get.ensures)

pub returns-clause-others : goal.returns-clause-others
returns-clause-others c = λ a ne. ap (λ m. map.get m a) c.in_ok-put.ensures.ok ∙ put_other c.args.seeds.now c.args.asn c.in_ok-seed.seed a ne

pub returns-clause-short : goal.returns-clause-short
returns-clause-short c =
    subst (HaveAtMost (limit_of c.args.pool.now)) (sym c.in_ok-put.ensures.ok) (put_short c.args.seeds.now c.args.asn c.in_ok-seed.seed (limit_of c.args.pool.now) c.requires.short c.in_ok-seed.ensures.short)
