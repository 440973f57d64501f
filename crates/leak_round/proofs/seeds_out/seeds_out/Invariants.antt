use Rattle.std.proofs.Common.{◌≡◌, ℕ, cond, None, take}
use Rattle.std.specs.FinMap as map
use Rattle.net_names.specs.Numbers.{occurs}
use Rattle.path_pool.specs.Pool.{limit_of}
use Rattle.route_choice.specs.Routings.{seeds_of}
use Rattle.leak_round.specs.SeedPaths.{HaveAtMost}
use Rattle.leak_round.proofs.seeds_out.seeds_out.Given as goal

abbrev pub invariant-loop-asn : goal.invariant-loop-asn
invariant-loop-asn l = record {
  so_far : (a : ℕ) → map.get l.seeds a ≡ cond (occurs a (take l.asn-index l.ases)) (seeds_of l.pool l.ids a) None;
  short : HaveAtMost (limit_of l.pool) l.seeds;
}
