use Rattle.std.proofs.Common.{◌≡◌, ℕ, option_map, take}
use Rattle.route_choice.specs.Tables.{seed_at}
use Rattle.leak_round.specs.Announced.{own_path, own_seed}
use Rattle.leak_round.proofs.announced.announced_seeds.Given as goal

abbrev pub invariant-loop-one : goal.invariant-loop-one
invariant-loop-one l = (a : ℕ) → seed_at l.seeds a ≡ option_map own_seed (own_path (take l.one-index l.announced) l.prefix a)
