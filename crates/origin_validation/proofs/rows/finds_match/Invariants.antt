use Rattle.std.proofs.Common.{◌≡◌, ℕ, ◌≤◌, ◌<◌, false}
use Rattle.net_names.specs.Payloads.{vrp_at}
use Rattle.origin_validation.specs.Leaving.{stands}
use Rattle.origin_validation.proofs.rows.finds_match.Given as goal

abbrev pub invariant-loop-max : goal.invariant-loop-max
invariant-loop-max l = (m : ℕ) → l.fn.prefix.len ≤ m → m < l.max → stands l.vrps l.but (vrp_at l.outer m l.origin) ≡ false
