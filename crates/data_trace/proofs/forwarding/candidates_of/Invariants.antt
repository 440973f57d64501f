use Rattle.std.proofs.Common.{◌≡◌, ℕ, take}
use Rattle.std.specs.Prelude.{filter}
use Rattle.net_names.specs.Coverage.{holds}
use Rattle.data_trace.specs.Best.{best_in}
use Rattle.data_trace.specs.Candidates.{best_among}
use Rattle.data_trace.proofs.forwarding.candidates_of.Given as goal

abbrev pub invariant-loop-prefix : goal.invariant-loop-prefix
invariant-loop-prefix l = (a : ℕ) → best_among l.candidates.items a ≡ best_in l.tables a (filter (λ p. holds p l.addr) (take l.prefix-index l.prefix-items))
