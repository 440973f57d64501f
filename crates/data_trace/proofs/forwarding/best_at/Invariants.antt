use Rattle.std.proofs.Common.{◌≡◌, take}
use Rattle.data_trace.specs.Candidates.{best_among}
use Rattle.data_trace.proofs.forwarding.best_at.Given as goal

abbrev pub invariant-loop-candidate : goal.invariant-loop-candidate
invariant-loop-candidate l = l.best ≡ best_among (take l.candidate-index l.candidates) l.asn
