use Rattle.std.proofs.Common.{◌≡◌, ℕ, ◌<◌, ◌-◌, length}
use Rattle.data_trace.specs.NextHops.{hops_by}
use Rattle.data_trace.specs.Traces.{IsIn}
use Rattle.data_trace.proofs.Traces.{IsWay, last_of}
use Rattle.data_trace.proofs.tracing.follow.Given as goal

abbrev pub invariant-steps : goal.invariant-steps
invariant-steps l = record {
  way : IsWay (hops_by l.forwarding) l.fn.asn l.ases.keys;
  last : last_of l.ases.keys ≡ l.last;
  small : (q : ℕ) → IsIn q l.ases.keys → q < 4294967296;
}

abbrev pub decreases-steps : goal.decreases-steps
decreases-steps l = 4294967297 - length l.ases.keys
