use Rattle.std.proofs.Common.{◌≤◌, ℕ, Vec, Global, drop, take}
use Rattle.std.specs.List.{flat_map}
use Rattle.io_edge.specs.Bytes.{Appends}
use Rattle.sweep.proofs.sweeping.write_others.Given as goal

abbrev pub invariant-texts : goal.invariant-texts
invariant-texts g l = record {
  later : g.O.Sink.faults l.fn.out ≤ g.O.Sink.faults l.out;
  wrote : Appends (g.O.Sink.written l.fn.out) (g.O.Sink.written l.out) (flat_map (λ (v : Vec ℕ Global). v.items) (drop 1 (take l.i l.texts)));
}
