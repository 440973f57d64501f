use Rattle.std.specs.Io.KnownBytes.{Keeps}
use Rattle.io_edge.proofs.std_sink.write_some.Given as goal

abbrev pub invariant-tries : goal.invariant-tries
invariant-tries g l = Keeps (g.W.Write.contents l.fn.stream) (g.W.Write.contents l.stream)
