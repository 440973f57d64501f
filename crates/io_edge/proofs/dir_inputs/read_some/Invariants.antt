use Rattle.std.specs.Io.KnownBytes.{Keeps}
use Rattle.io_edge.proofs.dir_inputs.read_some.Given as goal

abbrev pub invariant-tries : goal.invariant-tries
invariant-tries g l = Keeps (g.F.Read.remaining l.fn.file) (g.F.Read.remaining l.file)
