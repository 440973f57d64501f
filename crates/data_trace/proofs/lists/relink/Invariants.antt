use Rattle.std.proofs.Common.{drop}
use Rattle.data_trace.specs.Lists.{HasLists}
use Rattle.data_trace.proofs.lists.relink.Given as goal

abbrev pub invariant-roots : goal.invariant-roots
invariant-roots l = HasLists l.hops (drop l.a-index l.roots) l.first l.before l.after
