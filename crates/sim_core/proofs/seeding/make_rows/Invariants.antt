use Rattle.std.proofs.Common.{◌≡◌}
use Rattle.sim_core.proofs.seeding.make_rows.Given as goal

abbrev pub invariant-loop-asn : goal.invariant-loop-asn
invariant-loop-asn l = record {
  rest : l.book.rest ≡ l.fn.book.rest;
  named : l.book.named ≡ l.fn.book.named;
}
