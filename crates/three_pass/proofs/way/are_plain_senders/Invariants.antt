use Rattle.std.proofs.Common.{◌≡◌, ℕ, ◌<◌, slice_index_or}
use Rattle.net_names.specs.declared.routes.Rel.TheVariants.{Provider}
use Rattle.as_graph.specs.declared.neighbour.Neighbour.{Neighbour}
use Rattle.policy_laws.specs.Plain.{SendsPlainly}
use Rattle.stability_laws.specs.Book.{policy_at}
use Rattle.three_pass.proofs.way.are_plain_senders.Given as goal

abbrev pub invariant-loop-index : goal.invariant-loop-index
invariant-loop-index g l = (k : ℕ) → k < l.index → (d : Neighbour) →
    ((slice_index_or l.providers k d).rel ≡ Provider) × SendsPlainly (g.P.RoutePolicy.meaning (policy_at l.book (slice_index_or l.providers k d).asn))
