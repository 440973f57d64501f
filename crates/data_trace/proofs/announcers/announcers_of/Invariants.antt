use Rattle.std.proofs.Common.{◌≡◌, ℕ, ◌%◌, ◌==◌, take}
use Rattle.std.specs.List.{list_any}
use Rattle.route_choice.specs.Marks.{is_marked}
use Rattle.data_trace.proofs.announcers.announcers_of.Given as goal

abbrev pub invariant-loop-asn : goal.invariant-loop-asn
invariant-loop-asn l = (a : ℕ) → is_marked l.marks a ≡ list_any (λ b. a % 4096 == b % 4096) (take l.asn-index l.asn-items)
