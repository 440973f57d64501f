use Rattle.std.proofs.Common.{◌≡◌, true, ◌&&◌, le-leb, arith, ap₂}
use Rattle.sim_core.specs.World.{has_round}
use Rattle.told_laws.proofs.laws.printed_routes_are_accepted.Goals as goal

pub returns : goal.returns
returns c = λ w k prefix more number answers printable none kept known within told.
    c.printed_routes_are_right.ensures w k prefix more number answers none kept known within printable.rounds (printable.prefixes prefix known) printable.ases
    (λ round a e first last held. c.held_entries_are_printable.ensures w k round prefix a e printable kept
    (let there : has_round w round ≡ true = ap₂ (λ a b. a && b) (le-leb 1 round first) (le-leb round w.rounds (omega (arith, last, within))) in there) known held)
    told
