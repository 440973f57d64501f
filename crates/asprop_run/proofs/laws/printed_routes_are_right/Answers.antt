use Rattle.asprop_run.proofs.PrintedRight.{right_where_printed}
use Rattle.asprop_run.proofs.laws.printed_routes_are_right.Goals as goal

pub returns : goal.returns
returns c w k prefix more number answers none kept known within few is ases printable told =
    right_where_printed c.accepted_are_rounds.ensures c.printed_rounds_are_accepted.ensures w k prefix more number answers none kept known within few is ases printable told
