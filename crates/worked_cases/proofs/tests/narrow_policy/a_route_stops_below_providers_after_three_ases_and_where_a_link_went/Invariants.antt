use Rattle.worked_cases.proofs.tests.narrow_policy.a_route_stops_below_providers_after_three_ases_and_where_a_link_went.Given as goal

abbrev pub ghosts-expect_settled_and_cut : goal.ghosts-expect_settled_and_cut
ghosts-expect_settled_and_cut g a = record { name = a.blank.name; parts = a.blank.parts }
