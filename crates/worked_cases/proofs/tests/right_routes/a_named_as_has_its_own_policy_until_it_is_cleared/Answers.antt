use Rattle.stability_laws.proofs.Books.{has_room_after}
use Rattle.worked_cases.proofs.tests.right_routes.a_named_as_has_its_own_policy_until_it_is_cleared.Goals as goal

pub set-requires : goal.set-requires
set-requires g c = has_room_after _ c.room.new.self c.number-seven.result c.in_ok-room.ensures.ok
