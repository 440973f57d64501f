use Rattle.stability_laws.specs.Book.{policy_at}
use Rattle.stability_laws.specs.World.{setting}
use Rattle.stability_laws.proofs.LocalLaws.{right_around}
use Rattle.stability_laws.proofs.laws.right_follows.Goals as goal

pub returns : goal.returns
returns t c = λ v w book other_book state other_state seeds other_seeds f g a same seed entry right.
    right_around (setting t.P.RoutePolicy.meaning v book state) (setting t.P.RoutePolicy.meaning w other_book other_state) f g seeds other_seeds a same (t.met.P.RoutePolicy.ignores_state (policy_at other_book a)) seed entry right
