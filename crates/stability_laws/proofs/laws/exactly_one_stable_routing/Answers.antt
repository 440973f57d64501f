use Rattle.stability_laws.proofs.laws.exactly_one_stable_routing.Goals as goal

pub returns : goal.returns
returns t c = λ w book state seeds no_cycle.
    let (f, stable) = c.a_stable_routing_exists.ensures w book state seeds no_cycle in
    (f, stable, λ g also. c.one_stable_routing.ensures w book state seeds g f no_cycle also stable)
