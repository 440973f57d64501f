use Rattle.std.proofs.Common.{Option, Some, None, sym, ap, subst, ◌∙◌}
use Rattle.std.specs.Prelude.{option_copied}
use Rattle.net_names.proofs.Shared.{none_from}
use Rattle.std.specs.FinMap as map
use Rattle.stability_laws.specs.declared.entry.Entry.{Entry}
use Rattle.stability_laws.specs.Answers.{IsRightWith}
use Rattle.stability_laws.specs.World.{setting}
use Rattle.activations.proofs.Runs.{put_steps, clear_steps}
use Rattle.activations.proofs.AfterTurns.{stays}
use Rattle.activations.proofs.running.take_turn.Goals as goal

pub returns-in_ok-put-in-Some-clause-step : goal.returns-in_ok-put-in-Some-clause-step
returns-in_ok-put-in-Some-clause-step g c =
    let here = setting g.P.RoutePolicy.meaning c.args.world.now.graph.now c.args.world.now.book.now (g.V.OriginStates.state_of c.args.world.now.states.now c.args.prefix) in
    let F : Option Entry → Type 0 = λ t. IsRightWith here (map.get c.args.seeds.now) (map.get c.args.routing.now) c.args.asn t in
    put_steps here (map.get c.args.seeds.now) c.args.routing.now c.put.new.self c.args.asn c.in-Some.entry (subst F c.in-Some.is c.in_ok-entry.ensures) c.in_ok-put-in-Some.ensures.ok

pub returns-else-is_none-clause-step : goal.returns-else-is_none-clause-step
returns-else-is_none-clause-step g c =
    let here = setting g.P.RoutePolicy.meaning c.args.world.now.graph.now c.args.world.now.book.now (g.V.OriginStates.state_of c.args.world.now.states.now c.args.prefix) in
    let F : Option Entry → Type 0 = λ t. IsRightWith here (map.get c.args.seeds.now) (map.get c.args.routing.now) c.args.asn t in
    clear_steps here (map.get c.args.seeds.now) c.args.routing.now c.clear.new.self c.args.asn (subst F c.in-None.is c.in_ok-entry.ensures) c.clear.ensures

pub returns-then-is_held-clause-step : goal.returns-then-is_held-clause-step
returns-then-is_held-clause-step g c =
    let here = setting g.P.RoutePolicy.meaning c.args.world.now.graph.now c.args.world.now.book.now (g.V.OriginStates.state_of c.args.world.now.states.now c.args.prefix) in
    let F : Option Entry → Type 0 = λ t. IsRightWith here (map.get c.args.seeds.now) (map.get c.args.routing.now) c.args.asn t in
    stays here (map.get c.args.seeds.now) (map.get c.args.routing.now) c.args.asn (Some c.in-Some.entry) (subst F c.in-Some.is c.in_ok-entry.ensures) (sym c.get.ensures.value ∙ c.is_held.ensures c.if-is_held.true)

pub returns-then-is_none-clause-step : goal.returns-then-is_none-clause-step
returns-then-is_none-clause-step g c =
    let here = setting g.P.RoutePolicy.meaning c.args.world.now.graph.now c.args.world.now.book.now (g.V.OriginStates.state_of c.args.world.now.states.now c.args.prefix) in
    let F : Option Entry → Type 0 = λ t. IsRightWith here (map.get c.args.seeds.now) (map.get c.args.routing.now) c.args.asn t in
    stays here (map.get c.args.seeds.now) (map.get c.args.routing.now) c.args.asn None (subst F c.in-None.is c.in_ok-entry.ensures)
    (sym c.get-in-None.ensures.value ∙ ap option_copied (none_from c.get-in-None.result c.if-is_none.ensures))
