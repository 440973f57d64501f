use Rattle.std.proofs.Common.{arith, sym, subst}
use Rattle.as_graph.specs.Topology.{relation}
use Rattle.stability_laws.specs.Book.{policy_at}
use Rattle.route_choice.specs.Givers.{AreGivers}
use Rattle.route_choice.specs.Routings.{routing_of}
use Rattle.route_choice.specs.PrefixWorlds.{setting_at}
use Rattle.three_pass.specs.Told.{IsTold}
use Rattle.three_pass.proofs.ByRank.{all_lawful}
use Rattle.three_pass.proofs.Passings.{above_at, untold_givers}
use Rattle.three_pass.proofs.Quiet.{givers}
use Rattle.three_pass.proofs.pass.Passing.step.Goals as goal

pub step_among-requires-clause-givers : goal.step_among-requires-clause-givers
step_among-requires-clause-givers g c =
    let at = c.args.self.now.at in
    subst (AreGivers c.args.turn.part (relation at.graph.now) (λ n. g.P.RoutePolicy.meaning (policy_at at.book.now n)) (routing_of c.args.pool.now at.table.now c.args.overlay.now) c.args.turn.asn) (sym c.list-above.ensures)
    (untold_givers g.P.RoutePolicy.meaning g.met.P.RoutePolicy.ranks_offers g.met.P.RoutePolicy.prefers_customers g.met.P.RoutePolicy.exports_down_only g.V.OriginStates.state_of c.args.self.now c.args.gathered.now.told c.args.pool.now c.args.overlay.now
    c.args.turn.part c.args.turn.asn c.args.turn.place c.requires.ready (c.is_untold.ensures c.if-is_untold.true))

pub step_among-requires-then-gather-clause-givers : goal.step_among-requires-then-gather-clause-givers
step_among-requires-then-gather-clause-givers g c =
    let above = above_at g.P.RoutePolicy.meaning c.args.self.now c.args.turn.asn c.args.turn.place c.requires.ready.passing c.requires.ready.inside c.requires.ready.there in
    let w = relation c.args.self.now.at.graph.now in
    let here = setting_at g.P.RoutePolicy.meaning g.V.OriginStates.state_of c.args.self.now.at in
    let lawful = all_lawful g.P.RoutePolicy.meaning g.met.P.RoutePolicy.ranks_offers g.met.P.RoutePolicy.prefers_customers g.met.P.RoutePolicy.exports_down_only (policy_at c.args.self.now.at.book.now) in
    let f = routing_of c.args.pool.now c.args.self.now.at.table.now c.args.overlay.now in
    let all = c.if-gather.true in
    subst (AreGivers c.args.turn.part w here.policy f c.args.turn.asn) (sym c.as_slice-neighbours.ensures.value)
    (givers here lawful f c.args.turn.asn c.args.turn.part (IsTold c.args.gathered.now.told) c.gather.new.looks.neighbours.items c.requires.ready.told
    (c.gather.ensures.each all w c.requires.ready.true_notes above.each) (c.gather.ensures.told all) (λ whole n linked. c.gather.ensures.above all n (above.complete n linked)))

pub list-above-requires : goal.list-above-requires
list-above-requires g c = omega (arith, c.requires.ready.inside, c.requires.ready.passing.course.above.count)

pub places-above_places-requires : goal.places-above_places-requires
places-above_places-requires g c = omega (arith, c.requires.ready.inside, c.requires.ready.passing.course.above.count)

pub gather-requires : goal.gather-requires
gather-requires g c = omega (arith, c.requires.ready.inside, c.requires.ready.passing.course.above.count)
