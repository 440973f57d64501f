use Rattle.std.proofs.Common.{◌∙◌, arith}
use Rattle.message_sim.proofs.Turning.{turn_more}
use Rattle.message_sim.proofs.net.Net.turn.Goals as goal

pub loop-k-preserved : goal.loop-k-preserved
loop-k-preserved g c =
    let m = g.P.RoutePolicy.meaning in
    let st = g.V.OriginStates.state_of in
    let old = c.args.self.now in
    let run = turn_more m st old c.loop-k.self c.deliver.new.self c.loop-k.invariant.world c.loop-k.k c.loop-k.made c.args.from c.args.to c.in_ok-deliver.field-0 c.loop-k.invariant.run c.in_ok-deliver.ensures.delivered in
    record {
      world = c.deliver.ensures.world ∙ c.loop-k.invariant.world;
      run = rw c.taken.ensures.value run;
      few = omega (arith, c.loop-k.invariant.few, c.taken.ensures.one);
    }
