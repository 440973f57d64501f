use Rattle.leak_round.specs.Touched.{touches}
use Rattle.trial_world.proofs.TouchedAround.{touched_more}
use Rattle.trial_world.proofs.touching.touch_all.Goals as goal

pub loop-one-preserved : goal.loop-one-preserved
loop-one-preserved c =
    let inv = c.loop-one.invariant in
    record {
      these = touched_more c.args.graph.now c.args.book.now c.args.before.now c.loop-one.one-index c.one-item.result (touches c.loop-one.touched c.args.prefix) (touches c.touch_around.new.touched c.args.prefix) c.loop-one-test.true c.one-item.is inv.these (c.touch_around.ensures.more c.args.prefix) c.in_ok-touch_around.ensures.these;
      more = λ p a h. c.touch_around.ensures.more p a (inv.more p a h);
    }
