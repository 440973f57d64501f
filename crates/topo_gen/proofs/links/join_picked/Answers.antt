use Rattle.std.proofs.lemmas.Result.{on_ok_weaker}
use Rattle.topo_gen.proofs.Drawing.{picked_is}
use Rattle.topo_gen.proofs.links.join_picked.Goals as goal

pub returns : goal.returns
returns c = on_ok_weaker c.join.result (λ h. picked_is _ _ _ _ _ _ _ _ c.draw-word.ensures.word c.draw-word.ensures.state c.pick.ensures.value h) c.join.ensures
