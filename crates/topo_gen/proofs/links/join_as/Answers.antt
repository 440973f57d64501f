use Rattle.std.proofs.lemmas.Result.{on_ok_weaker}
use Rattle.topo_gen.proofs.Drawing.{as_made}
use Rattle.topo_gen.proofs.links.join_as.Goals as goal

pub returns : goal.returns
returns c = on_ok_weaker c.join_all-2.result (λ h. as_made _ _ _ _ _ _ _ _ _ _ _ c.draw.ensures.word c.draw.ensures.state c.in_ok-join_all.ensures c.draw-2.ensures.word c.draw-2.ensures.state c.peer_count-more.ensures h) c.join_all-2.ensures
