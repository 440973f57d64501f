use Rattle.std.proofs.Common.{◌≡◌, sym, ◌∙◌}
use Rattle.message_sim.specs.Nets.{queued_in}
use Rattle.message_sim.proofs.Queued.{each, each_once, ends_in}
use Rattle.message_sim.proofs.Values.{seen_as}
use Rattle.message_sim.proofs.net.Net.queued.Goals as goal

pub returns : goal.returns
returns g c =
    let s = c.self.inside in
    seen_as _ s.tables.choices.entries s.tables.lines.entries _ c.self.view_is (λ w x. c.under_way.result ≡ queued_in w.graph x)
    (c.under_way.ensures (each s.ground.graph.now) (each_once s.ground.graph.now) (λ n a there. ends_in s.ground.graph.now n a (sym (c.self.invariant.kept.linked n a) ∙ there)))
