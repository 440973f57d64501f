use Rattle.std.proofs.Common.{◌∙◌, refl, sym, ap}
use Rattle.as_graph.specs.Room.{is_room_for}
use Rattle.as_graph.specs.Topology.{Topology}
use Rattle.sim_core.specs.Editing.{links_with}
use Rattle.sim_core.proofs.LinkEdits.{from_none, unlinked}
use Rattle.sim_core.proofs.parts.Parts.set_back.Goals as goal

pub returns-in-None : goal.returns-in-None
returns-in-None c =
    let cut = unlinked c.unlink.result c.args.self.now.graph c.unlink.new.self c.args.a c.args.b c.unlink.ensures.ok c.unlink.ensures.absent (from_none c.args.old c.requires.there c.in-None.is) in
    record {
      are = ap (λ (t : Topology). t.links) cut ∙ ap (links_with c.args.self.now.graph c.args.a c.args.b) (sym c.in-None.is);
      marked = ap (λ (t : Topology). t.marked) cut;
      room = ap (λ (t : Topology). is_room_for t.room c.args.a c.args.b) cut ∙ c.requires.room;
      vrps = refl;
      book = refl;
      rest = record { ranks = refl; rounds = refl; watched = refl; watches = refl };
    }
