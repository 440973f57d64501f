use Rattle.routing_tree.proofs.Regions.{kept}
use Rattle.routing_tree.proofs.links.PlaceLists.push.Goals as goal

pub returns-clause-others : goal.returns-clause-others
returns-clause-others c k lt =
    rw (c.in-Ok.ensures.items, c.in_ok-reserve.ensures.items, c.in_ok-extend_from_slice.ensures.items)
    (kept c.args.self.now.starts.items c.args.self.now.items.items c.args.list.now c.len.result k c.args.self.now.starts_are lt)
