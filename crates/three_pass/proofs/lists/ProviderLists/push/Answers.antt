use Rattle.three_pass.proofs.ListLemmas.{kept}
use Rattle.three_pass.proofs.lists.ProviderLists.push.Goals as goal

pub returns-clause-others : goal.returns-clause-others
returns-clause-others c k lt =
    rw (c.in-Ok.ensures.items, c.in_ok-reserve.ensures.items, c.in_ok-extend_from_slice-2.ensures.items)
    (kept c.args.self.now.starts.items c.args.self.now.items.items c.as_slice-2.result.now c.len.result k c.args.self.now.starts_are lt)
