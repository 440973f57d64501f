use Rattle.std.proofs.Common.{◌∙◌, ◌≤◌, map, ap, subst, sym}
use Rattle.std.specs.FinMap as fin
use Rattle.std.specs.Map.Iter.{deref_pair}
use Rattle.std.proofs.lemmas.Map.Iter.{iter_end}
use Rattle.net_names.specs.LinkLists.{map_of, AreLinks}
use Rattle.net_names.specs.Links.{LinkMap}
use Rattle.net_names.specs.declared.links.TheConstants.{MOST_LINKS}
use Rattle.topo_gen.proofs.Entries.{are_links, link_of, map_of-links}
use Rattle.topo_gen.proofs.pairs.Pairs.list.Goals as goal

pub returns : goal.returns
returns c =
    let es = c.self.inside.entries.entries in
    let ordered = c.iter-pair-items.ensures.ordered in
    let whole = iter_end deref_pair es c.pairs.yielded c.into_iter-pair-iterator.result c.pairs.pair-iterator c.next.new.self c.next.result (cc) c.pairs.yielded_by c.in-None.is c.next.ensures.steps in
    let items = c.pairs.invariant ∙ ap (map link_of) whole.0 in
    let few = subst (λ (m : LinkMap). fin.len m ≤ MOST_LINKS) (sym c.self.view_is) c.requires in
    record {
      all = ap map_of items ∙ map_of-links es ordered ∙ c.self.view_is;
      rising = subst AreLinks (sym items) (are_links es ordered c.self.invariant few);
    }
