use Rattle.std.proofs.Common.{List, map, sym, ap, ◌∙◌, subst}
use Rattle.std.specs.FinMap as fin
use Rattle.std.specs.Map.Iter.{deref_pair}
use Rattle.std.proofs.lemmas.Map.Iter.{iter_end}
use Rattle.net_names.specs.Links.{pair_cmp}
use Rattle.net_names.specs.declared.links.Link.{Link}
use Rattle.caida_reader.specs.Runs.{link_of, Lists}
use Rattle.caida_reader.proofs.ListLemmas.{lists-rising}
use Rattle.caida_reader.proofs.others.Others.links.Goals as goal

pub returns : goal.returns
returns c =
    let es = c.self.inside.entries.entries in
    let whole = iter_end deref_pair es c.pairs.yielded c.into_iter-pair-iterator.result c.pairs.pair-iterator c.next.new.self c.next.result (cc) c.pairs.yielded_by c.in-None.is c.next.ensures.steps in
    rw (← c.self.view_is) (subst (λ (links : List Link). Lists links (fin.from_entries {R = pair_cmp} es)) (sym (c.pairs.invariant ∙ ap (map link_of) whole.0)) (lists-rising es c.iter-pair-items.ensures.ordered))
