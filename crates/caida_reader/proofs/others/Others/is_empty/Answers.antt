use Rattle.std.proofs.Common.{ap, ◌∙◌}
use Rattle.std.specs.FinMap as fin
use Rattle.std.proofs.lemmas.List.{nil_from_length}
use Rattle.net_names.specs.Links.{pair_cmp}
use Rattle.caida_reader.specs.declared.firsts.First.{First}
use Rattle.caida_reader.proofs.others.Others.is_empty.Goals as goal

pub returns : goal.returns
returns c = λ none pair.
    rw (← c.self.view_is) (ap (λ es. fin.get (fin.from_entries {R = pair_cmp} es) pair) (nil_from_length c.self.inside.entries.entries (c.is_empty.ensures.0 none)) ∙ fin.get-empty {X = First} pair_cmp pair)
