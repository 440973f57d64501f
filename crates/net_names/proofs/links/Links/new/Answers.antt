use Rattle.std.proofs.Common.{◌∙◌, ap}
use Rattle.net_names.specs.LinkLists.{map_of}
use Rattle.net_names.proofs.LinkLemmas.{nothing}
use Rattle.net_names.proofs.links.Links.new.Goals as goal

pub returns : goal.returns
returns c = ap map_of c.new.ensures.items ∙ nothing
