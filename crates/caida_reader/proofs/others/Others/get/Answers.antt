use Rattle.std.proofs.Common.{sym, ap, ◌∙◌}
use Rattle.std.specs.FinMap as fin
use Rattle.caida_reader.proofs.PairLemmas.{get_pair}
use Rattle.caida_reader.proofs.others.Others.get.Goals as goal

pub returns : goal.returns
returns c = c.copied.ensures ∙ c.get.ensures.value ∙ sym (get_pair c.self.inside.entries.entries (c.args.lo, c.args.hi)) ∙ ap (λ m. fin.get m (c.args.lo, c.args.hi)) c.self.view_is
