use Rattle.std.proofs.Common.{◌∙◌, List, sym, ap}
use Rattle.std.specs.List.{list_any}
use Rattle.std.specs.Ordering.{eq_by_cmp}
use Rattle.std.specs.FinMap as fin
use Rattle.net_names.specs.Prefixes.{PrefixValue, prefix_cmp}
use Rattle.stability_laws.proofs.seed_plan.SeedPlan.has_prefix.Goals as goal

pub returns : goal.returns
returns c = c.stands_in.ensures ∙ ap (λ (ps : List PrefixValue). list_any (eq_by_cmp prefix_cmp c.args.prefix) ps) c.prefixes.ensures ∙ sym (fin.contains_key-keys c.args.self.now.prefixes c.args.prefix)
