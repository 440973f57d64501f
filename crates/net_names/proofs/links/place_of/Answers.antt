use Rattle.std.proofs.Common.{refl, rules}
use Rattle.std.proofs.lemmas.List.Sorted.{answers_always}
use Rattle.net_names.proofs.Rising.{all_below}
use Rattle.net_names.specs.Links.{pair_cmp}
use Rattle.net_names.proofs.links.place_of.Goals as goal

pub returns-then-is_past-clause-position : goal.returns-then-is_past-clause-position
returns-then-is_past-clause-position c = all_below (λ l. pair_cmp (l.lo, l.hi) (c.args.lo, c.args.hi)) c.args.links.now (c.if-is_past.ensures refl).1

pub returns-clause-position : goal.returns-clause-position
returns-clause-position c = c.binary_search_by_key.ensures.position (λ l. (l.lo, l.hi)) (answers_always _ _ _ (λ f a r g called. search rules))
