use Rattle.std.proofs.Common.{subst, rules}
use Rattle.std.proofs.lemmas.List.Sorted.{answers_always}
use Rattle.std.specs.declared.cmp.Ordering.{Ordering}
use Rattle.std.specs.Ordering.{nat_cmp, ordering_then}
use Rattle.std.specs.List.Sorted.{IsBinarySearchResult}
use Rattle.net_names.specs.Prefixes.{PrefixValue}
use Rattle.net_names.proofs.DerivedOrders.{prefix_orders}
use Rattle.stability_laws.specs.declared.seed_plan.Announcement.{Announcement}
use Rattle.stability_laws.proofs.seed_plan.place_of.Goals as goal

pub returns-clause-position : goal.returns-clause-position
returns-clause-position c =
    subst (λ (cmp : PrefixValue → PrefixValue → Ordering). IsBinarySearchResult (λ (x : Announcement). ordering_then (cmp x.prefix c.args.prefix) (nat_cmp x.asn c.args.asn)) c.args.announced.now c.binary_search_by_key.result)
    prefix_orders (c.binary_search_by_key.ensures.position (λ x. (x.prefix, x.asn)) (answers_always _ _ _ (λ f a r g called. search rules)))
