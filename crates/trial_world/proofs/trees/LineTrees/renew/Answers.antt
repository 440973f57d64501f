use Rattle.std.proofs.Common.{◌≡◌, ◌∙◌, ℕ, List, true, length, ap, sym, subst, rules}
use Rattle.std.proofs.lemmas.List.{with_items_is}
use Rattle.as_graph.specs.Topology.{has, relation}
use Rattle.policy_kinds.specs.declared.kind.Kind.{Kind}
use Rattle.rank_order.specs.Ranks.{IsRankOrder, rank_at}
use Rattle.routing_tree.specs.Links.{AreLinksOf, HasLists}
use Rattle.trial_world.specs.Trees.{AreEndsBy, AreKindsAt, AreTreesFor}
use Rattle.trial_world.specs.declared.trees.PrefixTree.{PrefixTree}
use Rattle.trial_world.proofs.trees.LineTrees.renew.Goals as goal

pub renew_all-requires-clause-order : goal.renew_all-requires-clause-order
renew_all-requires-clause-order c = subst (IsRankOrder (has c.args.fixed.now.graph.now) (rank_at c.args.fixed.now.ranks.now)) (sym c.as_slice-ases.ensures.list) c.requires.line.order

pub renew_all-requires-clause-links : goal.renew_all-requires-clause-links
renew_all-requires-clause-links c = subst (λ (xs : List ℕ). AreLinksOf (relation c.args.fixed.now.graph.now) xs c.args.self.now.links) (sym c.as_slice-ases.ensures.list) c.requires.line.links

pub renew_all-requires-clause-lists : goal.renew_all-requires-clause-lists
renew_all-requires-clause-lists c = subst (λ (xs : List ℕ). HasLists (length xs) c.args.self.now.links) (sym c.as_slice-ases.ensures.list) c.requires.line.lists

pub renew_all-requires-clause-kinds : goal.renew_all-requires-clause-kinds
renew_all-requires-clause-kinds c =
    let passed : c.take_kinds.result ≡ true = search rules in
    subst (AreKindsAt c.as_slice-ases.result.now c.args.book.now) (sym (c.as_slice.ensures.value ∙ with_items_is c.args.self.now.kinds c.take_kinds.new.kinds (search rules))) (c.take_kinds.ensures passed)

pub renew_all-requires-clause-trees : goal.renew_all-requires-clause-trees
renew_all-requires-clause-trees c = subst (λ (s : List ℕ × List PrefixTree). AreTreesFor c.args.fixed.now s.0 s.1) (λ i. (sym c.as_slice-ases.ensures.list i, sym c.as_mut_slice-prefixes.ensures.value i)) c.requires.line.trees

pub returns-clause-right : goal.returns-clause-right
returns-clause-right c = λ t.
    let line = c.requires.line in
    let right : AreEndsBy c.args.fixed.now c.args.book.now c.args.self.now.order.ases c.renew_all.new.prefixes c.renew_all.new.ends.ends.items =
    subst (λ (xs : List ℕ). AreEndsBy c.args.fixed.now c.args.book.now xs c.renew_all.new.prefixes c.renew_all.new.ends.ends.items) c.as_slice-ases.ensures.list c.renew_all.ensures in
    record {
      line = record {
        few = line.few;
        no_paths = line.no_paths;
        order = line.order;
        links = line.links;
        lists = line.lists;
        kinds = ap (λ (ks : List Kind). length ks) (with_items_is c.args.self.now.kinds c.take_kinds.new.kinds (search rules)) ∙ c.take_kinds.auto.kinds ∙ ap (λ (ks : List Kind). length ks) c.as_mut_slice.ensures.value ∙ line.kinds;
        trees = subst (AreTreesFor c.args.fixed.now c.args.self.now.order.ases) (sym (with_items_is c.args.self.now.prefixes c.renew_all.new.prefixes (search rules))) right.trees_for;
        ends = right.count;
      };
      routing = right.routing;
      stable = right.stable;
      none = right.none;
      ends = right.right;
      unknown = right.unknown;
    }
