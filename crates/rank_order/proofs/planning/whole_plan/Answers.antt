use Rattle.std.proofs.Common.{◌≡◌, ℕ, sym, ap, subst, ◌∙◌}
use Rattle.net_names.specs.Numbers.{occurs}
use Rattle.as_graph.specs.Topology.{relation, has}
use Rattle.as_graph.specs.Hierarchy.{IsRank}
use Rattle.cycle_check.specs.declared.ranking.Ranking.TheVariants.{Ranks}
use Rattle.cycle_check.specs.Rankings.{IsRanking, numbers_of, ranks_of}
use Rattle.rank_order.specs.Plans.{is_numbered}
use Rattle.rank_order.proofs.Planned.{rank_listed}
use Rattle.rank_order.proofs.planning.whole_plan.Goals as goal

pub returns : goal.returns
returns c =
    let g = c.args.graph.now in
    let plan = c.in_ok-plan_with-in-Ranks.field-0 in
    let xs = c.in-Ranks.ranked.ases.items in
    let found : IsRanking g (Ranks c.in-Ranks.ranked) = subst (IsRanking g) c.in-Ranks.is c.in_ok-ranked.ensures in
    let asns : plan.ases.items ≡ numbers_of xs = c.in_ok-plan_with-in-Ranks.ensures.ases ∙ ap numbers_of c.deref.ensures.value in
    let own : plan.ranks.items ≡ ranks_of xs = c.in_ok-plan_with-in-Ranks.ensures.ranks ∙ ap ranks_of c.deref.ensures.value in
    let numbered : (a : ℕ) → is_numbered plan a ≡ has g a = λ a. (ap (occurs a) asns ∙ found.1.ases.listed a) in
    record {
      same = c.in_ok-plan_with-in-Ranks.ensures.ends;
      inside = λ a t. sym (numbered a) ∙ t;
      complete = λ a o there. numbered a ∙ there;
      fitting = λ a.
          subst (IsRank (relation g) a) (sym (rank_listed c.args.ranks.now plan xs asns own a (λ f o. c.requires.only a (sym (numbered a) ∙ f) (sym (ap (occurs a) c.in_ok-plan_with-in-Ranks.ensures.ends) ∙ o))))
          (found.1.ases.ranks a);
    }
