use Rattle.std.proofs.Common.{◌≡◌, Option, IfSome, sym, ap, subst, ◌∙◌}
use Rattle.std.proofs.lemmas.Bool.{false_from_ne_true}
use Rattle.net_names.specs.Numbers.{occurs}
use Rattle.as_graph.specs.Topology.{relation}
use Rattle.rank_order.specs.declared.plan.RankPlan.{RankPlan}
use Rattle.rank_order.specs.Ranks.{rank_at}
use Rattle.rank_order.specs.Plans.{is_numbered, rank_after}
use Rattle.rank_order.proofs.Mended.{all_fit}
use Rattle.rank_order.proofs.Planned.{rank_kept, rank_none}
use Rattle.rank_order.proofs.planning.small_plan.Goals as goal

pub returns-in-Some : goal.returns-in-Some
returns-in-Some c =
    let g = c.args.graph.now in
    let ends = c.args.ends.now in
    let ranks = c.args.ranks.now in
    let plan = c.in-Some.plan in
    let same : plan.ends.items ≡ ends = subst (λ (o : Option RankPlan). IfSome o (λ p. p.ends.items ≡ ends)) c.in-Some.is c.in_ok-plan.ensures in
    let inside = c.is_sound.ensures.inside c.if-is_sound.true in
    let complete = c.is_sound.ensures.complete c.if-is_sound.true in
    let mended = c.is_sound.ensures.mended c.if-is_sound.true in
    record {
      same = same;
      inside = inside;
      complete = complete;
      fitting =
          c.fitting_are_ranks.ensures (relation g) (rank_after ranks plan)
          (all_fit g c.links_are_sound.ensures ends (is_numbered plan) (rank_at ranks) (rank_after ranks plan) complete mended c.requires.fits (λ a f o. rank_kept ranks plan a f (ap (occurs a) same ∙ o))
          (λ a away. rank_none ranks plan a (false_from_ne_true (is_numbered plan a) (λ t. (let there = inside a t in cc))) (λ o. c.requires.only a away (sym (ap (occurs a) same) ∙ o))));
    }
