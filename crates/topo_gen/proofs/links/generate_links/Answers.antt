use Rattle.std.proofs.Common.{◌≡◌, ◌∙◌, ◌-◌, ◌≤◌, arith, subst, sym}
use Rattle.std.specs.FinMap as fin
use Rattle.std.proofs.lemmas.Result.{IfOk-weaker}
use Rattle.net_names.specs.Links.{LinkMap}
use Rattle.net_names.specs.declared.links.TheConstants.{MOST_LINKS}
use Rattle.topo_gen.proofs.Counts.{len-drawn_links}
use Rattle.topo_gen.proofs.Drawing.{all_ases, more_ases, no_ases}
use Rattle.topo_gen.proofs.links.generate_links.Goals as goal

pub ases-init : goal.ases-init
ases-init c = no_ases _ _ _ _ c.min.ensures c.in_ok-links.ensures (c.seed_from_u64-rng.ensures.same ∙ c.from.ensures)

pub ases-preserved : goal.ases-preserved
ases-preserved c = more_ases _ _ _ _ c.ases.invariant c.in_ok-join_as.ensures

pub in_order-requires : goal.in_order-requires
in_order-requires c =
    let all : c.ases.k ≡ c.args.n - 8 = omega arith in
    subst (λ (m : LinkMap). fin.len m ≤ MOST_LINKS) (sym (all_ases _ _ _ all c.ases.invariant)) (len-drawn_links c.args.n c.requires)

pub returns : goal.returns
returns c =
    let all : c.ases.k ≡ c.args.n - 8 = omega arith in
    IfOk-weaker c.in_order.result _ _ (λ (m : LinkMap) h. h ∙ all_ases _ _ _ all c.ases.invariant) c.in_order.ensures
