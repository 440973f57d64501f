use Rattle.std.proofs.Common.{◌<◌, sym, ap, subst, ◌∙◌, arith, cond, None}
use Rattle.std.specs.FinMap as fin
use Rattle.std.proofs.lemmas.List.{take_all}
use Rattle.net_names.specs.declared.links.Link.{Link}
use Rattle.net_names.specs.Links.{LinkMap, pair_cmp}
use Rattle.caida_reader.specs.Firsts.{relations}
use Rattle.caida_reader.proofs.PairLemmas.{ok_by_test}
use Rattle.caida_reader.proofs.SetLemmas.{is_among, one_set, all_set}
use Rattle.caida_reader.proofs.firsts.put_all.Goals as goal

pub links-init : goal.links-init
links-init c = λ pairs lists pair. ap (λ (m : LinkMap). fin.get m pair) c.new-links.ensures ∙ fin.get-empty pair_cmp pair

pub set-requires : goal.set-requires
set-requires c =
    let here : c.link-item.result.lo < c.link-item.result.hi = subst (λ (l : Link). l.lo < l.hi) (sym c.link-item.is) (c.requires c.links.link-index c.link-item.result c.links-test.true) in
    λ same. omega (arith, here, same)

pub links-preserved : goal.links-preserved
links-preserved c = λ pairs lists pair.
    let xs = c.args.gathered.now in
    let here = subst (λ (l : Link). l.lo < l.hi) (sym c.link-item.is) (c.requires c.links.link-index c.link-item.result c.links-test.true) in
    ap (λ (m : LinkMap). fin.get m pair) (ok_by_test c.set.result _ c.if-is_err.ensures.negation c.set.ensures.ok)
    ∙ one_set xs pairs lists c.links.links c.links.link-index c.link-item.result c.links-test.true c.link-item.is here (c.links.invariant pairs lists) pair

pub returns : goal.returns
returns c = λ pairs lists.
    let xs = c.args.gathered.now in
    all_set xs pairs lists c.links.links (λ pair. c.links.invariant pairs lists pair ∙ ap (λ links. cond (is_among pair links) (fin.get (relations pairs) pair) None) (take_all c.links.link-index xs c.links-test.false))
