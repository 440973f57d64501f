use Rattle.std.proofs.Common.{◌≡◌, false, true, refl, sym, ◌∙◌, subst, arith}
use Rattle.net_names.specs.declared.routes.Rel.TheVariants.{Provider}
use Rattle.as_graph.specs.declared.neighbour.Neighbour.{Neighbour}
use Rattle.policy_laws.specs.Plain.{SendsPlainly}
use Rattle.stability_laws.specs.Book.{policy_at}
use Rattle.three_pass.proofs.Elements.{one_more}
use Rattle.three_pass.proofs.way.are_plain_senders.Goals as goal

pub loop-index-preserved : goal.loop-index-preserved
loop-index-preserved g c =
    let F : Neighbour → Type 0 = λ x. (x.rel ≡ Provider) × SendsPlainly (g.P.RoutePolicy.meaning (policy_at c.args.book.now x.asn)) in
    one_more c.args.providers.now c.loop-index.index c.index-providers-index.result c.index-providers-index.is c.loop-index-test.true F c.loop-index.invariant
    (c.is_plain_sender.ensures.0 c.if-not-is_plain_sender.false)

pub returns-then-not-is_plain_sender : goal.returns-then-not-is_plain_sender
returns-then-not-is_plain_sender g c =
    let F : Neighbour → Type 0 = λ x. (x.rel ≡ Provider) × SendsPlainly (g.P.RoutePolicy.meaning (policy_at c.args.book.now x.asn)) in
    let x = c.index-providers-index.result in (
      λ no. (let e : false ≡ true = no in cc),
      λ are. sym c.if-not-is_plain_sender.true ∙ c.is_plain_sender.ensures.1 (subst F (sym c.index-providers-index.is) (are c.loop-index.index x c.loop-index-test.true)),
    )

pub returns : goal.returns
returns g c = (λ yes k d less. c.loop-index.invariant k (omega (arith, less, c.loop-index-test.false)) d, λ are. refl)
