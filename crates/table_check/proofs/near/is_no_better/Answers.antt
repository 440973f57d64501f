use Rattle.std.proofs.Common.{◌≡◌, Option, Some, sym, ap, subst, ◌∙◌}
use Rattle.std.proofs.lemmas.Bool.{not-true}
use Rattle.net_names.specs.declared.routes.State.TheVariants.{NotFound}
use Rattle.net_names.specs.Links.{converse}
use Rattle.policy_laws.specs.declared.policy.View.{View}
use Rattle.policy_laws.specs.Policy.{Policy}
use Rattle.stability_laws.specs.BestView.{better_of}
use Rattle.stability_laws.specs.Offers.{marked, offer_given, view_of}
use Rattle.table_check.specs.declared.placed.Brief.{Brief}
use Rattle.table_check.proofs.Behind.{seen, stays}
use Rattle.table_check.proofs.near.is_no_better.Goals as goal

pub returns : goal.returns
returns g c = λ no state a e is.
    let own : Policy = g.P.RoutePolicy.meaning c.args.own.now in
    let sender : Policy = g.P.RoutePolicy.meaning c.args.sender.now in
    let n = c.args.neighbour.now.asn in
    let from = c.args.neighbour.now.rel in
    let old : View = c.in-Some.old in
    let shown : Brief → View = λ b. record { rel = from; neighbour = n; length = b.length; state = NotFound; otc = marked sender.marks n (converse from) b.otc } in
    let sent : c.number_sent.result ≡ marked sender.marks n (converse from) c.args.brief.otc = c.number_sent.ensures ∙ (λ i. marked (c.marks.ensures i) n (c.converse-to.ensures i) c.args.brief.otc) in
    let asked : c.before-2.result ≡ own.before (shown c.args.brief) old = c.before-2.ensures ∙ (λ i. own.before (record { rel = from; neighbour = n; length = c.args.brief.length; state = NotFound; otc = sent i }) old) in
    let unread : own.before (shown c.args.brief) old ≡ own.before (view_of sender.marks state n from e) old =
    ap (λ b. own.before (shown b) old) (sym is) ∙ (g.met.P.RoutePolicy.ignores_state c.args.own.now).before (sym c.reads_state.ensures ∙ c.if-reads_state.false) (view_of sender.marks state n from e) old NotFound old.state in
    let stay : Some old ≡ better_of own (Some old) (seen (offer_given sender own state n a (Some from) (Some e))) =
    stays own sender own state n a from e old (sym unread ∙ sym asked ∙ not-true c.before-2.result no) in
    subst (λ (o : Option View). o ≡ better_of own o (seen (offer_given sender own state n a (Some from) (Some e)))) (sym c.in-Some.is) stay
