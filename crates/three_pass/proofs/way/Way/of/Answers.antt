use Rattle.std.proofs.Common.{ℕ, [], ◌∷◌, length, length-append, arith, ap, sym, ◌∙◌, subst}
use Rattle.std.specs.Prelude.{IsTrue, slice_index}
use Rattle.std.proofs.lemmas.List.{get_or_read}
use Rattle.std.proofs.lemmas.Option.{slice_get_within}
use Rattle.stability_laws.specs.Book.{policy_at}
use Rattle.route_choice.specs.Leads.{ArePlainSenders}
use Rattle.three_pass.specs.Stances.{stances_of}
use Rattle.three_pass.specs.Ways.{IsStanceAt}
use Rattle.three_pass.specs.Lists.{list_at}
use Rattle.three_pass.proofs.Marking.{each_more}
use Rattle.three_pass.proofs.StanceLemmas.{under_same}
use Rattle.three_pass.proofs.way.Way.of.Goals as goal

pub loop-place-init : goal.loop-place-init
loop-place-init g c = record {
  count = λ all. ap length (c.none-stances.ensures all);
  each = λ all k s at. absurd (omega (arith, slice_get_within (stances_of c.none-stances.result all) k s at, ap length (c.none-stances.ensures all)));
}

pub loop-place-preserved : goal.loop-place-preserved
loop-place-preserved g c =
    let policy = λ (a : ℕ). g.P.RoutePolicy.meaning (policy_at c.args.world.now.book.now a) in
    let course = c.args.course.now in
    let xs = course.order.ases.items in
    let place = c.loop-place.place in
    let old = c.loop-place.stances in
    let new = c.push.new.self in
    let read = get_or_read xs place c.index-asn.result.now (omega (arith, c.loop-place-test.true, c.len-place-end.ensures)) c.index-asn.ensures 0 in
    record {
      count = λ all. (let (s, (is, stance)) = c.in_ok-push.ensures all in omega (arith, ap length is, length-append (stances_of old all) (s ∷ []), c.loop-place.invariant.count all));
      each = λ all.
          let (s, (is, under)) = c.in_ok-push.ensures all in
          each_more (IsStanceAt policy course all) (stances_of old all) (stances_of new all) s place is (c.loop-place.invariant.count all)
          (under_same (g.P.RoutePolicy.meaning c.policy_near.result.now) (policy (slice_index xs place)) all (IsTrue c.are_plain_senders-above.result) (ArePlainSenders policy (list_at course.above place)) s
          (ap g.P.RoutePolicy.meaning c.policy_near.ensures ∙ ap policy read)
          (λ yes. subst (ArePlainSenders policy) c.list-providers.ensures (c.are_plain_senders-above.ensures.0 yes), λ are. c.are_plain_senders-above.ensures.1 (subst (ArePlainSenders policy) (sym c.list-providers.ensures) are))
          under) (c.loop-place.invariant.each all);
    }

pub returns-clause-way : goal.returns-clause-way
returns-clause-way g c = record {
  course = c.requires;
  count = λ all. omega (arith, c.loop-place.invariant.count all, c.loop-place-test.false, c.len-place-end.ensures);
  stances = c.loop-place.invariant.each;
}
