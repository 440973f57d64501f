use Rattle.std.proofs.Common.{rules, ◌<◌, arith, refl, subst}
use Rattle.std.proofs.lemmas.List.{take_all}
use Rattle.net_names.specs.LinkLists.{AreLinks}
use Rattle.net_names.proofs.LinkLemmas.{are_none, one_more, not_found, at_the_end}
use Rattle.net_names.proofs.links.are_rising.Goals as goal

pub loop-count-init : goal.loop-count-init
loop-count-init c = record { within = omega arith; few = omega (arith, c.if-links-gt-MOST_LINKS.false); so_far = are_none }

pub loop-count-preserved : goal.loop-count-preserved
loop-count-preserved c = record {
  within = omega (arith, c.loop-count-test.true);
  few = c.loop-count.invariant.few;
  so_far =
      let lower : c.index-links-count.result.lo < c.index-links-count.result.hi = search rules in
      one_more c.args.links.now c.loop-count.count c.in-Err.at c.index-links-count.result _ c.loop-count.invariant.few c.loop-count-test.true c.index-links-count.is refl c.loop-count.invariant.so_far lower c.if-at-count.false c.in-Err.ensures.bound c.in-Err.ensures.position;
}

pub returns-in-Ok : goal.returns-in-Ok
returns-in-Ok c = (λ no. cc, λ all. absurd (not_found c.args.links.now c.loop-count.count c.in-Ok.field-0 c.index-links-count.result _ c.loop-count-test.true c.index-links-count.is refl c.loop-count.invariant.so_far all (c.in-Ok.ensures.bound, c.in-Ok.ensures.position)))

pub returns-then-at-count : goal.returns-then-at-count
returns-then-at-count c = (λ no. cc, λ all. absurd (c.if-at-count.true (at_the_end c.args.links.now c.loop-count.count c.in-Err.at c.index-links-count.result _ c.loop-count-test.true c.index-links-count.is refl c.loop-count.invariant.so_far all (c.in-Err.ensures.bound, c.in-Err.ensures.position))))

pub returns : goal.returns
returns c = (λ _. subst AreLinks (take_all c.loop-count.count c.args.links.now c.loop-count-test.false) c.loop-count.invariant.so_far, λ _. refl)
