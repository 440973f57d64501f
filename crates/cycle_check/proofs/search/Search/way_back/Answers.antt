use Rattle.std.proofs.Common.{◌≡◌, ◌<◌, ◌++◌, ◌∷◌, [], ℕ, List, Option, sym, ap, ◌∙◌, subst, arith}
use Rattle.net_names.specs.declared.routes.Rel.{Rel}
use Rattle.cycle_check.specs.Searches.{reached_at, from_at, AreReached, IsBack, IsWayTo}
use Rattle.cycle_check.proofs.Reaching.{back_more, back_whole}
use Rattle.cycle_check.proofs.search.Search.way_back.Goals as goal

pub loop-place-preserved : goal.loop-place-preserved
loop-place-preserved c =
    let es : List (ℕ × ℕ) = c.args.self.now.reached.entries in
    let pos : 0 < c.loop-place.place = omega (arith, c.loop-place-test.true) in
    let next : c.at-asn.result.1 ≡ from_at es c.loop-place.place = ap (λ p. p.1) c.at-asn.ensures in
    let way : c.push.new.self.items ≡ c.loop-place.way.items ++ reached_at es c.loop-place.place ∷ [] = c.in_ok-push.ensures.items ∙ ap (λ a. c.loop-place.way.items ++ a ∷ []) (ap (λ p. p.0) c.at-asn.ensures) in
    let low = c.requires.earlier c.loop-place.place pos c.loop-place.invariant.inside in
    record {
      inside = omega (arith, next, low, c.loop-place.invariant.inside);
      back = λ relation r. subst (λ i. IsBack relation es c.args.from i c.push.new.self.items) (sym next) (subst (IsBack relation es c.args.from (from_at es c.loop-place.place)) (sym way)
          (back_more relation c.args.start es c.requires.unique r c.args.from c.loop-place.place c.loop-place.way.items (c.loop-place.invariant.back relation r) c.loop-place.invariant.inside pos));
    }

pub returns : goal.returns
returns c = λ relation r.
    (let es : List (ℕ × ℕ) = c.args.self.now.reached.entries in
    subst (IsWayTo relation (reached_at es c.args.from) c.args.start) (sym c.in_ok-push-2.ensures.items)
    (back_whole relation c.args.start es c.requires.unique r c.args.from c.loop-place.place c.loop-place.way.items (c.loop-place.invariant.back relation r) c.loop-place.invariant.inside (omega (arith, c.loop-place-test.false))))
