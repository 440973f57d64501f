use Rattle.std.proofs.Common.{◌≡◌, inl, inr, slice_index, sym, ◌∙◌, ap, subst, arith}
use Rattle.std.proofs.lemmas.Bool.{cases_lt}
use Rattle.std.proofs.lemmas.List.{get_or_read}
use Rattle.as_graph.specs.Topology.{relation}
use Rattle.three_pass.specs.Lists.{AreProviders, list_at}
use Rattle.three_pass.proofs.course.providers_of.Goals as goal

pub loop-place-preserved : goal.loop-place-preserved
loop-place-preserved c =
    let w = relation c.args.graph.now in
    let ases = c.args.ases.now in
    let i = c.loop-place.place in
    let same : slice_index ases i ≡ c.index-ases-place.result = sym (get_or_read ases i c.index-ases-place.result c.loop-place-test.true c.index-ases-place.is 0) in
    let list : list_at c.push.new.self i ≡ c.put_providers.new.list.neighbours.items = ap (list_at c.push.new.self) (sym c.loop-place.invariant.count) ∙ c.in_ok-push.ensures.this in
    record {
      count = omega (arith, c.in_ok-push.ensures.count, c.loop-place.invariant.count);
      each = λ k less. elim (cases_lt k i) [
        | inl before ↦ subst (AreProviders w (slice_index ases k)) (sym (c.in_ok-push.ensures.others k (omega (arith, before, c.loop-place.invariant.count)))) (c.loop-place.invariant.each k before)
        | inr past ↦ (let e : i ≡ k = omega (arith, less, past) in
            subst (λ n. AreProviders w (slice_index ases n) (list_at c.push.new.self n)) e
            (coe 0 1 (j. AreProviders w (sym same j) (sym list j)) c.in_ok-put_providers.ensures))
      ];
    }
