use Rattle.std.proofs.Common.{rules, ◌≡◌, ℕ, ◌<◌, ◌+◌, List, [], ◌∷◌, ◌++◌, length, get_or, sym, ◌∙◌, ap, subst, arith}
use Rattle.std.proofs.lemmas.List.{length_push, get_or_default}
use Rattle.data_trace.specs.declared.kinds.Hop.{Hop}
use Rattle.data_trace.specs.declared.places.PlaceHop.{PlaceHop}
use Rattle.data_trace.specs.declared.places.PlaceHop.TheVariants.{To}
use Rattle.data_trace.specs.NextHops.{hops_by}
use Rattle.data_trace.specs.Marks.{hop_at}
use Rattle.data_trace.specs.Columns.{named, name_at}
use Rattle.data_trace.proofs.Naming.{within_push, follows_push}
use Rattle.data_trace.proofs.columns.hops_of.Goals as goal

pub of-requires : goal.of-requires
of-requires c = λ y e. omega (arith, c.place_of-placed.ensures.within y e, c.requires.few)

pub loop-place-preserved : goal.loop-place-preserved
loop-place-preserved c =
    let f = c.args.forwarding.now in
    let next : ℕ → Hop = hops_by f in
    let keys : List ℕ = c.args.ases.now.ases in
    let old : List PlaceHop = c.loop-place.hops.items in
    let h : PlaceHop = c.place_of-placed.result in
    let n : ℕ = c.loop-place.place in
    let e : c.push.new.self.items ≡ old ++ h ∷ [] = search rules in
    let l : n < length keys = omega (arith, c.loop-place-test.true, ap length c.as_slice-numbers.ensures.list) in
    let asn : c.index-numbers-place.result ≡ name_at keys n = c.index-numbers-place.is ∙ ap (λ (ks : List ℕ). get_or ks n c.index-numbers-place.result) c.as_slice-numbers.ensures.list ∙ get_or_default keys n c.index-numbers-place.result 0 l in
    let at : named keys h ≡ next (name_at keys n) = c.place_of-placed.ensures.named ∙ c.next-hop.ensures ∙ ap next asn in
    record {
      len = ap length e ∙ length_push old h ∙ ap (λ k. k + 1) c.loop-place.invariant.len;
      within = subst (λ (hs : List PlaceHop). (x y : ℕ) → hop_at hs x ≡ To y → y < length keys) (sym e) (within_push keys next old h n (length keys) c.loop-place.invariant.len c.loop-place.invariant.within c.place_of-placed.ensures.within);
      follows = subst (λ (hs : List PlaceHop). (x : ℕ) → x < n + 1 → named keys (hop_at hs x) ≡ next (name_at keys x)) (sym e) (follows_push keys next old h n (length keys) c.loop-place.invariant.len c.loop-place.invariant.follows at);
    }
