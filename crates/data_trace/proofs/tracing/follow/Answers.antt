use Rattle.std.proofs.Common.{rules, ◌≡◌, ℕ, ◌<◌, length, false, nat_eq, [], ◌∷◌, ◌++◌, sym, ◌∙◌, ap, subst, arith}
use Rattle.std.specs.List.{list_any}
use Rattle.std.proofs.lemmas.List.{length_push}
use Rattle.std.proofs.lemmas.Map.Steps.{length-le_from_distinct_below}
use Rattle.data_trace.specs.declared.kinds.Hop.{Hop}
use Rattle.data_trace.specs.declared.kinds.Hop.TheVariants.{To}
use Rattle.data_trace.specs.NextHops.{hops_by}
use Rattle.data_trace.specs.Traces.{IsIn}
use Rattle.data_trace.proofs.Traces.{IsWay, last_of, way_push, below_push, last_push}
use Rattle.data_trace.proofs.tracing.follow.Goals as goal

pub steps-smaller : goal.steps-smaller
steps-smaller c =
    let e : c.insert-in-To.new.self.keys ≡ c.steps.ases.keys ++ c.in-To.next ∷ [] = search rules in
    omega (
      arith,
      ap length e,
      length_push c.steps.ases.keys c.in-To.next,
      length-le_from_distinct_below c.steps.ases.keys 4294967296 c.steps.invariant.way.distinct c.steps.invariant.small,
    )

pub steps-preserved : goal.steps-preserved
steps-preserved c =
    let f = c.args.forwarding.now in
    let next : ℕ → Hop = hops_by f in
    let e : c.insert-in-To.new.self.keys ≡ c.steps.ases.keys ++ c.in-To.next ∷ [] = search rules in
    let out : list_any (nat_eq c.in-To.next) c.steps.ases.keys ≡ false = search rules in
    let s : next (last_of c.steps.ases.keys) ≡ To c.in-To.next = ap next c.steps.invariant.last ∙ sym c.in-To.ensures in
    let b : c.in-To.next < 4294967296 = search rules in
    record {
      way = subst (λ ks. IsWay next c.args.asn ks) (sym e) (way_push next c.args.asn c.in-To.next c.steps.ases.keys c.steps.invariant.way s out);
      last = ap last_of e ∙ last_push c.steps.ases.keys c.in-To.next;
      small = subst (λ ks. (q : ℕ) → IsIn q ks → q < 4294967296) (sym e) (λ q. below_push q c.in-To.next c.steps.ases.keys 4294967296 c.steps.invariant.small b);
    }
