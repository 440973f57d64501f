use Rattle.std.proofs.Common.{◌≡◌, ℕ, ◌+◌, true, false, true≢false, List, [], ◌∷◌, ◌++◌, length, get_or, take, sym, ◌∙◌, ap, subst, arith}
use Rattle.std.proofs.lemmas.List.{length_push, get_or_default}
use Rattle.as_places.proofs.PlaceLemmas.{distinct_push}
use Rattle.net_names.specs.Numbers.{occurs}
use Rattle.as_graph.specs.Topology.{has}
use Rattle.data_trace.specs.Comes.{Comes}
use Rattle.data_trace.proofs.Extending.{hop_added, group_added}
use Rattle.data_trace.proofs.Placing.{found_at, occurs_at}
use Rattle.data_trace.proofs.Coming.{comes_over, comes_more, room_left}
use Rattle.data_trace.proofs.watch.Watch.come.Goals as goal

pub add_place-requires-clause-spare : goal.add_place-requires-clause-spare
add_place-requires-clause-spare c =
    let keys : List ℕ = c.coming.self.ases.ases in
    let here : has c.args.graph.now c.asn-item.result ≡ true = sym c.has.ensures ∙ c.if-not-has.false in
    let k = room_left c.args.graph.now (take c.coming.asn-index c.args.coming.now) c.args.self.now.ases.ases keys c.ases-all.result.now c.asn-item.result c.coming.invariant.comes
    (distinct_push keys c.asn-item.result c.coming.self.apart c.in-None.ensures.none) here c.ases-all.ensures.listed in
    omega (arith, k, c.ases-all.ensures.counted, c.requires, c.coming.invariant.spare)

pub coming-preserved-in-Some : goal.coming-preserved-in-Some
coming-preserved-in-Some c =
    let xs : List ℕ = c.args.coming.now in
    let i : ℕ = c.coming.asn-index in
    let keys : List ℕ = c.coming.self.ases.ases in
    let asn : c.asn-item.result ≡ get_or xs i 0 = c.asn-item.is ∙ get_or_default xs i c.asn-item.result 0 c.coming-test.true in
    let at = found_at keys c.asn-item.result c.in-Some.field-0 c.in-Some.ensures.found in
    let there : occurs (get_or xs i 0) keys ≡ true = subst (λ a. occurs a keys ≡ true) (at.1 ∙ asn) (occurs_at keys c.in-Some.field-0 at.0) in
    record {
      comes = comes_over c.args.graph.now xs c.args.self.now.ases.ases keys i c.coming-test.true c.coming.invariant.comes (λ _. there);
      spare = c.coming.invariant.spare;
      lists = c.coming.invariant.lists;
      addr = c.coming.invariant.addr;
      hops = c.coming.invariant.hops;
      groups = c.coming.invariant.groups;
    }

pub coming-preserved-then-not-has : goal.coming-preserved-then-not-has
coming-preserved-then-not-has c =
    let xs : List ℕ = c.args.coming.now in
    let i : ℕ = c.coming.asn-index in
    let asn : c.asn-item.result ≡ get_or xs i 0 = c.asn-item.is ∙ get_or_default xs i c.asn-item.result 0 c.coming-test.true in
    let out : has c.args.graph.now (get_or xs i 0) ≡ false = ap (has c.args.graph.now) (sym asn) ∙ sym c.has.ensures ∙ c.if-not-has.true in
    record {
      comes = comes_over c.args.graph.now xs c.args.self.now.ases.ases c.coming.self.ases.ases i c.coming-test.true c.coming.invariant.comes (λ h. absurd (true≢false (sym h ∙ out)));
      spare = c.coming.invariant.spare;
      lists = c.coming.invariant.lists;
      addr = c.coming.invariant.addr;
      hops = c.coming.invariant.hops;
      groups = c.coming.invariant.groups;
    }

pub coming-preserved : goal.coming-preserved
coming-preserved c =
    let xs : List ℕ = c.args.coming.now in
    let i : ℕ = c.coming.asn-index in
    let asn : c.asn-item.result ≡ get_or xs i 0 = c.asn-item.is ∙ get_or_default xs i c.asn-item.result 0 c.coming-test.true in
    let here : has c.args.graph.now (get_or xs i 0) ≡ true = ap (has c.args.graph.now) (sym asn) ∙ sym c.has.ensures ∙ c.if-not-has.false in
    let keys : c.add_place.new.self.ases.ases ≡ c.coming.self.ases.ases ++ get_or xs i 0 ∷ [] = c.add_place.ensures.ases ∙ ap (λ a. c.coming.self.ases.ases ++ a ∷ []) asn in
    record {
      comes = subst (λ (ks : List ℕ). Comes c.args.graph.now (take (i + 1) xs) c.args.self.now.ases.ases ks) (sym keys) (comes_more c.args.graph.now xs c.args.self.now.ases.ases c.coming.self.ases.ases i c.coming-test.true c.coming.invariant.comes here);
      spare = omega (arith, ap length keys, length_push c.coming.self.ases.ases (get_or xs i 0), c.add_place.ensures.spare, c.coming.invariant.spare);
      lists = c.add_place.ensures.lists ∙ c.coming.invariant.lists;
      addr = c.add_place.ensures.addr ∙ c.coming.invariant.addr;
      hops = λ x. hop_added c.coming.self.columns.hops.items c.add_place.new.self.columns.hops.items c.add_place.ensures.hops x ∙ c.coming.invariant.hops x;
      groups = λ x. group_added c.coming.self.columns.groups.items c.add_place.new.self.columns.groups.items c.add_place.ensures.groups x ∙ c.coming.invariant.groups x;
    }
