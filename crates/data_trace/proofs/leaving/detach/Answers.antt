use Rattle.std.proofs.Common.{◌≡◌, ⊎_elim, ℕ, true, List, get_or, take, sym, ◌∙◌, subst}
use Rattle.std.proofs.lemmas.List.{get_or_default}
use Rattle.net_names.specs.Numbers.{occurs}
use Rattle.data_trace.specs.Columns.{name_at}
use Rattle.data_trace.specs.Sources.{HasHop}
use Rattle.data_trace.proofs.Detaching.{detached_then, can_still}
use Rattle.data_trace.proofs.Placing.{found_only, occurs_more}
use Rattle.data_trace.proofs.leaving.detach.Goals as goal

pub changed-preserved : goal.changed-preserved
changed-preserved c =
    let keys : List ℕ = c.args.ases.now.ases in
    let xs : List ℕ = c.args.changed.now in
    let i : ℕ = c.changed.asn-index in
    let asn : c.asn-item.result ≡ get_or xs i 0 = c.asn-item.is ∙ get_or_default xs i c.asn-item.result 0 c.changed-test.true in
    record {
      done = λ x l o. ⊎_elim (λ (e : name_at keys x ≡ get_or xs i 0). subst (HasHop c.args.source.now keys c.detach_place.new.columns.hops.items) (sym (found_only keys c.asn-item.result c.in-Some.place x c.as_slice-numbers.ensures.apart c.in-Some.ensures.found l (e ∙ sym asn))) c.detach_place.ensures.here)
          (λ (q : occurs (name_at keys x) (take i xs) ≡ true). c.detach_place.ensures.detached.change.right x (c.changed.invariant.done x l q)) (occurs_more (name_at keys x) xs i c.changed-test.true o);
      detached = detached_then c.args.source.now keys _ _ _ _ _ _ c.changed.invariant.detached c.detach_place.ensures.detached;
    }

pub detach_place-requires-clause-can : goal.detach_place-requires-clause-can
detach_place-requires-clause-can c = can_still c.args.source.now c.args.ases.now.ases _ _ _ _ c.requires c.changed.invariant.detached
