use Rattle.std.proofs.Common.{◌≡◌, ◌≢◌, ⊎_elim, ℕ, ◌<◌, true, false, List, length, get_or, take, true≢false, sym, ◌∙◌, ap, subst, arith}
use Rattle.std.proofs.lemmas.Bool.{cases_eq}
use Rattle.std.proofs.lemmas.List.{get_or_default, get_or-set_same, get_or-set_other}
use Rattle.net_names.specs.Numbers.{occurs}
use Rattle.stability_laws.specs.Book.{policy_at}
use Rattle.data_trace.specs.declared.places.Group.{Group}
use Rattle.data_trace.specs.Counted.{AreCounted}
use Rattle.data_trace.specs.Columns.{name_at, group_at, gone, IsGroup}
use Rattle.data_trace.proofs.Placing.{found_at, found_only, occurs_more, occurs_not_more, occurs_at}
use Rattle.data_trace.proofs.renewal.regroup.Goals as goal

pub regrouped-preserved-in_default : goal.regrouped-preserved-in_default
regrouped-preserved-in_default g c =
    let keys : List ℕ = c.args.ases.now.ases in
    let xs : List ℕ = c.args.regrouped.now in
    let i : ℕ = c.regrouped.asn-index in
    let asn : c.asn-item.result ≡ get_or xs i 0 = c.asn-item.is ∙ get_or_default xs i c.asn-item.result 0 c.regrouped-test.true in
    let out : occurs c.asn-item.result keys ≡ false = c.in_default.ensures.none in
    let other : (x : ℕ) → x < length keys → name_at keys x ≢ get_or xs i 0 = λ x l e. true≢false (sym (subst (λ a. occurs a keys ≡ true) (e ∙ sym asn) (occurs_at keys x l)) ∙ out) in
    record {
      done = λ x l o. c.regrouped.invariant.done x l (⊎_elim (λ (e : name_at keys x ≡ get_or xs i 0). absurd (other x l e)) (λ (q : occurs (name_at keys x) (take i xs) ≡ true). q) (occurs_more (name_at keys x) xs i c.regrouped-test.true o));
      others = λ x l o. c.regrouped.invariant.others x l (occurs_not_more (name_at keys x) xs i c.regrouped-test.true o).1;
      counted = c.regrouped.invariant.counted;
      sums_room = c.regrouped.invariant.sums_room;
    }

pub regrouped-preserved : goal.regrouped-preserved
regrouped-preserved g c =
    let keys : List ℕ = c.args.ases.now.ases in
    let xs : List ℕ = c.args.regrouped.now in
    let i : ℕ = c.regrouped.asn-index in
    let p : ℕ = c.in-Some.place in
    let label : ℕ → ℕ = λ a. g.P.Labelled.label_of (policy_at c.args.book.now a) in
    let asn : c.asn-item.result ≡ get_or xs i 0 = c.asn-item.is ∙ get_or_default xs i c.asn-item.result 0 c.regrouped-test.true in
    let at : (p < length keys) × (name_at keys p ≡ c.asn-item.result) = found_at keys c.asn-item.result p c.in-Some.ensures.found in
    let len : length c.regrouped.groups ≡ length keys = c.regrouped.invariant.counted.groups_len in
    let here : group_at c.put_group.new.groups p ≡ c.group_now-group.result = ap (λ (gs : List Group). group_at gs p) c.put_group.ensures.groups ∙ get_or-set_same c.regrouped.groups p c.group_now-group.result gone (omega (arith, at.0, len)) in
    let there : (x : ℕ) → x ≢ p → group_at c.put_group.new.groups x ≡ group_at c.regrouped.groups x = λ x ne. ap (λ (gs : List Group). group_at gs x) c.put_group.ensures.groups ∙ get_or-set_other c.regrouped.groups p x c.group_now-group.result gone ne in
    let only : (x : ℕ) → x < length keys → name_at keys x ≡ c.asn-item.result → x ≡ p = λ x l e. found_only keys c.asn-item.result p x c.as_slice.ensures.apart c.in-Some.ensures.found l e in
    let new : IsGroup c.args.graph.now label (name_at keys p) (group_at c.put_group.new.groups p) =
    subst (λ (t : Group). IsGroup c.args.graph.now label (name_at keys p) t) (sym here) (subst (λ a. IsGroup c.args.graph.now label a c.group_now-group.result) (sym at.1) c.group_now-group.ensures) in
    record {
      done = λ x l o. ⊎_elim (λ (e : x ≡ p). subst (λ y. IsGroup c.args.graph.now label (name_at keys y) (group_at c.put_group.new.groups y)) (sym e) new)
          (λ (ne : x ≢ p). subst (λ (t : Group). IsGroup c.args.graph.now label (name_at keys x) t) (sym (there x ne)) (c.regrouped.invariant.done x l
          (⊎_elim (λ (e : name_at keys x ≡ get_or xs i 0). absurd (ne (only x l (e ∙ sym asn)))) (λ (q : occurs (name_at keys x) (take i xs) ≡ true). q) (occurs_more (name_at keys x) xs i c.regrouped-test.true o)))) (cases_eq x p);
      others = λ x l o. let q : (name_at keys x ≢ get_or xs i 0) × (occurs (name_at keys x) (take i xs) ≡ false) = occurs_not_more (name_at keys x) xs i c.regrouped-test.true o in
          there x (λ e. q.0 (ap (name_at keys) e ∙ at.1 ∙ asn)) ∙ c.regrouped.invariant.others x l q.1;
      counted = subst (λ (ks : List ℕ). AreCounted c.put_group.new.sums ks c.as_slice-marks.result.now c.put_group.new.groups) c.as_slice.ensures.list c.put_group.ensures.counted;
      sums_room = omega (arith, c.regrouped.invariant.sums_room, c.put_group.ensures.room);
    }
