use Rattle.std.proofs.Common.{rules, ◌≡◌, ℕ, ◌<◌, ◌+◌, List, [], ◌∷◌, ◌++◌, length, sym, ◌∙◌, ap, subst}
use Rattle.std.proofs.lemmas.List.{length_push, get_or_default}
use Rattle.stability_laws.specs.Book.{policy_at}
use Rattle.data_trace.specs.declared.places.Group.{Group}
use Rattle.data_trace.specs.Columns.{name_at, group_at, IsGroup}
use Rattle.data_trace.proofs.Naming.{each_push}
use Rattle.data_trace.proofs.columns.groups_of.Goals as goal

pub loop-place-preserved : goal.loop-place-preserved
loop-place-preserved g c =
    let label : ℕ → ℕ = λ a. g.P.Labelled.label_of (policy_at c.args.book.now a) in
    let P : ℕ → Group → Type 0 = λ x group. IsGroup c.args.graph.now label (name_at c.args.ases.now x) group in
    let old : List Group = c.loop-place.groups.items in
    let n : ℕ = c.loop-place.place in
    let e : c.push.new.self.items ≡ old ++ c.group_of.result ∷ [] = search rules in
    let asn : c.index-ases-place.result ≡ name_at c.args.ases.now n = c.index-ases-place.is ∙ get_or_default c.args.ases.now n c.index-ases-place.result 0 c.loop-place-test.true in
    let at : P n c.group_of.result = subst (λ a. IsGroup c.args.graph.now label a c.group_of.result) asn c.group_of.ensures in
    record {
      len = ap length e ∙ length_push old c.group_of.result ∙ ap (λ k. k + 1) c.loop-place.invariant.len;
      each = subst (λ (gs : List Group). (x : ℕ) → x < n + 1 → P x (group_at gs x)) (sym e) (each_push P old c.group_of.result n c.loop-place.invariant.len c.loop-place.invariant.each at);
    }
