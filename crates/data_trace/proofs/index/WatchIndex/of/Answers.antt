use Rattle.std.proofs.Common.{List, sym, ◌∙◌, ap, subst, length, ℕ}
use Rattle.stability_laws.specs.Book.{policy_at}
use Rattle.data_trace.specs.Columns.{AreGroups, name_at}
use Rattle.data_trace.proofs.Placing.{occurs_at}
use Rattle.data_trace.proofs.index.WatchIndex.of.Goals as goal

pub invariant_of-result-clause-here : goal.invariant_of-result-clause-here
invariant_of-result-clause-here g c = λ x l.
    let keys : List ℕ = c.in_ok-ases.ases.ases in
    let groups : AreGroups c.args.graph.now (λ a. g.P.Labelled.label_of (policy_at c.args.book.now a)) keys c.in_ok-groups.groups.items = subst (λ (ks : List ℕ). AreGroups c.args.graph.now (λ a. g.P.Labelled.label_of (policy_at c.args.book.now a)) ks c.in_ok-groups.groups.items) c.as_slice.ensures.list c.in_ok-groups.ensures in
    (groups.each x l).here ∙ sym (c.in_ok-ases.ensures.listed (name_at keys x)) ∙ occurs_at keys x l

pub invariant_of-result-clause-groups_len : goal.invariant_of-result-clause-groups_len
invariant_of-result-clause-groups_len g c = c.in_ok-groups.ensures.len ∙ ap length c.as_slice.ensures.list

pub returns : goal.returns
returns g c = record {
  listed = c.in_ok-ases.ensures.listed;
  groups = subst (λ (ks : List ℕ). AreGroups c.args.graph.now (λ a. g.P.Labelled.label_of (policy_at c.args.book.now a)) ks c.in_ok-groups.groups.items) c.as_slice.ensures.list c.in_ok-groups.ensures;
}
