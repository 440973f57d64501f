use Rattle.std.proofs.Common.{sym, ap, ◌∙◌, ◌≡◌, set, length, Some, List, subst, length-set, ◌+◌, ◌≤◌}
use Rattle.std.proofs.lemmas.Bool.{leb-true, false≢true}
use Rattle.smallvec.proofs.SmallVecLemmas.{items-with_items}
use Rattle.std.specs.List.{refill}
use Rattle.as_graph.specs.declared.neighbour.Neighbour.{Neighbour}
use Rattle.as_graph.specs.Rows.{SetsRel}
use Rattle.as_graph.proofs.RowLemmas.{rel_in-gap}
use Rattle.as_graph.proofs.RowEdits.{sets_only_set, sets_only_insert}
use Rattle.as_graph.proofs.row.Row.put.Goals as goal

pub unreachable-requires : goal.unreachable-requires
unreachable-requires c =
    let room : length c.args.self.now.neighbours.items + 1 ≤ c.args.self.now.neighbours.capacity = leb-true _ _ (c.requires (rel_in-gap c.args.self.now.neighbours.items c.args.asn c.in-Err.at c.in-Err.ensures.absent)) in
    false≢true (c.in-Err-insert.ensures.succeeds room)

pub returns-in-Ok-clause-sets : goal.returns-in-Ok-clause-sets
returns-in-Ok-clause-sets c =
    let l : List Neighbour = c.args.self.now.neighbours.items in
    let e : refill (length l) l (set c.as_mut_slice-all.result.now c.in-Ok.at (record { asn = c.args.asn; rel = c.args.rel })) ≡ set l c.in-Ok.at (record { asn = c.args.asn; rel = c.args.rel }) =
    items-with_items c.args.self.now.neighbours _ (length-set c.as_mut_slice-all.result.now c.in-Ok.at (record { asn = c.args.asn; rel = c.args.rel }) ∙ ap length c.as_mut_slice-all.ensures.value)
    ∙ ap (λ m. set m c.in-Ok.at (record { asn = c.args.asn; rel = c.args.rel })) c.as_mut_slice-all.ensures.value in
    subst (λ m. SetsRel l m c.args.asn (Some c.args.rel)) (sym e) (sets_only_set l c.args.self.now.rising c.args.asn c.in-Ok.at c.in-Ok.ensures.found c.args.rel)

pub returns-in-Ok-insert-clause-sets : goal.returns-in-Ok-insert-clause-sets
returns-in-Ok-insert-clause-sets c =
    let l : List Neighbour = c.args.self.now.neighbours.items in
    subst (λ m. SetsRel l m c.args.asn (Some c.args.rel)) (sym c.in-Ok-insert.ensures.ok) (sets_only_insert l c.args.asn c.in-Err.at c.in-Err.ensures.absent c.args.rel)
