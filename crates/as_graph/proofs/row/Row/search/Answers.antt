use Rattle.std.proofs.Common.{rules}
use Rattle.std.proofs.lemmas.List.Sorted.{answers_always}
use Rattle.as_graph.specs.declared.neighbour.Neighbour.{Neighbour}
use Rattle.as_graph.proofs.RowLemmas.{searched_in}
use Rattle.as_graph.proofs.row.Row.search.Goals as goal

pub returns-clause-found : goal.returns-clause-found
returns-clause-found c =
    let facts = c.binary_search_by_key.ensures in
    (searched_in _ _ c.as_slice.ensures c.args.self.now.rising c.args.asn _ facts.bound
    (facts.position (λ (n : Neighbour). n.asn) (answers_always _ _ _ (λ f a r g called. search rules)))).found

pub returns-clause-absent : goal.returns-clause-absent
returns-clause-absent c =
    let facts = c.binary_search_by_key.ensures in
    (searched_in _ _ c.as_slice.ensures c.args.self.now.rising c.args.asn _ facts.bound
    (facts.position (λ (n : Neighbour). n.asn) (answers_always _ _ _ (λ f a r g called. search rules)))).absent
