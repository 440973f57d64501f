use Rattle.std.proofs.Common.{◌≡◌, ◌++◌, true, List, Some, sym, ◌∙◌, ap, subst}
use Rattle.std.specs.Prelude.{All}
use Rattle.net_names.specs.Numbers.{occurs}
use Rattle.as_graph.specs.declared.neighbour.Neighbour.{Neighbour}
use Rattle.as_graph.specs.Neighbours.{asns}
use Rattle.three_pass.specs.Lists.{list_at}
use Rattle.three_pass.proofs.passes.gather.Goals as goal

-- the providers stand in the list
providers : (c : goal.After-put_tellers) → c.put_all.new.self.neighbours.items ≡ list_at c.args.course.now.above c.args.place
providers c = c.put_all.ensures c.if-put_all.true ∙ ap (λ xs. xs ++ c.list.result.now) c.clear.ensures ∙ c.list.ensures

pub returns-then-put_all-clause-each : goal.returns-then-put_all-clause-each
returns-then-put_all-clause-each c = λ t w are each.
    let P : Neighbour → Type 0 = λ x. w c.args.asn x.asn ≡ Some x.rel in
    c.put_tellers.ensures.each t w are (subst (All P) (sym (providers c)) each)

pub returns-then-put_all-clause-above : goal.returns-then-put_all-clause-above
returns-then-put_all-clause-above c = λ t n there. c.put_tellers.ensures.others t n (subst (λ (xs : List Neighbour). occurs n (asns xs) ≡ true) (sym (providers c)) there)
