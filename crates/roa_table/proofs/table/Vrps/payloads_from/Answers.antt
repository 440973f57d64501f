use Rattle.std.proofs.Common.{◌≡◌, ◌<◌, ◌∙◌, ap, sym, subst, length, take, drop}
use Rattle.roa_table.specs.Sets.{items}
use Rattle.roa_table.specs.Chunks.{all_of}
use Rattle.roa_table.proofs.Placed.{count_items}
use Rattle.roa_table.proofs.Tabled.{items_is}
use Rattle.roa_table.proofs.table.Vrps.payloads_from.Goals as goal

-- the payloads of all chunks are those of the set
all_is : (c : goal.After-payloads_from) → all_of c.as_slice.result.now ≡ items c.args.self.now
all_is c = ap all_of c.as_slice.ensures.value ∙ items_is c.self.inside.chunks.items c.self.inside.count c.self.invariant c.args.self.now c.self.view_is

pub returns-clause-next : goal.returns-clause-next
returns-clause-next c = c.payloads_from.ensures.next ∙ ap (λ vs. take (length c.payloads_from.result.now) (drop c.args.place vs)) (all_is c)

pub returns-clause-some : goal.returns-clause-some
returns-clause-some c = λ lt. c.payloads_from.ensures.some (subst (λ n. c.args.place < n) (count_items c.args.self.now ∙ ap length (sym (all_is c))) lt)
