use Rattle.std.proofs.Common.{Some, sym, ap, ◌∙◌}
use Rattle.std.specs.FinMap as fin
use Rattle.std.specs.Map.Iter.{deref_pair}
use Rattle.std.proofs.lemmas.Map.Iter.{btree_map_turn, iter_end}
use Rattle.net_names.proofs.Pairs.{pairs_total}
use Rattle.table_check.specs.Rows.{held_by}
use Rattle.table_check.proofs.RowMaps.{entry_none, entry_other, entry_put, get_row, one_more, routing_is, with_entries}
use Rattle.table_check.proofs.rows.Rows.routing.Goals as goal

pub put_copy-requires : goal.put_copy-requires
put_copy-requires c =
    let turn = btree_map_turn deref_pair c.rows.yielded c.into_iter-key-iterator.result c.rows.key-iterator c.next.new.self c.next.result (c.in-Some.key, c.in-Some.held)
    c.rows.yielded_by c.in-Some.is c.next.ensures.steps pairs_total c.self.inside.entries (cc) c.iter-key-items.ensures.ordered in
    c.self.invariant c.in-Some.key.now c.in-Some-held.entry (get_row c.self.inside.entries.entries c.in-Some.key.now ∙ turn.1 ∙ ap (λ o. Some o) c.in-Some-held.is)

pub rows-preserved-in-Continue-1 : goal.rows-preserved-in-Continue-1
rows-preserved-in-Continue-1 c =
    one_more deref_pair c.args.round fin.empty c.rows.routing c.put_copy.new.routing c.rows.yielded (c.in-Some.key, c.in-Some.held) c.rows.invariant
    (c.in_ok-put_copy.ensures ∙ entry_put c.args.round c.rows.routing c.in-Some.key.now c.in-Some.held.now c.in-Some-held.entry (sym c.in-Some-held.is) c.if-key-round.true)

pub rows-preserved-else-key-round : goal.rows-preserved-else-key-round
rows-preserved-else-key-round c =
    one_more deref_pair c.args.round fin.empty c.rows.routing c.rows.routing c.rows.yielded (c.in-Some.key, c.in-Some.held) c.rows.invariant
    (entry_other c.args.round c.rows.routing c.in-Some.key.now c.in-Some.held.now c.in-Some-held.entry (sym c.in-Some-held.is) c.if-key-round.false)

pub rows-preserved : goal.rows-preserved
rows-preserved c =
    one_more deref_pair c.args.round fin.empty c.rows.routing c.rows.routing c.rows.yielded (c.in-Some.key, c.in-Some.held) c.rows.invariant
    (entry_none c.args.round c.rows.routing c.in-Some.key.now c.in-Some.held.now c.in_default.is)

pub returns : goal.returns
returns c = λ a.
    let es = c.self.inside.entries.entries in
    let whole = iter_end deref_pair es c.rows.yielded c.into_iter-key-iterator.result c.rows.key-iterator c.next.new.self c.next.result (cc) c.rows.yielded_by c.in-None.is c.next.ensures.steps in
    ap (λ f. fin.get f a) (c.rows.invariant ∙ ap (with_entries c.args.round fin.empty) whole.0)
    ∙ routing_is c.args.round es c.iter-key-items.ensures.ordered a
    ∙ ap (λ rows. held_by rows c.args.round a) c.self.view_is
