use Rattle.std.proofs.Common.{rules, ◌≡◌, ◌≤◌, ◌||◌, ◌==◌, ◌+◌, ℕ, List, length, false, None, sym, subst, ◌∙◌, ap, arith}
use Rattle.std.proofs.lemmas.Bool.{false≢true, false_from_ne_true}
use Rattle.indexmap.specs.IndexMap.{index_map_len}
use Rattle.net_names.specs.Numbers.{occurs}
use Rattle.as_graph.specs.declared.error.GraphError.TheVariants.{Memory}
use Rattle.as_graph.specs.Topology.{Topology, as_count}
use Rattle.as_graph.specs.Room.{is_room_for}
use Rattle.as_graph.specs.Edits.{with_link}
use Rattle.as_graph.specs.Refusals.{IsLinkRefusal}
use Rattle.as_graph.specs.Graphs.{rel_of, topology_of}
use Rattle.as_graph.proofs.Kept.{rel_read}
use Rattle.as_graph.proofs.LinkTopology.{room_there, row_of_room, roomy-linked, place_left}
use Rattle.as_graph.proofs.GraphEdits.{rows_listed, rows_more, invariant_made, place_made, refused_made, seen_linked, topology_of-added, kept-added}
use Rattle.as_graph.proofs.graph.Graph.add.Goals as goal

pub invariant_of-self : goal.invariant_of-self
invariant_of-self c = invariant_made c.self.inside.rows c.make_ends.new.rows c.self.inside.order.items c.make_ends.new.order.items c.self.inside.links c.self.invariant.0 c.make_ends.ensures.keeps c.make_ends.ensures.order _ c.self.inside.room _ c.self.invariant.1 (c.make_ends.ensures.places c.self.invariant.1.ordered)

pub returns-in_err-make_ends-clause-err : goal.returns-in_err-make_ends-clause-err
returns-in_err-make_ends-clause-err c = refused_made c.self.inside.rows c.make_ends.new.rows c.self.inside.order.items c.self.inside.links c.self.invariant.0 c.make_ends.ensures.keeps c.from_residual.result c.self.inside.room c.args.self.now c.self.view_is

pub returns-in_err-make_ends-clause-refused : goal.returns-in_err-make_ends-clause-refused
returns-in_err-make_ends-clause-refused c =
    let new : rel_of c.self.inside.rows c.args.a c.args.b ≡ None = sym (rel_read c.self.inside.rows c.self.inside.order.items c.self.inside.links c.self.invariant.0 c.args.self.now c.self.inside.room c.self.view_is c.args.a c.args.b) ∙ c.requires.new in
    let room : c.self.inside.room ≡ c.args.self.now.room = ap (λ (g : Topology). g.room) c.self.view_is in
    let none : is_room_for c.args.self.now.room c.args.a c.args.b ≡ false = false_from_ne_true (is_room_for c.args.self.now.room c.args.a c.args.b) (λ h.
    (let both = room_there c.self.inside.rows c.self.inside.room c.args.a c.args.b c.self.invariant.0.graph c.self.invariant.1.paired new (ap (λ o. is_room_for o c.args.a c.args.b) room ∙ h) in
    false≢true (c.in_err-make_ends.ensures.succeeds both.0 both.1))) in
    let memory : IsLinkRefusal c.args.self.now c.args.a c.args.b c.args.rel Memory = (c.requires.new, none) in
    search (rules, memory)

pub list-requires-clause-room : goal.list-requires-clause-room
list-requires-clause-room c = λ new.
    (let left = place_made c.self.inside.rows c.make_ends.new.rows c.self.inside.order.items c.make_ends.new.order.items c.self.inside.links c.self.invariant.0 c.make_ends.ensures.keeps c.make_ends.ensures.order c.args.a (row_of_room c.make_ends.new.rows c.args.a c.in_ok-make_ends.ensures.room.0) new in
    omega (arith, left, c.make_ends.ensures.places c.self.invariant.1.ordered, c.make_ends.new.order.ok.0))

pub list-requires-2-clause-room : goal.list-requires-2-clause-room
list-requires-2-clause-room c = λ new.
    (let rows = rows_listed c.self.inside.rows c.make_ends.new.rows c.self.inside.order.items c.make_ends.new.order.items c.self.inside.links c.self.invariant.0 c.make_ends.ensures.keeps c.make_ends.ensures.order in
    let left : length c.list.new.order.items + 1 ≤ index_map_len c.make_ends.new.rows =
    place_left c.make_ends.new.rows c.list.new.order.items c.args.b c.make_ends.ensures.keeps.unique c.list.ensures.rising
    (rows_more c.make_ends.new.rows c.make_ends.new.order.items c.list.new.order.items c.args.a c.list.ensures.listed rows (row_of_room c.make_ends.new.rows c.args.a c.in_ok-make_ends.ensures.room.0))
    (row_of_room c.make_ends.new.rows c.args.b c.in_ok-make_ends.ensures.room.1) new in
    omega (arith, left, c.make_ends.ensures.places c.self.invariant.1.ordered, c.list.ensures.places, c.list.new.order.ok.0))

pub invariant_of-self-2 : goal.invariant_of-self-2
invariant_of-self-2 c =
    let new : rel_of c.self.inside.rows c.args.a c.args.b ≡ None = sym (rel_read c.self.inside.rows c.self.inside.order.items c.self.inside.links c.self.invariant.0 c.args.self.now c.self.inside.room c.self.view_is c.args.a c.args.b) ∙ c.requires.new in
    let same : as_count (with_link (topology_of c.self.inside.rows) c.args.a c.args.b c.args.rel) ≡ as_count (with_link c.args.self.now c.args.a c.args.b c.args.rel) = ap (λ (h : Topology). as_count (with_link h c.args.a c.args.b c.args.rel)) c.self.view_is in
    let few : as_count (with_link (topology_of c.self.inside.rows) c.args.a c.args.b c.args.rel) ≤ 150000 = subst (λ n. n ≤ 150000) (c.as_count_with.ensures c.args.rel ∙ sym same) c.if-as_count_with-gt-MOST_ASES.false in
    let ordered = c.make_ends.ensures.places c.self.invariant.1.ordered in (
      kept-added c.self.inside.rows c.make_ends.new.rows c.put_link.new.rows c.self.inside.order.items c.list-2.new.order.items c.self.inside.links c.args.a c.args.b c.args.rel c.self.invariant.0 c.make_ends.ensures.keeps c.requires.differ c.put_link.ensures
          (λ j. c.list-2.ensures.listed j ∙ ap (λ t. c.args.b == j || t) (c.list.ensures.listed j ∙ ap (λ (l : List ℕ). c.args.a == j || occurs j l) c.make_ends.ensures.order))
          c.list-2.ensures.rising few new c.if-self-ge-MOST_LINKS.false,
      roomy-linked c.make_ends.new.rows c.put_link.new.rows c.args.a c.args.b c.args.rel _ 0 c.self.inside.room c.room_for-self-inside.result c.put_link.ensures (omega (arith, ordered, c.list.ensures.places, c.list-2.ensures.places)) c.room_for-self-inside.ensures,
    )

pub returns-clause-ok : goal.returns-clause-ok
returns-clause-ok c =
    seen_linked c.self.inside.rows c.put_link.new.rows c.self.inside.room c.room_for-self-inside.result c.args.self.now c.self.view_is c.args.a c.args.b c.args.rel
    (topology_of-added c.self.inside.rows c.make_ends.new.rows c.put_link.new.rows c.self.inside.order.items c.list-2.new.order.items c.self.inside.links c.args.a c.args.b c.args.rel c.self.invariant.0 c.make_ends.ensures.keeps c.requires.differ c.put_link.ensures)
    c.room_for-self-inside.ensures
