use Rattle.std.proofs.Common.{rules, ◌≡◌, ◌||◌, ◌==◌, ℕ, List, length, true, false, nat_eq, refl, sym, ◌∙◌, ap, arith}
use Rattle.std.proofs.lemmas.Bool.{false≢true, false_from_ne_true}
use Rattle.indexmap.specs.IndexMap.{get}
use Rattle.net_names.specs.Numbers.{occurs}
use Rattle.as_graph.specs.Graphs.{is_there}
use Rattle.as_graph.specs.Topology.{Topology, with_mark}
use Rattle.as_graph.specs.Room.{is_room_with}
use Rattle.as_graph.specs.Refusals.{IsMarkRefusal}
use Rattle.as_graph.specs.declared.error.GraphError.TheVariants.{Memory}
use Rattle.as_graph.proofs.Kept.{has_read, counted_read}
use Rattle.as_graph.proofs.Marking.{there_row, kept_graph, topology_of-kept, topology_of-marked, roomy-kept, roomy-marked}
use Rattle.as_graph.proofs.LinkTopology.{room_stays}
use Rattle.as_graph.proofs.GraphEdits.{invariant_made, place_made, refused_made, seen_marked, row_there, kept-marked-there, kept-marked-new}
use Rattle.as_graph.proofs.graph.Graph.mark.Goals as goal

pub set_mark-requires : goal.set_mark-requires
set_mark-requires c =
    let there : is_there c.self.inside.rows c.args.asn ≡ true = has_read c.self.inside.rows c.self.inside.order.items c.self.inside.links c.self.invariant.0 c.args.self.now c.self.inside.room c.self.view_is c.args.asn (get nat_eq c.self.inside.rows c.args.asn) refl ∙ sym c.has.ensures ∙ c.if-has.true in
    there_row c.self.inside.rows c.args.asn there

pub invariant_of-self : goal.invariant_of-self
invariant_of-self c =
    let there : is_there c.self.inside.rows c.args.asn ≡ true = has_read c.self.inside.rows c.self.inside.order.items c.self.inside.links c.self.invariant.0 c.args.self.now c.self.inside.room c.self.view_is c.args.asn (get nat_eq c.self.inside.rows c.args.asn) refl ∙ sym c.has.ensures ∙ c.if-has.true in (
      kept-marked-there c.self.inside.rows c.set_mark.new.rows c.self.inside.order.items c.self.inside.links c.args.asn c.set_mark.ensures c.self.invariant.0 there,
      roomy-marked c.self.inside.rows c.set_mark.new.rows c.args.asn true c.set_mark.ensures _ _ c.self.inside.room c.room_with-self-inside.result c.self.invariant.1 c.self.invariant.1.ordered
          (λ a b is. (room_stays (λ o. is_room_with o c.args.asn) c.self.inside.room (a, b) (sym c.room_with-self-inside.ensures ∙ is)).0),
    )

pub invariant_of-self-in_err-make_row : goal.invariant_of-self-in_err-make_row
invariant_of-self-in_err-make_row c = invariant_made c.self.inside.rows c.make_row.new.rows c.self.inside.order.items c.make_row.new.order.items c.self.inside.links c.self.invariant.0 c.make_row.ensures.keeps c.make_row.ensures.order _ c.self.inside.room _ c.self.invariant.1 (c.make_row.ensures.places c.self.invariant.1.ordered)

pub returns-then-has-clause-ok : goal.returns-then-has-clause-ok
returns-then-has-clause-ok c =
    seen_marked c.self.inside.rows c.set_mark.new.rows c.self.inside.room c.room_with-self-inside.result c.args.self.now c.self.view_is c.args.asn (topology_of-marked c.self.inside.rows c.set_mark.new.rows c.args.asn c.set_mark.ensures c.self.invariant.0.graph) c.room_with-self-inside.ensures

pub returns-then-len-ge-MOST_ASES-clause-refused : goal.returns-then-len-ge-MOST_ASES-clause-refused
returns-then-len-ge-MOST_ASES-clause-refused c = (
  sym c.has.ensures ∙ c.if-has.false,
  (let len : c.len.result ≡ length c.self.inside.order.items = search rules in
      omega (arith, len, counted_read c.self.inside.rows c.self.inside.order.items c.self.inside.links c.self.invariant.0 c.args.self.now c.self.inside.room c.self.view_is, c.if-len-ge-MOST_ASES.true)),
)

pub returns-in_err-make_row-clause-err : goal.returns-in_err-make_row-clause-err
returns-in_err-make_row-clause-err c = refused_made c.self.inside.rows c.make_row.new.rows c.self.inside.order.items c.self.inside.links c.self.invariant.0 c.make_row.ensures.keeps c.from_residual.result c.self.inside.room c.args.self.now c.self.view_is

pub returns-in_err-make_row-clause-refused : goal.returns-in_err-make_row-clause-refused
returns-in_err-make_row-clause-refused c =
    let lone : is_there c.self.inside.rows c.args.asn ≡ false = has_read c.self.inside.rows c.self.inside.order.items c.self.inside.links c.self.invariant.0 c.args.self.now c.self.inside.room c.self.view_is c.args.asn (get nat_eq c.self.inside.rows c.args.asn) refl ∙ sym c.has.ensures ∙ c.if-has.false in
    let room : c.self.inside.room ≡ c.args.self.now.room = ap (λ (g : Topology). g.room) c.self.view_is in
    let none : is_room_with c.args.self.now.room c.args.asn ≡ false = false_from_ne_true (is_room_with c.args.self.now.room c.args.asn) (λ h.
    false≢true (c.in_err-make_row.ensures.succeeds (row_there c.self.inside.rows c.self.inside.room c.args.asn c.self.invariant.0.graph c.self.invariant.1.paired lone (ap (λ o. is_room_with o c.args.asn) room ∙ h)))) in
    let memory : IsMarkRefusal c.args.self.now c.args.asn Memory = (sym c.has.ensures ∙ c.if-has.false, none) in
    search (rules, memory)

pub list-requires-clause-room : goal.list-requires-clause-room
list-requires-clause-room c = λ new.
    (let left = place_made c.self.inside.rows c.make_row.new.rows c.self.inside.order.items c.make_row.new.order.items c.self.inside.links c.self.invariant.0 c.make_row.ensures.keeps c.make_row.ensures.order c.args.asn c.in_ok-make_row.ensures.there new in
    omega (arith, left, c.make_row.ensures.places c.self.invariant.1.ordered, c.make_row.new.order.ok.0))

pub invariant_of-self-2 : goal.invariant_of-self-2
invariant_of-self-2 c =
    let keeps = c.make_row.ensures.keeps in
    let order = c.make_row.ensures.order in
    let len : c.len.result ≡ length c.self.inside.order.items = search rules in
    let same : length c.make_row.new.order.items ≡ length c.self.inside.order.items = ap (λ (l : List ℕ). length l) order in
    let ordered = c.make_row.ensures.places c.self.invariant.1.ordered in (
      kept-marked-new c.self.inside.rows c.make_row.new.rows c.set_mark-2.new.rows c.self.inside.order.items c.list.new.order.items c.self.inside.links c.args.asn keeps c.set_mark-2.ensures c.self.invariant.0
          (λ j. c.list.ensures.listed j ∙ ap (λ (l : List ℕ). c.args.asn == j || occurs j l) order) c.list.ensures.rising (omega (arith, len, same, c.list.ensures.len, c.if-len-ge-MOST_ASES.false)),
      roomy-marked c.make_row.new.rows c.set_mark-2.new.rows c.args.asn true c.set_mark-2.ensures _ _ c.self.inside.room c.room_with-self-inside-2.result
          (roomy-kept c.self.inside.rows c.make_row.new.rows keeps _ c.self.inside.room _ c.self.invariant.1 ordered) (omega (arith, ordered, c.list.ensures.places))
          (λ a b is. (room_stays (λ o. is_room_with o c.args.asn) c.self.inside.room (a, b) (sym c.room_with-self-inside-2.ensures ∙ is)).0),
    )

pub returns-clause-ok : goal.returns-clause-ok
returns-clause-ok c =
    let keeps = c.make_row.ensures.keeps in
    seen_marked c.self.inside.rows c.set_mark-2.new.rows c.self.inside.room c.room_with-self-inside-2.result c.args.self.now c.self.view_is c.args.asn
    (topology_of-marked c.make_row.new.rows c.set_mark-2.new.rows c.args.asn c.set_mark-2.ensures (kept_graph c.self.inside.rows c.make_row.new.rows keeps c.self.invariant.0.graph) ∙ ap (λ (t : Topology). with_mark t c.args.asn) (topology_of-kept c.self.inside.rows c.make_row.new.rows keeps c.self.invariant.0.graph))
    c.room_with-self-inside-2.ensures

pub returns-clause-few : goal.returns-clause-few
returns-clause-few c = λ _.
    (let len : c.len.result ≡ length c.self.inside.order.items = search rules in
    omega (arith, len, counted_read c.self.inside.rows c.self.inside.order.items c.self.inside.links c.self.invariant.0 c.args.self.now c.self.inside.room c.self.view_is, c.if-len-ge-MOST_ASES.false))
