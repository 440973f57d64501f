use Rattle.std.proofs.Common.{◌≡◌, ℕ, ◌+◌, ◌-◌, ◌<◌, ◌≤◌, true, Some, List, length, option_map, get_or, refl, sym, ap, ◌∙◌, subst, arith}
use Rattle.std.specs.FinMap as map
use Rattle.std.specs.BTreeSet.{contains}
use Rattle.net_names.specs.Links.{pair_cmp, converse}
use Rattle.net_names.specs.declared.routes.Rel.{Rel}
use Rattle.as_graph.specs.Topology.{Topology, relation, has}
use Rattle.as_graph.proofs.Links.{relation_mutual, relation_self, linked_end}
use Rattle.message_sim.specs.declared.news.News.{News}
use Rattle.message_sim.specs.Arrivals.{ground_setting}
use Rattle.message_sim.specs.Rows.{link_eq}
use Rattle.message_sim.proofs.Lines.{empty_queue, some_waiting}
use Rattle.message_sim.proofs.Delivering.{delivery, still_kept}
use Rattle.message_sim.proofs.Parts.{apart_ends}
use Rattle.message_sim.proofs.tables.deliver_in.Goals as goal

ends : (g : Topology) (a b : ℕ) (r : Rel) → relation g a b ≡ Some r → has g a ≡ true
ends g a b r is = linked_end g b a (converse r) (relation_mutual g a b ∙ ap (option_map converse) is)

pub returns-in-None-clause-ok : goal.returns-in-None-clause-ok
returns-in-None-clause-ok g c = (empty_queue _ c.in-None.ensures, record { choices = refl; lines = refl })

pub overflow_sub-count : goal.overflow_sub-count
overflow_sub-count g c =
    let h = some_waiting (link_eq (c.args.from, c.args.to)) c.args.tables.now.lines.entries c.in-Some-oldest.message.now c.in-Some-oldest.ensures in
    omega (arith, h, c.requires.kept.counted)

pub put_change-requires-clause-choice_row : goal.put_change-requires-clause-choice_row
put_change-requires-clause-choice_row g c = c.requires.kept.choice_rows c.args.to (ends c.args.ground.now.graph.now c.args.to c.args.from c.in-Some.rel (sym c.in-Some.ensures))

pub put_change-requires-clause-best_row : goal.put_change-requires-clause-best_row
put_change-requires-clause-best_row g c = c.requires.kept.best_rows c.args.to (ends c.args.ground.now.graph.now c.args.to c.args.from c.in-Some.rel (sym c.in-Some.ensures))

pub returns-clause-kept : goal.returns-clause-kept
returns-clause-kept g c =
    let w = ground_setting g.P.RoutePolicy.meaning g.V.OriginStates.state_of c.args.ground.now in
    let t = c.args.tables.now in
    let change = c.in_ok-change-in-Some-oldest.change in
    let news = change.news.items in
    let h = some_waiting (link_eq (c.args.from, c.args.to)) t.lines.entries c.in-Some-oldest.message.now c.in-Some-oldest.ensures in
    let one : 1 ≤ t.queued = omega (arith, h, c.requires.kept.counted) in
    let lens = ap length c.as_slice.ensures.value in
    let len : c.len-more.result ≡ length news = omega (arith, c.len-more.ensures, c.as_slice.ensures.len, lens) in
    still_kept w (map.get c.args.ground.now.seeds.now) t.choices.entries c.put_change.new.choices.entries t.bests.entries c.put_change.new.bests.entries t.lines.entries c.move_messages.new.lines.entries c.args.from c.args.to
    c.in-Some-oldest.message.now change.choice news c.in-Some-oldest.ensures c.in_ok-change-in-Some-oldest.ensures c.move_messages.ensures c.put_change.ensures
    t (record { choices = c.put_change.new.choices; bests = c.put_change.new.bests; lines = c.move_messages.new.lines; waiting = c.forget.new.waiting; queued = t.queued - 1 + c.len-more.result })
    c.in-Some.rel (sym c.in-Some.ensures) (relation_self c.args.ground.now.graph.now) (ends c.args.ground.now.graph.now) c.requires.kept c.note.new.waiting refl refl refl refl refl refl
    c.in_ok-note.ensures.keeps
    (subst (λ (xs : List News). (k : ℕ) (d : News) → k < length xs → contains pair_cmp c.note.new.waiting (c.args.to, (get_or xs k d).to) ≡ true) c.as_slice.ensures.value c.in_ok-note.ensures.noted)
    c.forget.ensures (omega (arith, one, len)) (omega (arith, one, c.if-more-tables.false, c.requires.kept.few))

pub returns-clause-ok : goal.returns-clause-ok
returns-clause-ok g c =
    let w = ground_setting g.P.RoutePolicy.meaning g.V.OriginStates.state_of c.args.ground.now in
    let t = c.args.tables.now in
    let change = c.in_ok-change-in-Some-oldest.change in
    delivery w (map.get c.args.ground.now.seeds.now) t.choices.entries c.put_change.new.choices.entries t.bests.entries c.put_change.new.bests.entries t.lines.entries c.move_messages.new.lines.entries c.args.from c.args.to
    c.in-Some-oldest.message.now change.choice change.news.items c.in-Some-oldest.ensures c.in_ok-change-in-Some-oldest.ensures c.move_messages.ensures c.put_change.ensures
    (apart_ends w (relation_self c.args.ground.now.graph.now) c.args.from c.args.to c.in-Some.rel (sym c.in-Some.ensures))
