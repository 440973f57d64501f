use Rattle.std.proofs.Common.{rules, ◌≡◌, ◌≢◌, ⊎_elim, ℕ, ◌<◌, ◌≤◌, Option, List, length, get_or, take, true, false, refl, sym, ◌∙◌, ap, subst, arith, true≢false, []}
use Rattle.std.specs.Prelude.{nat_eq}
use Rattle.std.specs.List.{list_any, IsDistinct}
use Rattle.std.specs.Vec.{with_items}
use Rattle.std.proofs.lemmas.Bool.{cases_Bool}
use Rattle.std.proofs.lemmas.List.{with_items_is}
use Rattle.net_names.specs.Numbers.{occurs}
use Rattle.data_trace.specs.declared.places.PlaceHop.{PlaceHop}
use Rattle.data_trace.specs.declared.places.Mark.{Mark}
use Rattle.data_trace.specs.declared.places.Mark.TheVariants.{Unknown}
use Rattle.data_trace.specs.Marks.{next_of, mark_of, AreEnds, AreRight}
use Rattle.data_trace.specs.Lists.{link_at, HasLists}
use Rattle.data_trace.specs.Keeping.{HasRoom}
use Rattle.data_trace.specs.Spreads.{IsFront, HasSpread}
use Rattle.data_trace.specs.Columns.{name_at}
use Rattle.data_trace.specs.Sources.{HopsChange}
use Rattle.data_trace.proofs.Walking.{ends_from_marks}
use Rattle.data_trace.proofs.Joining.{lists_rewritten, lists_equal}
use Rattle.data_trace.proofs.Detaching.{change_then}
use Rattle.data_trace.proofs.Renewing.{front_none, front_self, front_then, right_from_ends, renewed_right, none_unknown, fits_from_take}
use Rattle.data_trace.proofs.renewal.renew.Goals as goal
use Rattle.data_trace.proofs.renewal.renew.Goals.{After-detach-2, After-spread}

-- before the first step the queue has no place
none_waits : (hops : List PlaceHop) (marks : List Mark) (queue : List ℕ) → queue ≡ [] → AreEnds (next_of hops) (length hops) marks → IsFront marks marks queue
none_waits hops marks queue e ends = subst (λ (q : List ℕ). IsFront marks marks q) (sym e) (front_none (next_of hops) marks (subst (λ n. AreEnds (next_of hops) n marks) (sym ends.len) ends))

pub detach-requires : goal.detach-requires
detach-requires c =
    let old = c.args.columns.now in
    let none : IsFront old.marks.items old.marks.items c.clear.new.self.items = none_waits old.hops.items old.marks.items c.clear.new.self.items c.clear.ensures.items c.requires.ends in
    record {
      places = c.requires.len;
      listed = c.requires.listed;
      within = c.requires.within;
      len = c.requires.ends.len;
      front = (old.marks.items, none);
      lists = lists_equal refl c.clear.ensures.items refl refl refl c.requires.lists.lists;
      unknown = λ x l u. absurd (true≢false (sym (none.in_queue x (omega (arith, l, c.requires.ends.len)) u) ∙ ap (list_any (nat_eq x)) c.clear.ensures.items));
      room = omega (arith, c.requires.lists.room.queue, c.clear.ensures.capacity, c.requires.len);
      sums = c.requires.sums;
    }

pub detach-requires-2 : goal.detach-requires-2
detach-requires-2 c =
    let old = c.args.columns.now in
    let first = c.detach.ensures.detached in
    record {
      places = first.places;
      listed = c.requires.listed;
      within = first.within;
      len = first.counted.marks_len ∙ sym first.places;
      front = (old.marks.items, first.front old.marks.items (none_waits old.hops.items old.marks.items c.clear.new.self.items c.clear.ensures.items c.requires.ends));
      lists = first.lists;
      unknown = first.unknown;
      room = omega (arith, c.requires.lists.room.queue, c.clear.ensures.capacity, first.room, first.places);
      sums = record { few = c.requires.sums.few; counted = first.counted; room = omega (arith, c.requires.sums.room, first.sums_room) };
    }

-- the places that wait are the front of what is spread
front : (c : After-detach-2) → IsFront c.args.columns.now.marks.items c.detach-2.new.columns.marks.items c.detach-2.new.lists.queue.items
front c =
    let old = c.args.columns.now in
    c.detach-2.ensures.detached.front old.marks.items (c.detach.ensures.detached.front old.marks.items (none_waits old.hops.items old.marks.items c.clear.new.self.items c.clear.ensures.items c.requires.ends))

-- and so is what was spread
spread_front : (c : After-spread) → IsFront c.args.columns.now.marks.items c.detach-2.new.columns.marks.items c.detach-2.new.lists.queue.items → IsFront c.args.columns.now.marks.items c.spread.new.marks c.spread.new.queue.items
spread_front c v =
    let queue : List ℕ = c.spread.new.queue.items in
    front_then c.args.columns.now.marks.items c.detach-2.new.columns.marks.items c.spread.new.marks c.detach-2.new.lists.queue.items queue v
    (subst (λ (ms : List Mark). IsFront ms c.spread.new.marks queue) c.as_mut_slice.ensures.value c.spread.ensures.front)

pub spread-requires-clause-front : goal.spread-requires-clause-front
spread-requires-clause-front c =
    let old = c.args.columns.now in
    let queue : List ℕ = c.detach-2.new.lists.queue.items in
    subst (λ (ms : List Mark). IsFront ms ms queue) (sym c.as_mut_slice.ensures.value) (front_self old.marks.items c.detach-2.new.columns.marks.items queue (front (goal.at.spread-requires-clause-front c).After-detach-2))

pub relink-requires-clause-distinct : goal.relink-requires-clause-distinct
relink-requires-clause-distinct c =
    let n : c.len-count.result ≡ length c.detach-2.new.lists.queue.items = search rules in
    let roots : take c.len-count.result c.as_slice-places.result.now ≡ c.detach-2.new.lists.queue.items =
    ap (take c.len-count.result) c.as_slice-places.ensures.value ∙ ap (λ k. take k c.spread.new.queue.items) n ∙ c.spread.ensures.roots in
    subst (IsDistinct nat_eq) (sym roots) (front (goal.at.relink-requires-clause-distinct c).After-detach-2).distinct

pub settle_each-requires-clause-right : goal.settle_each-requires-clause-right
settle_each-requires-clause-right c =
    let old = c.args.columns.now in
    let columns = c.detach-2.new.columns in
    let lists = c.detach-2.new.lists in
    let hops : List PlaceHop = old.hops.items in
    let queue : List ℕ = c.spread.new.queue.items in
    let marks : List Mark = c.spread.new.marks in
    let fits : length lists.queue.items ≤ length queue = fits_from_take _ _ c.spread.ensures.roots in
    let change : HopsChange c.args.source.now c.args.ases.now.ases hops columns.hops.items c.clear.new.self.items lists.queue.items = change_then c.args.source.now c.args.ases.now.ases _ _ _ _ _ _ c.detach.ensures.detached.change c.detach-2.ensures.detached.change in
    let kept : HasLists hops lists.queue.items lists.first.items lists.before.items lists.after.items =
    lists_rewritten columns.hops.items hops lists.queue.items lists.first.items lists.before.items lists.after.items (omega (arith, c.requires.len, c.detach-2.ensures.detached.places)) (λ x f. sym (change.others x f)) c.detach-2.ensures.detached.lists in
    let spread : HasSpread (link_at lists.first.items) (link_at lists.after.items) marks queue (length lists.queue.items) (length queue) =
    subst (λ (t : List (Option ℕ)). HasSpread (link_at t) (link_at lists.after.items) marks queue (length lists.queue.items) (length queue)) c.as_slice-2.ensures.value
    (subst (λ (t : List (Option ℕ)). HasSpread (link_at c.as_slice-2.result.now) (link_at t) marks queue (length lists.queue.items) (length queue)) c.as_slice-3.ensures.value c.spread.ensures.spread) in
    let right : AreRight (next_of columns.hops.items) marks = renewed_right hops old.marks.items marks lists.queue.items queue lists.first.items lists.before.items lists.after.items (spread_front (goal.at.settle_each-requires-clause-right c).After-spread (front (goal.at.settle_each-requires-clause-right c).After-detach-2)) c.requires.ends.len
    kept spread c.spread.ensures.roots fits columns.hops.items c.requires.within (right_from_ends hops old.marks.items c.requires.within c.requires.ends) change.others in
    let same : c.as_mut_slice-5.result.now ≡ marks = c.as_mut_slice-5.ensures.value ∙ with_items_is columns.marks marks (search rules) in
    subst (λ (ms : List Mark). AreRight (next_of c.as_slice-hops.result.now) ms) (sym same) (subst (λ (hs : List PlaceHop). AreRight (next_of hs) marks) (sym c.as_slice-hops.ensures.value) right)

pub settle_each-requires-clause-room : goal.settle_each-requires-clause-room
settle_each-requires-clause-room c =
    let n : ℕ = length c.args.ases.now.ases in
    let r = c.requires.lists.room in
    let room : HasRoom n c.detach-2.new.lists = c.detach-2.ensures.detached.lists_room n (c.detach.ensures.detached.lists_room n (record { first = r.first; before = r.before; after = r.after; queue = omega (arith, r.queue, c.clear.ensures.capacity); path = r.path })) in
    omega (arith, room.path, ap length c.as_slice-hops.ensures.value, c.detach-2.ensures.detached.places)

pub returns-clause-hops : goal.returns-clause-hops
returns-clause-hops c =
    let keys = c.args.ases.now.ases in
    record {
      len = c.detach-2.ensures.detached.places;
      within = c.detach-2.ensures.detached.within;
      follows = λ x l. ⊎_elim (λ (o : occurs (name_at keys x) c.args.differing.now.groups.now ≡ true). c.detach-2.ensures.changed x l o)
          (λ (o : occurs (name_at keys x) c.args.differing.now.groups.now ≡ false). c.detach-2.ensures.detached.change.right x (⊎_elim (λ (p : occurs (name_at keys x) c.args.differing.now.hops.now ≡ true). c.detach.ensures.changed x l p)
          (λ (p : occurs (name_at keys x) c.args.differing.now.hops.now ≡ false). c.detach.ensures.detached.change.right x (c.requires.others x l p o)) (cases_Bool (occurs (name_at keys x) c.args.differing.now.hops.now)))) (cases_Bool (occurs (name_at keys x) c.args.differing.now.groups.now));
    }

pub returns-clause-ends : goal.returns-clause-ends
returns-clause-ends c =
    let old = c.args.columns.now in
    let columns = c.detach-2.new.columns in
    let lists = c.detach-2.new.lists in
    let hops : List PlaceHop = columns.hops.items in
    let queue : List ℕ = c.spread.new.queue.items in
    let spread : List Mark = c.spread.new.marks in
    let marks : List Mark = c.settle_each.new.marks in
    let same : c.as_mut_slice-5.result.now ≡ spread = c.as_mut_slice-5.ensures.value ∙ with_items_is columns.marks spread (search rules) in
    let known : (k : ℕ) → k < length queue → mark_of marks (get_or queue k 0) ≢ Unknown =
    subst (λ (q : List ℕ). (k : ℕ) → k < length q → mark_of marks (get_or q k 0) ≢ Unknown) c.as_slice-places.ensures.value c.settle_each.ensures.known in
    let kept : (x : ℕ) → mark_of spread x ≢ Unknown → mark_of marks x ≡ mark_of spread x = subst (λ (ms : List Mark). (x : ℕ) → mark_of ms x ≢ Unknown → mark_of marks x ≡ mark_of ms x) same c.settle_each.ensures.kept in
    let right : AreRight (next_of hops) marks = subst (λ (hs : List PlaceHop). AreRight (next_of hs) marks) c.as_slice-hops.ensures.value c.settle_each.ensures.right in
    let marks_len : length marks ≡ length hops = omega (arith, c.settle_each.ensures.counted.marks_len, ap length c.as_slice-numbers.ensures.list, c.detach-2.ensures.detached.places) in
    let marks_new : (with_items (with_items columns.marks spread) marks).items ≡ marks = with_items_is (with_items columns.marks spread) marks (search rules) in
    subst (λ (ms : List Mark). AreEnds (next_of hops) (length hops) ms) (sym marks_new) (ends_from_marks (next_of hops) (length hops) marks marks_len right
    (λ x l. none_unknown old.marks.items spread marks queue (spread_front (goal.at.returns-clause-ends c).After-spread (front (goal.at.returns-clause-ends c).After-detach-2)) kept known x (omega (arith, l, c.detach-2.ensures.detached.places, c.requires.len, c.requires.ends.len))))

pub returns-clause-lists : goal.returns-clause-lists
returns-clause-lists c = λ n r.
    let lists = c.detach-2.new.lists in
    let room : HasRoom n lists = c.detach-2.ensures.detached.lists_room n (c.detach.ensures.detached.lists_room n (record { first = r.first; before = r.before; after = r.after; queue = omega (arith, r.queue, c.clear.ensures.capacity); path = r.path })) in
    record {
      lists = lists_equal (sym c.as_slice-hops.ensures.value) refl (with_items_is lists.first c.relink.new.first (search rules)) (with_items_is lists.before c.relink.new.before (search rules)) (with_items_is lists.after c.relink.new.after (search rules)) c.relink.ensures;
      room = record { first = room.first; before = room.before; after = room.after; queue = omega (arith, room.queue, c.spread.ensures.room); path = omega (arith, room.path, c.settle_each.ensures.room) };
    }
