use Rattle.std.proofs.Common.{rules, ◌≡◌, ◌≢◌, ◌++◌, ◌∷◌, [], ℕ, List, length, get_or, set, Some, refl, sym, ◌∙◌, ap, subst, arith, cond}
use Rattle.std.specs.Vec.{with_items}
use Rattle.std.proofs.lemmas.List.{get_or_default, length-set, with_items_is}
use Rattle.data_trace.specs.declared.places.Mark.{Mark}
use Rattle.data_trace.specs.declared.places.Mark.TheVariants.{Unknown}
use Rattle.data_trace.specs.declared.places.PlaceHop.{PlaceHop}
use Rattle.data_trace.specs.Marks.{mark_of, IsWithin}
use Rattle.data_trace.specs.Lists.{HasLists}
use Rattle.data_trace.specs.Spreads.{IsFront, Forgets}
use Rattle.data_trace.specs.Columns.{name_at, named}
use Rattle.data_trace.specs.Sources.{sends, HasHop, HopsChange}
use Rattle.data_trace.proofs.Detaching.{change_here, here_has, unknown_right, within_here}
use Rattle.data_trace.proofs.Joining.{lists_rewritten, lists_equal}
use Rattle.data_trace.proofs.Queues.{front_forgets, known_is, front_apart}
use Rattle.data_trace.proofs.leaving.detach_place.Goals as goal

pub returns : goal.returns
returns c =
    let s = c.args.source.now in
    let keys : List ℕ = c.args.ases.now.ases in
    let columns = c.args.columns.now in
    let lists = c.args.lists.now in
    let hops : List PlaceHop = columns.hops.items in
    let marks : List Mark = columns.marks.items in
    let q : List ℕ = lists.queue.items in
    let a : ℕ = c.args.a in
    let h : PlaceHop = c.hop-hop.result in
    let asn : c.index-numbers-a.result ≡ name_at keys a = c.index-numbers-a.is ∙ ap (λ (ks : List ℕ). get_or ks a c.index-numbers-a.result) c.as_slice-numbers.ensures.list ∙ get_or_default keys a c.index-numbers-a.result 0 (omega (arith, c.requires.inside, c.requires.can.places)) in
    let right : named keys h ≡ sends s (name_at keys a) = c.hop-hop.ensures.named ∙ ap (sends s) asn in
    let n : mark_of marks a ≢ Unknown = λ e. c.in_default.not-Unknown (c.mark_in.ensures ∙ ap (λ (ms : List Mark). mark_of ms a) c.as_slice.ensures.value ∙ e) in
    let forgets : Forgets (Some a) marks q c.forget_place.new.marks c.forget_place.new.queue.items =
    subst (λ (ms : List Mark). Forgets (Some a) ms q c.forget_place.new.marks c.forget_place.new.queue.items) c.as_mut_slice-5.ensures.value c.forget_place.ensures.forgets in
    let e : c.forget_place.new.queue.items ≡ q ++ a ∷ [] = forgets.1 ∙ ap (λ b. cond b q (q ++ a ∷ [])) (known_is _ n) in
    let change : HopsChange s keys hops (set hops a h) q (q ++ a ∷ []) = change_here s keys hops a h c.requires.inside right q (q ++ a ∷ []) refl in
    let out : HasLists hops (q ++ a ∷ []) c.leave.new.first c.leave.new.before c.leave.new.after =
    lists_equal (sym c.as_slice-3.ensures.value) refl refl refl refl (c.leave.ensures q (lists_equal c.as_slice-3.ensures.value refl c.as_mut_slice.ensures.value c.as_mut_slice-2.ensures.value c.as_mut_slice-3.ensures.value c.requires.can.lists)
    (front_apart _ _ _ _ c.requires.can.front.1 n)) in
    let hops_new : (with_items columns.hops c.put_hop.new.hops).items ≡ set hops a h = with_items_is columns.hops c.put_hop.new.hops (search rules) ∙ c.put_hop.ensures ∙ ap (λ (hs : List PlaceHop). set hs a h) c.as_mut_slice-4.ensures.value in
    let marks_new : (with_items columns.marks c.forget_place.new.marks).items ≡ c.forget_place.new.marks = with_items_is columns.marks c.forget_place.new.marks (search rules) in
    record {
      here = subst (λ (hs : List PlaceHop). HasHop s keys hs a) (sym hops_new) (here_has s keys hops a h c.requires.inside right);
      detached = record {
        front = λ old w. subst (λ (ms : List Mark). IsFront old ms c.forget_place.new.queue.items) (sym marks_new) (front_forgets old (Some a) marks q c.forget_place.new.marks c.forget_place.new.queue.items w (omega (arith, c.requires.inside, c.requires.can.len)) forgets);
        lists = lists_equal hops_new e (with_items_is lists.first c.leave.new.first (search rules)) (with_items_is lists.before c.leave.new.before (search rules)) (with_items_is lists.after c.leave.new.after (search rules))
            (lists_rewritten hops (set hops a h) (q ++ a ∷ []) c.leave.new.first c.leave.new.before c.leave.new.after (length-set hops a h) change.others out);
        within = subst IsWithin (sym hops_new) (within_here s keys hops a h c.requires.inside right c.requires.can.within (λ y e. omega (arith, c.hop-hop.ensures.within y e, c.requires.can.places)));
        unknown = λ x l u. subst (λ (hs : List PlaceHop). HasHop s keys hs x) (sym hops_new) (unknown_right s keys hops a h c.requires.inside right marks c.forget_place.new.marks forgets.0 c.requires.can.unknown x (omega (arith, l, ap length hops_new, length-set hops a h)) (ap (λ (ms : List Mark). mark_of ms x) (sym marks_new) ∙ u));
        change = subst (λ (hs : List PlaceHop). HopsChange s keys hops hs q c.forget_place.new.queue.items) (sym hops_new) (change_here s keys hops a h c.requires.inside right q c.forget_place.new.queue.items e);
        counted = search rules;
        places = omega (arith, ap length hops_new, length-set hops a h, c.requires.can.places);
        groups = refl;
        room = search rules;
        lists_room = λ n r. search (rules, r);
        hops_room = refl;
        marks_room = refl;
        sums_room = search rules;
      };
    }
