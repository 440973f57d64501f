-- Next hops that change, with the queue of the places where they do.
use Rattle.std.proofs.Common.{◌≡◌, ◌≢◌, ⊎_elim, ℕ, ◌<◌, false, List, [], ◌∷◌, ◌++◌, length, set, refl, sym, ◌∙◌, ap, subst, arith, true≢false}
use Rattle.std.specs.Prelude.{nat_eq}
use Rattle.std.specs.List.{list_any}
use Rattle.std.proofs.lemmas.Bool.{cases_eq, cases_Bool}
use Rattle.std.proofs.lemmas.List.{get_or-set_same, get_or-set_other, length-set}
use Rattle.data_trace.specs.declared.places.PlaceHop.{PlaceHop}
use Rattle.data_trace.specs.declared.places.PlaceHop.TheVariants.{NoRoute, To}
use Rattle.data_trace.specs.declared.places.Mark.{Mark}
use Rattle.data_trace.specs.declared.places.Mark.TheVariants.{Unknown}
use Rattle.data_trace.specs.declared.columns.Columns.{Columns}
use Rattle.data_trace.specs.declared.keeping.Lists.{Lists}
use Rattle.data_trace.specs.declared.source.Source.{Source}
use Rattle.data_trace.specs.Traces.{IsIn}
use Rattle.data_trace.specs.Marks.{hop_at, mark_of, IsWithin}
use Rattle.data_trace.specs.Columns.{name_at, named}
use Rattle.data_trace.specs.Sources.{sends, HasHop, HopsChange}
use Rattle.data_trace.specs.Detached.{CanDetach, IsDetached}
use Rattle.data_trace.proofs.Walking.{mark_other, in_push, not_in_push}

module _ (s : Source) (keys : List ℕ) where
  pub change_none : (hops : List PlaceHop) (queue : List ℕ) → HopsChange s keys hops hops queue queue
  change_none hops queue = record { more = λ x h. h; others = λ x h. refl; right = λ x h. h }

  pub change_then : (a b c : List PlaceHop) (p q r : List ℕ) → HopsChange s keys a b p q → HopsChange s keys b c q r → HopsChange s keys a c p r
  change_then a b c p q r u v = record {
    more = λ x h. v.more x (u.more x h);
    others = λ x f. v.others x f ∙ u.others x (⊎_elim (λ (h : IsIn x q). absurd (true≢false (sym (v.more x h) ∙ f))) (λ h. h) (cases_Bool (list_any (nat_eq x) q)));
    right = λ x h. v.right x (u.right x h);
  }

  pub detached_then : (a b c : Columns) (l m n : Lists) → IsDetached s keys a b l m → IsDetached s keys b c m n → IsDetached s keys a c l n
  detached_then a b c l m n u v = record {
    front = λ marks w. v.front marks (u.front marks w);
    lists = v.lists;
    within = v.within;
    unknown = v.unknown;
    change = change_then a.hops.items b.hops.items c.hops.items l.queue.items m.queue.items n.queue.items u.change v.change;
    counted = v.counted;
    places = v.places;
    groups = v.groups ∙ u.groups;
    room = omega (arith, u.room, v.room);
    lists_room = λ k r. v.lists_room k (u.lists_room k r);
    hops_room = v.hops_room ∙ u.hops_room;
    marks_room = v.marks_room ∙ u.marks_room;
    sums_room = omega (arith, u.sums_room, v.sums_room);
  }

  -- further places can leave their lists
  pub can_still : (a b : Columns) (l m : Lists) → CanDetach s keys a l → IsDetached s keys a b l m → CanDetach s keys b m
  can_still a b l m can u = record {
    places = u.places;
    listed = can.listed;
    within = u.within;
    len = u.counted.marks_len ∙ sym u.places;
    front = (can.front.0, u.front can.front.0 can.front.1);
    lists = u.lists;
    unknown = u.unknown;
    room = omega (arith, can.room, can.places, u.room, u.places);
    sums = record { few = can.sums.few; counted = u.counted; room = omega (arith, can.sums.room, u.sums_room) };
  }

module _ (s : Source) (keys : List ℕ) (hops : List PlaceHop) (a : ℕ) (h : PlaceHop) (inside : a < length hops) (right : named keys h ≡ sends s (name_at keys a)) where
  hop_same : hop_at (set hops a h) a ≡ h
  hop_same = get_or-set_same hops a h NoRoute inside

  hop_other : (x : ℕ) → x ≢ a → hop_at (set hops a h) x ≡ hop_at hops x
  hop_other x ne = get_or-set_other hops a x h NoRoute ne

  -- the place has the next hop that it was given
  pub here_has : HasHop s keys (set hops a h) a
  here_has = ap (named keys) hop_same ∙ right

  stays_right : (x : ℕ) → (x ≢ a → HasHop s keys hops x) → HasHop s keys (set hops a h) x
  stays_right x r = ⊎_elim (λ (e : x ≡ a). subst (HasHop s keys (set hops a h)) (sym e) here_has) (λ (ne : x ≢ a). ap (named keys) (hop_other x ne) ∙ r ne) (cases_eq x a)

  pub change_here : (queue queue' : List ℕ) → queue' ≡ queue ++ a ∷ [] → HopsChange s keys hops (set hops a h) queue queue'
  change_here queue queue' e = record {
    more = λ x i. subst (IsIn x) (sym e) (in_push x a queue i);
    others = λ x f. hop_other x (not_in_push x a queue (subst (λ q. list_any (nat_eq x) q ≡ false) e f)).0;
    right = λ x r. stays_right x (λ ne. r);
  }

  -- places whose ends are sought anew have their next hops
  pub unknown_right : (marks marks' : List Mark) → marks' ≡ set marks a Unknown → ((x : ℕ) → x < length hops → mark_of marks x ≡ Unknown → HasHop s keys hops x) → (x : ℕ) → x < length hops → mark_of marks' x ≡ Unknown → HasHop s keys (set hops a h) x
  unknown_right marks marks' e old x l u = stays_right x (λ ne. old x l (sym (mark_other marks a x Unknown ne) ∙ ap (λ ms. mark_of ms x) (sym e) ∙ u))

  pub within_here : IsWithin hops → ((y : ℕ) → h ≡ To y → y < length hops) → IsWithin (set hops a h)
  within_here w n x y e = ⊎_elim (λ (q : x ≡ a). omega (arith, n y (sym hop_same ∙ ap (hop_at (set hops a h)) (sym q) ∙ e), length-set hops a h))
      (λ (q : x ≢ a). omega (arith, w x y (sym (hop_other x q) ∙ e), length-set hops a h)) (cases_eq x a)
