-- How the two searches end.
use Rattle.std.proofs.Common.{◌≡◌, ◌≢◌, ◌⊎◌, inl, inr, ℕ, ◌+◌, ◌<◌, ◌≤◌, Bool, true, false, not, nat_eq, Option, None, Some, Result, Ok, Err, IfOk, List, [], ◌∷◌, ◌++◌, length, reverse, refl, sym, ◌∙◌, ap, subst, arith}
use Rattle.std.proofs.lemmas.Bool.{cases_Bool, true≢false}
use Rattle.std.specs.List.{IsDistinct as AreApart}
use Rattle.std.specs.Map.{keys_of}
use Rattle.std.specs.Option.{option_to_list}
use Rattle.net_names.specs.declared.routes.Rel.{Rel}
use Rattle.as_graph.specs.Topology.{Topology, as_count}
use Rattle.as_graph.specs.Hierarchy.{HasNoProviderCycle}
use Rattle.cycle_check.specs.declared.search.Search.{Search}
use Rattle.cycle_check.specs.Cycles.{IsClosedBy, with_provider, without_pair}
use Rattle.cycle_check.specs.Searches.{toward, start_of, reached_at, is_reached, AreReached, IsSearch, IsRunning, HasMet, IsWayTo}
use Rattle.cycle_check.proofs.Closings.{none_closed, way_closes, way_length}
use Rattle.cycle_check.proofs.Reaching.{first_search, one_reached, ended, start_reached}
use Rattle.cycle_check.proofs.Reversing.{way_reversed}
use Rattle.cycle_check.proofs.Wanting.{few_reached}

-- what holds of a value holds of what follows from it
pub ok_more : {T E : Type 0} (r : Result T E) (P Q : T → Type 0) → ((x : T) → P x → Q x) → IfOk r P → IfOk r Q
ok_more (Ok x) P Q f h = f x h
ok_more (Err e) P Q f h = tt

module _ (g : Topology) (p c : ℕ) (differ : p ≢ c) where
  apart_ends : (up : Bool) → start_of up c p ≢ start_of up p c
  apart_ends true e = differ (sym e)
  apart_ends false e = differ e

  -- a search begins
  pub running_first : (up : Bool) (s : Search) → s.reached.entries ≡ (start_of up p c, 0) ∷ [] → AreApart nat_eq (keys_of s.reached.entries) → s.up ≡ up → s.done ≡ 0 → IsRunning g p c up s
  running_first up s one unique is none = record {
    direction = is;
    search = first_search (toward up (without_pair g p c)) (start_of up p c) s.reached.entries s.done one unique none;
    unmet = one_reached (start_of up p c) (start_of up c p) s.reached.entries one (apart_ends up);
  }

  -- it goes on, or has met the other AS
  pub running_more : (up : Bool) (s : Search) (start other : ℕ) → s.up ≡ up → start ≡ start_of up p c → other ≡ start_of up c p → IsSearch (toward up (without_pair g p c)) start s.reached.entries s.done → is_reached s.reached.entries other ≡ false → IsRunning g p c up s
  running_more up s start other is begins ends search unmet = record {
    direction = is;
    search = subst (λ a. IsSearch (toward up (without_pair g p c)) a s.reached.entries s.done) begins search;
    unmet = ap (is_reached s.reached.entries) (sym ends) ∙ unmet;
  }

  pub has_met : (up : Bool) (s : Search) (start other at : ℕ) → s.up ≡ up → start ≡ start_of up p c → other ≡ start_of up c p → IsSearch (toward up (without_pair g p c)) start s.reached.entries s.done → at < length s.reached.entries → reached_at s.reached.entries at ≡ other →
      HasMet g p c s.up s.reached.entries at
  has_met up s start other at is begins ends search inside found = subst (λ u. HasMet g p c u s.reached.entries at) (sym is) (record {
    reached = subst (λ a. AreReached (toward up (without_pair g p c)) a s.reached.entries) begins search.reached;
    inside = inside;
    found = found ∙ ends;
  })

  -- a search has few steps
  pub few_steps : (up : Bool) (s : Search) → IsRunning g p c up s → length s.reached.entries ≤ as_count g + 1
  few_steps up s r = few_reached g p c up (start_of up p c) s.reached.entries r.search.reached r.search.unique

  -- the search up has ended
  pub up_ended : HasNoProviderCycle (without_pair g p c) → (s : Search) → IsRunning g p c true s → length s.reached.entries ≤ s.done → HasNoProviderCycle (with_provider g p c)
  up_ended none s r all = none_closed g p c differ (λ y. not (is_reached s.reached.entries y)) (ap not r.unmet) (ap not (start_reached (without_pair g p c) p s.reached.entries r.search.reached))
      (λ a b link out. elim (cases_Bool (is_reached s.reached.entries b)) [
        | inl there ↦ absurd (true≢false (sym out ∙ ap not (ended (without_pair g p c) p s.reached.entries s.done r.search all b a link there)))
        | inr away ↦ ap not away
      ]) none

  -- or the search down
  pub down_ended : HasNoProviderCycle (without_pair g p c) → (s : Search) → IsRunning g p c false s → length s.reached.entries ≤ s.done → HasNoProviderCycle (with_provider g p c)
  down_ended none s r all = none_closed g p c differ (is_reached s.reached.entries) (start_reached (λ a b. without_pair g p c b a) c s.reached.entries r.search.reached) r.unmet
      (λ a b link there. ended (λ a b. without_pair g p c b a) c s.reached.entries s.done r.search all a b link there) none

  some_at : (r : Option ℕ) (x : ℕ) (xs ys : List ℕ) → r ≡ Some x → xs ≡ ys ++ option_to_list r → xs ≡ ys ++ x ∷ []
  some_at r x xs ys e is = is ∙ ap (λ t. ys ++ option_to_list t) e

  -- the cycle of a way of which the last AS is taken off
  pub popped_closes : (xs ys : List ℕ) (r : Option ℕ) (x : ℕ) → xs ≡ ys ++ option_to_list r → (0 < length xs → r ≡ Some x) → IsWayTo (without_pair g p c) c p xs → IsClosedBy g p c (p ∷ ys)
  popped_closes xs ys r x is some way =
      let two : 2 ≤ length xs = way_length g p c differ xs way in
      way_closes g p c differ xs ys x (some_at r x xs ys (some (omega (arith, two))) is) way

-- the way of a search up that has met the customer
pub way_up : (g : Topology) (p c : ℕ) (up : Bool) (es : List (ℕ × ℕ)) (at : ℕ) (xs : List ℕ) → up ≡ true → HasMet g p c up es at → ((relation : ℕ → ℕ → Option Rel) → AreReached relation p es → IsWayTo relation (reached_at es at) p xs) → IsWayTo (without_pair g p c) c p xs
way_up g p c true es at xs e met way = subst (λ a. IsWayTo (without_pair g p c) a p xs) met.found (way (without_pair g p c) met.reached)
way_up g p c false es at xs e met way = cc

-- the way of a search down that has met the provider
pub way_down : (g : Topology) (p c : ℕ) (up : Bool) (es : List (ℕ × ℕ)) (at : ℕ) (xs : List ℕ) → up ≡ false → HasMet g p c up es at → ((relation : ℕ → ℕ → Option Rel) → AreReached relation c es → IsWayTo relation (reached_at es at) c xs) → IsWayTo (without_pair g p c) c p (reverse xs)
way_down g p c false es at xs e met way = way_reversed (without_pair g p c) p c xs (subst (λ a. IsWayTo (λ a b. without_pair g p c b a) a c xs) met.found (way (λ a b. without_pair g p c b a) met.reached))
way_down g p c true es at xs e met way = cc
