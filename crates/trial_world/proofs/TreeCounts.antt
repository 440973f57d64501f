-- What the ends by place count.
use Rattle.std.proofs.Common.{◌≡◌, ◌≢◌, ℕ, zero, suc, ◌+◌, ◌-◌, ◌<◌, ◌==◌, Bool, true, false, cond, Option, None, Some, List, [], ◌∷◌, length, refl, sym, ap, ◌∙◌, arith, eqb-true, true≢false}
use Rattle.std.specs.Prelude.{count_by, nat_eq, slice_index, if◌then◌else◌}
use Rattle.std.specs.List.{IsDistinct}
use Rattle.std.specs.Option.{option_map_or}
use Rattle.std.proofs.lemmas.Bool.{eq-eqb, ne_eqb, false_from_ne_true}
use Rattle.std.proofs.lemmas.Option.{get_or_from_slice_get}
use Rattle.as_places.specs.Places.{place_of}
use Rattle.as_places.proofs.PlaceLemmas.{at_place, place_at}
use Rattle.data_trace.specs.Watches.{is_end}
use Rattle.data_trace.specs.contracts.kinds.EndPartialEq.TheImpl as same_end_test
use Rattle.data_trace.specs.declared.kinds.End.{End}
use Rattle.data_trace.specs.declared.kinds.End.TheVariants as the_end
use Rattle.sim_core.proofs.Rows.{is_end_same, one_more}

-- the end that stands for a number: none is known where it is 0, else it is at the AS of the place below it
abbrev pub end_by : List ℕ → ℕ → End
end_by ases e = if e == 0 then the_end.NoRoute else the_end.At (slice_index ases (e - 1))

-- the end of an AS, by its place
abbrev pub placed_end : List ℕ → List ℕ → ℕ → End
placed_end ases ends a = option_map_or (λ k. end_by ases (slice_index ends k)) (place_of ases a) the_end.NoRoute

-- where the items of two lists pass two tests alike, these count the same
pub count_both : (p q : ℕ → Bool) (xs ys : List ℕ) → length xs ≡ length ys → ((k : ℕ) → k < length xs → p (slice_index xs k) ≡ q (slice_index ys k)) → count_by p xs ≡ count_by q ys
count_both p q [] [] len each = refl
count_both p q [] (y ∷ ys) len each = absurd (omega (arith, len))
count_both p q (x ∷ xs) [] len each = absurd (omega (arith, len))
count_both p q (x ∷ xs) (y ∷ ys) len each =
    one_more p x xs ∙ (λ i. cond (each 0 (omega arith) i) 1 0 + count_both p q xs ys (omega (arith, len)) (λ k less. each (suc k) (omega (arith, less))) i) ∙ sym (one_more q y ys)

none_pass : (xs : List ℕ) → count_by (λ x. false) xs ≡ 0
none_pass [] = refl
none_pass (x ∷ xs) = (let rest = none_pass xs in let more = one_more (λ y. false) x xs in omega (arith, more, rest))

module _ (ases ends : List ℕ) (apart : IsDistinct nat_eq ases) (len : length ends ≡ length ases) (inside : (k : ℕ) → k < length ases → slice_index ends k ≢ 0 → slice_index ends k - 1 < length ases) where
  abbrev test : End → ℕ → Bool
  test f a = (same_end_test.ghosts).eq (placed_end ases ends a) f

  own_place : (k : ℕ) → k < length ases → place_of ases (slice_index ases k) ≡ Some k
  own_place k less = place_at ases apart k (slice_index ases k) less refl

  here : (f : End) (k : ℕ) → k < length ases → test f (slice_index ases k) ≡ is_end (end_by ases (slice_index ends k)) f
  here f k less = ap (λ (o : Option ℕ). (same_end_test.ghosts).eq (option_map_or (λ j. end_by ases (slice_index ends j)) o the_end.NoRoute) f) (own_place k less) ∙ sym (is_end_same (end_by ases (slice_index ends k)) f)

  lost_is : (e : ℕ) (t : Bool) → is_end (if t then the_end.NoRoute else the_end.At (slice_index ases (e - 1))) the_end.NoRoute ≡ t
  lost_is e true = refl
  lost_is e false = refl

  loops_not : (e : ℕ) (t : Bool) → is_end (if t then the_end.NoRoute else the_end.At (slice_index ases (e - 1))) the_end.Loop ≡ false
  loops_not e true = refl
  loops_not e false = refl

  pub count_lost : count_by (λ e. e == 0) ends ≡ count_by (test the_end.NoRoute) ases
  count_lost = sym (count_both (test the_end.NoRoute) (λ e. e == 0) ases ends (sym len) (λ k less. here the_end.NoRoute k less ∙ lost_is (slice_index ends k) (slice_index ends k == 0)))

  pub count_loops : 0 ≡ count_by (test the_end.Loop) ases
  count_loops = sym (count_both (test the_end.Loop) (λ e. false) ases ends (sym len) (λ k less. here the_end.Loop k less ∙ loops_not (slice_index ends k) (slice_index ends k == 0)) ∙ none_pass ends)

  -- whether a number stands for the end at an AS is whether it is that of the AS's place
  module _ (a : ℕ) where
    at_is : (e : ℕ) → (e ≢ 0 → e - 1 < length ases) → (o : Option ℕ) → place_of ases a ≡ o → is_end (end_by ases e) (the_end.At a) ≡ option_map_or (λ k. e == k + 1) o false
    at_is zero low None is = refl
    at_is zero low (Some k) is = sym (ne_eqb 0 (k + 1) (λ h. omega (arith, h)))
    at_is (suc e) low o is = ap (λ b. is_end (if b then the_end.NoRoute else the_end.At (slice_index ases (suc e - 1))) (the_end.At a)) (ne_eqb (suc e) 0 (λ h. omega (arith, h))) ∙ by o is
      where
        less : e < length ases
        less = (let inside : suc e - 1 < length ases = low (λ h. omega (arith, h)) in omega (arith, inside))

        back : suc e - 1 ≡ e
        back = omega arith

        own : place_of ases (slice_index ases (suc e - 1)) ≡ Some e
        own = ap (λ j. place_of ases (slice_index ases j)) back ∙ own_place e less

        by : (o : Option ℕ) → place_of ases a ≡ o → (slice_index ases (suc e - 1) == a) ≡ option_map_or (λ k. suc e == k + 1) o false
        by None is = false_from_ne_true (slice_index ases (suc e - 1) == a) (λ t. (let no : Some e ≡ None = sym own ∙ ap (place_of ases) (eqb-true (slice_index ases (suc e - 1)) a t) ∙ is in cc))
        by (Some k) is = same (suc e == k + 1) refl
          where
            same : (t : Bool) → (suc e == k + 1) ≡ t → (slice_index ases (suc e - 1) == a) ≡ (suc e == k + 1)
            same true t =
                let at : e ≡ k = omega (arith, eqb-true (suc e) (k + 1) t) in
                ap (λ j. slice_index ases j == a) back ∙ eq-eqb (slice_index ases e) a (ap (slice_index ases) at ∙ get_or_from_slice_get ases k a 0 (at_place ases a k is)) ∙ sym t
            same false t =
                false_from_ne_true (slice_index ases (suc e - 1) == a) (λ s. (
                let one : Some e ≡ Some k = sym own ∙ ap (place_of ases) (eqb-true (slice_index ases (suc e - 1)) a s) ∙ is in
                let at : e ≡ k = cc in
                true≢false (sym (eq-eqb (suc e) (k + 1) (omega (arith, at))) ∙ t)))
                ∙ sym t

    pub count_at : option_map_or (λ k. count_by (λ e. e == k + 1) ends) (place_of ases a) 0 ≡ count_by (test (the_end.At a)) ases
    count_at = by (place_of ases a) refl
      where
        each : (o : Option ℕ) → place_of ases a ≡ o → (k : ℕ) → k < length ases → test (the_end.At a) (slice_index ases k) ≡ option_map_or (λ j. slice_index ends k == j + 1) o false
        each o is k less = here (the_end.At a) k less ∙ at_is (slice_index ends k) (inside k less) o is

        by : (o : Option ℕ) → place_of ases a ≡ o → option_map_or (λ k. count_by (λ e. e == k + 1) ends) o 0 ≡ count_by (test (the_end.At a)) ases
        by None is = sym (count_both (test (the_end.At a)) (λ e. false) ases ends (sym len) (each None is) ∙ none_pass ends)
        by (Some j) is = sym (count_both (test (the_end.At a)) (λ e. e == j + 1) ases ends (sym len) (each (Some j) is))
