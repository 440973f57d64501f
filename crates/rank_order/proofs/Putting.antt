-- What holds while ASes are put in and taken out one by one.
use Rattle.std.proofs.Common.{◌≡◌, ◌≢◌, inl, inr, ℕ, ◌+◌, ◌<◌, ◌≤◌, Bool, true, false, ◌==◌, cond, Option, Some, None, is_some, List, ◌∷◌, length, get_or, refl, sym, ap, subst, arith, ◌∙◌}
use Rattle.std.proofs.lemmas.Bool.{cases_Bool, cases_eq, eq-eqb, ne_eqb, eqb-true, false_from_ne_true}
use Rattle.std.proofs.lemmas.List.Kept.{AllPairs-from_increasing}
use Rattle.std.specs.List.Sorted.{IsStrictlyIncreasing}
use Rattle.std.specs.FinMap as map_of
use Rattle.net_names.specs.Numbers.{occurs}
use Rattle.cycle_check.specs.Places.{place_in}
use Rattle.cycle_check.specs.Providers.{rank_by as rank_by_place}
use Rattle.cycle_check.proofs.Listing.{occurs_get, occurs_cons}
use Rattle.cycle_check.proofs.Places.{place_less, at_place}
use Rattle.rank_order.specs.Lists.{AreAtMost}
use Rattle.rank_order.specs.Ranks.{KeptRanks, RankMap, Lacks}

-- the first i of the ASes have the ranks given, all others have what they had, and there is room for those that lack one
pub record IsPutting (ases given : List ℕ) (old : RankMap) (i : ℕ) (ranks : KeptRanks) : Type 0 where
  pub done : (j : ℕ) → j < i → map_of.get ranks.by_as (get_or ases j 0) ≡ Some (get_or given j 0)
  pub others : (a : ℕ) → ((j : ℕ) → j < i → j < length ases → get_or ases j 0 ≢ a) → map_of.get ranks.by_as a ≡ map_of.get old a
  pub room : AreAtMost ranks.spare (Lacks ranks ases)

module _ (ases given : List ℕ) (old : RankMap) where
  module _ (rising : IsStrictlyIncreasing ases) (i x r : ℕ) (ranks next : KeptRanks) (less : i < length ases) (x_is : x ≡ get_or ases i 0) (r_is : r ≡ get_or given i 0)
      (entries : (a : ℕ) → map_of.get next.by_as a ≡ cond (x == a) (Some r) (map_of.get ranks.by_as a))
      (spare : ranks.spare ≤ next.spare + 1) (kept : is_some (map_of.get ranks.by_as x) ≡ true → ranks.spare ≤ next.spare) (putting : IsPutting ases given old i ranks)
    where
      at_other : (a : ℕ) → x ≢ a → map_of.get next.by_as a ≡ map_of.get ranks.by_as a
      at_other a ne = entries a ∙ ap (λ b. cond b (Some r) (map_of.get ranks.by_as a)) (ne_eqb x a ne)

      at_this : (a : ℕ) → x ≡ a → map_of.get next.by_as a ≡ Some r
      at_this a e = entries a ∙ ap (λ b. cond b (Some r) (map_of.get ranks.by_as a)) (eq-eqb x a e)

      lacked : (z : ℕ) → Lacks next ases z → Lacks ranks ases z × (x ≢ z)
      lacked z lacks =
          let apart : x ≢ z = λ e. (let some = ap is_some (at_this z e) in let none = lacks.missing in cc) in
          (record { listed = lacks.listed; missing = sym (ap is_some (at_other z apart)) ∙ lacks.missing }, apart)

      rooms : AreAtMost next.spare (Lacks next ases)
      rooms xs apart lack = elim (cases_Bool (is_some (map_of.get ranks.by_as x))) [
        | inl some ↦ (
            let n : length xs ≤ ranks.spare = putting.room xs apart (λ z o. (lacked z (lack z o)).0) in
            omega (arith, n, kept some))
        | inr none ↦ (
            let away : occurs x xs ≡ false = false_from_ne_true (occurs x xs) (λ o. (lacked x (lack x o)).1 refl) in
            let listed : occurs x ases ≡ true = subst (λ t. occurs t ases ≡ true) (sym x_is) (occurs_get ases i 0 less) in
            let n : length (x ∷ xs) ≤ ranks.spare =
            putting.room (x ∷ xs) (away, apart) (λ z o. elim (occurs_cons z x xs o) [
              | inl e ↦ subst (Lacks ranks ases) e (record { listed = listed; missing = none })
              | inr more ↦ (lacked z (lack z more)).0
            ]) in
            omega (arith, n, spare))
      ]

      pub putting_more : IsPutting ases given old (i + 1) next
      putting_more = record {
        done = λ j low. elim (cases_eq j i) [
          | inl e ↦ at_this (get_or ases j 0) (x_is ∙ ap (λ k. get_or ases k 0) (sym e)) ∙ ap Some (r_is ∙ ap (λ k. get_or given k 0) (sym e))
          | inr ne ↦ (
              let before : j < i = omega (arith, low, ne) in
              let rises : get_or ases j 0 < get_or ases i 0 = AllPairs-from_increasing ases rising j i 0 before less in
              at_other (get_or ases j 0) (λ e. absurd (omega (arith, rises, e, x_is))) ∙ putting.done j before)
        ];
        others = λ a apart.
            at_other a (λ e. apart i (omega arith) less (sym x_is ∙ e)) ∙ putting.others a (λ j low inside. apart j (omega (arith, low)) inside);
        room = rooms;
      }

  pub all_put : (n : ℕ) (ranks : KeptRanks) → length ases ≤ n → IsPutting ases given old n ranks → (a : ℕ) → map_of.get ranks.by_as a ≡ cond (occurs a ases) (Some (rank_by_place ases given a)) (map_of.get old a)
  all_put n ranks all putting a = elim (cases_Bool (occurs a ases)) [
    | inl there ↦ (
        let low = place_less ases a there in
        subst (λ t. map_of.get ranks.by_as t ≡ Some (rank_by_place ases given a)) (at_place ases a 0 there) (putting.done (place_in ases a) (omega (arith, low, all)))
        ∙ sym (ap (λ b. cond b (Some (rank_by_place ases given a)) (map_of.get old a)) there))
    | inr away ↦ putting.others a (λ j low inside e. (let o = subst (λ t. occurs t ases ≡ true) e (occurs_get ases j 0 inside) in cc)) ∙ sym (ap (λ b. cond b (Some (rank_by_place ases given a)) (map_of.get old a)) away)
  ]

-- one that is none of the ASes is taken out, and one of them is not
pub taken_other : (x a : ℕ) (ases : List ℕ) (g n : Option ℕ) → occurs x ases ≡ false → n ≡ cond (x == a) None g → n ≡ cond (occurs a ases) g (cond (x == a) None g)
taken_other x a ases g n away took = elim (cases_eq x a) [
  | inl e ↦ took ∙ sym (ap (λ b. cond b g (cond (x == a) None g)) (ap (λ t. occurs t ases) (sym e) ∙ away))
  | inr ne ↦ took ∙ ap (λ b. cond b None g) (ne_eqb x a ne) ∙ left (occurs a ases) (x == a) (ne_eqb x a ne)
]
  where
    left : (o b : Bool) → b ≡ false → g ≡ cond o g (cond b None g)
    left true b e = refl
    left false true e = cc
    left false false e = refl

pub left_other : (x a : ℕ) (ases : List ℕ) (g : Option ℕ) → occurs x ases ≡ true → g ≡ cond (occurs a ases) g (cond (x == a) None g)
left_other x a ases g there = by (occurs a ases) (x == a) refl refl
  where
    by : (o b : Bool) → occurs a ases ≡ o → (x == a) ≡ b → g ≡ cond o g (cond b None g)
    by true b p q = refl
    by false true p q = (let same = ap (λ t. occurs t ases) (eqb-true x a q) in cc)
    by false false p q = refl
