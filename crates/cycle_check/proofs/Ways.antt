-- The way down.
use Rattle.std.proofs.Common.{◌≡◌, ◌≢◌, inl, inr, ℕ, ◌+◌, ◌<◌, ◌≤◌, true, false, cond, Option, Some, None, List, [], ◌∷◌, ◌++◌, length, get_or, set, length-set, get_or-set_other, refl, sym, ◌∙◌, ap, subst, arith}
use Rattle.std.proofs.lemmas.Bool.{cases_eq, cases_Bool}
use Rattle.std.proofs.lemmas.List.{get_or_read, length_push}
use Rattle.std.proofs.lemmas.Grind.{get_or-set_at}
use Rattle.net_names.specs.Numbers.{occurs, IsDistinct}
use Rattle.net_names.specs.declared.routes.Rel.{Rel}
use Rattle.net_names.specs.declared.routes.Rel.TheVariants.{Customer}
use Rattle.cycle_check.specs.Rows.{relation_by}
use Rattle.cycle_check.specs.Ways.{IsNoted, IsLeftBelow, AreLeftBelow, IsWay, LeadsBack}
use Rattle.cycle_check.proofs.Descents.{occurs_push, occurs_before, occurs_last, distinct_push, descent_push, last_or_push}
use Rattle.cycle_check.proofs.Listing.{distinct_below}
use Rattle.cycle_check.proofs.Tallies.{cases_pos}
use Rattle.cycle_check.proofs.Stages.{zeros, zeros_get, length-zeros}

module _ (rows : ℕ → List ℕ) (n : ℕ) (counts : List ℕ) (customer p : ℕ) where
  -- one more customer is noted
  pub noted_more : (providers : List ℕ) (old new : ℕ) → providers ≡ rows customer → customer < n → 0 < get_or counts customer 0 → IsNoted providers customer p old new →
      ((b : ℕ) → b < customer → 0 < get_or counts b 0 → occurs p (rows b) ≡ true → IsLeftBelow rows n counts p old) →
      (b : ℕ) → b < customer + 1 → 0 < get_or counts b 0 → occurs p (rows b) ≡ true → IsLeftBelow rows n counts p new
  noted_more providers old new same inside some (inl (there, is)) before b less left o =
      subst (IsLeftBelow rows n counts p) (sym is) (record { inside = inside; left = some; linked = subst (λ xs. occurs p xs ≡ true) same there })
  noted_more providers old new same inside some (inr (away, is)) before b less left o = elim (cases_eq b customer) [
    | inl e ↦ (
        let here : occurs p providers ≡ true = subst (λ xs. occurs p xs ≡ true) (ap rows e ∙ sym same) o in
        cc)
    | inr ne ↦ subst (IsLeftBelow rows n counts p) (sym is) (before b (omega arith) left o)
  ]

  -- a customer with a rank is passed over
  pub noted_same : (old : ℕ) → get_or counts customer 0 ≤ 0 →
      ((b : ℕ) → b < customer → 0 < get_or counts b 0 → occurs p (rows b) ≡ true → IsLeftBelow rows n counts p old) →
      (b : ℕ) → b < customer + 1 → 0 < get_or counts b 0 → occurs p (rows b) ≡ true → IsLeftBelow rows n counts p old
  noted_same old none before b less left o = elim (cases_eq b customer) [
    | inl e ↦ (let same : get_or counts b 0 ≡ get_or counts customer 0 = ap (λ x. get_or counts x 0) e in absurd (omega (arith, same, none, left)))
    | inr ne ↦ before b (omega arith) left o
  ]

module _ (rows : ℕ → List ℕ) (counts seen way : List ℕ) (at : ℕ) (w : IsWay (relation_by rows) counts seen way at) where
  -- what is read of the place says whether it was met
  seen_at : (v : ℕ) → v ≡ get_or seen at v → v ≡ get_or seen at 0
  seen_at v read = get_or_read seen at v (omega (arith, w.inside, w.room)) read 0

  -- the way comes back to a place on it
  pub leads_back : (v : ℕ) → v ≡ get_or seen at v → v ≢ 0 → LeadsBack (relation_by rows) way at
  leads_back v read some =
      let there : occurs at way ≡ true = w.met at (elim (cases_pos (get_or seen at 0)) [ inl e ↦ absurd (some (seen_at v read ∙ e)) | inr more ↦ more ]) in
      record {
        descends = w.descends;
        distinct = w.distinct;
        on_way = there;
        back = elim w.last [
          | inl none ↦ (let away = ap (occurs at) none in cc)
          | inr linked ↦ linked
        ];
      }

  module _ (below : List ℕ) (downs : AreLeftBelow rows (length counts) counts below) (v : ℕ) (read : v ≡ get_or seen at v) (unseen : v ≡ 0) where
    away : occurs at way ≡ false
    away = w.unmet at w.inside (sym (seen_at v read) ∙ unseen)

    distinct_more : IsDistinct (way ++ at ∷ [])
    distinct_more = distinct_push way at w.distinct away

    below_more : (p : ℕ) → occurs p (way ++ at ∷ []) ≡ true → p < length counts
    below_more p o = elim (occurs_push p way at o) [ inl old ↦ w.below p old | inr e ↦ subst (λ x. x < length counts) e w.inside ]

    -- there is room for one more place on the way
    pub way_room : length way + 1 ≤ length counts
    way_room = omega (arith, length_push way at, distinct_below (length counts) (way ++ at ∷ []) distinct_more below_more)

    -- the way goes on one place further down
    pub way_more : IsWay (relation_by rows) counts (set seen at 1) (way ++ at ∷ []) (get_or below at 0)
    way_more =
        let step = downs at w.inside w.left in
        record {
          room = length-set seen at 1 ∙ w.room;
          inside = step.inside;
          left = step.left;
          met = λ p h. elim (cases_eq p at) [
            | inl e ↦ subst (λ x. occurs x (way ++ at ∷ []) ≡ true) (sym e) (occurs_last way at)
            | inr ne ↦ occurs_before p way at (w.met p (let old = get_or-set_other seen at p 1 0 ne in omega (arith, old, h)))
          ];
          unmet = λ p l h. elim (cases_eq p at) [
            | inl e ↦ (let one = get_or-set_at seen at p 1 0 e (omega (arith, w.inside, w.room)) in absurd (omega (arith, one, h)))
            | inr ne ↦ (elim (cases_Bool (occurs p (way ++ at ∷ []))) [
              | inl o ↦ (elim (occurs_push p way at o) [
                | inl old ↦ (let none = w.unmet p l (sym (get_or-set_other seen at p 1 0 ne) ∙ h) in cc)
                | inr e ↦ absurd (ne (sym e))
              ])
              | inr o ↦ o
            ])
          ];
          below = below_more;
          distinct = distinct_more;
          descends = descent_push (relation_by rows) way at w.descends w.last;
          last = inr (subst (λ t. relation_by rows t (get_or below at 0) ≡ Some Customer) (sym (last_or_push 0 way at)) (ap (λ t. cond t (Some Customer) None) step.linked));
        }

-- before the first step
pub first_way : (relation : ℕ → ℕ → Option Rel) (counts : List ℕ) (at : ℕ) → at < length counts → 0 < get_or counts at 0 → IsWay relation counts (zeros (length counts)) [] at
first_way relation counts at inside left = record {
  room = length-zeros (length counts);
  inside = inside;
  left = left;
  met = λ p h. (let none = zeros_get (length counts) p in absurd (omega (arith, none, h)));
  unmet = λ p l h. refl;
  below = λ p o. cc;
  distinct = tt;
  descends = tt;
  last = inl refl;
}
