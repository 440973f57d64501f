-- One more note behind the others.
use Rattle.std.proofs.Common.{◌≡◌, inl, inr, ℕ, ◌+◌, ◌++◌, Option, Some, List, [], ◌∷◌, length, get_or, refl, sym, ◌∙◌, ap, subst, arith}
use Rattle.std.specs.Prelude.{slice_get}
use Rattle.std.proofs.lemmas.Bool.{cases_lt}
use Rattle.std.proofs.lemmas.List.{get_or_append_left, get_or-append-add, get_or-map}
use Rattle.std.proofs.lemmas.Option.{slice_get-get_or, slice_get_within, get_or_from_slice_get}
use Rattle.net_names.specs.declared.routes.Rel.{Rel}
use Rattle.three_pass.specs.declared.told.Note.{Note}
use Rattle.three_pass.specs.Notes.{befores, tos, IsNoted}

-- who was told by the note at a place
pub to_at : (notes : List Note) (j : ℕ) (x : Note) → slice_get notes j ≡ Some x → get_or (tos notes) j 0 ≡ x.to
to_at notes j x there = get_or-map (λ (t : Note). t.to) notes j x 0 (slice_get_within notes j x there) ∙ ap (λ (t : Note). t.to) (get_or_from_slice_get notes j x x there)

-- which note stands before the one at a place
pub before_at : (notes : List Note) (j : ℕ) (x : Note) → slice_get notes j ≡ Some x → get_or (befores notes) j 0 ≡ x.before
before_at notes j x there = get_or-map (λ (t : Note). t.before) notes j x 0 (slice_get_within notes j x there) ∙ ap (λ (t : Note). t.before) (get_or_from_slice_get notes j x x there)

length_more : (xs : List Note) (x : Note) → length (xs ++ x ∷ []) ≡ length xs + 1
length_more [] x = refl
length_more (y ∷ xs) x = (let h = length_more xs x in omega (arith, h))

module _ (xs ys : List Note) (x : Note) (is : ys ≡ xs ++ x ∷ []) where
  more : length ys ≡ length xs + 1
  more = ap length is ∙ length_more xs x

  old_at : (j : ℕ) (y : Note) → slice_get xs j ≡ Some y → slice_get ys j ≡ Some y
  old_at j y there =
      let inside = slice_get_within xs j y there in
      slice_get-get_or ys j y (omega (arith, inside, more)) ∙ ap Some (ap (λ zs. get_or zs j y) is ∙ get_or_append_left xs (x ∷ []) y j inside ∙ get_or_from_slice_get xs j y y there)

  new_at : slice_get ys (length xs) ≡ Some x
  new_at =
      let e : length xs + 0 ≡ length xs = omega arith in
      slice_get-get_or ys (length xs) x (omega (arith, more)) ∙ ap Some (ap (λ zs. get_or zs (length xs) x) is ∙ ap (λ n. get_or (xs ++ x ∷ []) n x) (sym e) ∙ get_or-append-add xs (x ∷ []) 0 x)

  pub noted_kept : (a b : ℕ) → IsNoted xs a b → IsNoted ys a b
  noted_kept a b h = record { at = h.at; note = h.note; there = old_at h.at h.note h.there; to = h.to; from = h.from }

  pub noted_new : IsNoted ys x.to x.from.asn
  noted_new = record { at = length xs; note = x; there = new_at; to = refl; from = refl }

  pub true_more : (w : ℕ → ℕ → Option Rel) → w x.to x.from.asn ≡ Some x.from.rel → ((j : ℕ) (y : Note) → slice_get xs j ≡ Some y → w y.to y.from.asn ≡ Some y.from.rel) → (j : ℕ) (y : Note) → slice_get ys j ≡ Some y → w y.to y.from.asn ≡ Some y.from.rel
  true_more w here are j y there = elim (cases_lt j (length xs)) [
    | inl old ↦
        let same : get_or ys j y ≡ get_or xs j y = ap (λ zs. get_or zs j y) is ∙ get_or_append_left xs (x ∷ []) y j old in
        are j y (slice_get-get_or xs j y old ∙ ap Some (sym same ∙ get_or_from_slice_get ys j y y there))
    | inr new ↦
        let inside = slice_get_within ys j y there in
        let e : length xs ≡ j = omega (arith, new, inside, more) in
        let both : Some x ≡ Some y = sym new_at ∙ ap (slice_get ys) e ∙ there in
        let same : x ≡ y = cc in
        subst (λ (t : Note). w t.to t.from.asn ≡ Some t.from.rel) same here
  ]
