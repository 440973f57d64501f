-- The ends of links in lists by AS.
use Rattle.std.proofs.Common.{◌≡◌, ◌≢◌, ℕ, zero, suc, ◌+◌, ◌<◌, ◌≤◌, Bool, true, false, ◌&&◌, not, ◌==◌, cond, Some, None, List, [], ◌∷◌, ◌++◌, length, take, drop, map, filter, get_or, slice_get, refl, sym, ◌∙◌, ap, subst, arith, length-append, drop-cons}
use Rattle.std.proofs.lemmas.Bool.{eq-eqb, ne_eqb}
use Rattle.std.proofs.lemmas.Bool.Decides.{nat_tests}
use Rattle.std.proofs.lemmas.List.Elements.{All-append}
use Rattle.std.proofs.lemmas.List.{get_or_append_left, get_or_default}
use Rattle.std.proofs.Math.Seq.{get_or-append_seam}
use Rattle.std.specs.Ordering.{nat_cmp, is_lt}
use Rattle.std.specs.List.Sorted.{ties, IsStableByKey}
use Rattle.net_names.specs.declared.routes.Rel.{Rel}
use Rattle.net_names.specs.Dealing.{IsDealt, items_at}
use Rattle.net_names.specs.Links.{converse}
use Rattle.as_graph.specs.declared.neighbour.Neighbour.{Neighbour}
use Rattle.as_graph.specs.declared.ends.End.{End}
use Rattle.as_graph.specs.Rows.{asn_at, blank, IsRising, AreBelow}
use Rattle.as_graph.specs.Ends.{lower_ends, higher_ends, ends_at, AreTurned, AreByAs, at_of}
use Rattle.std.proofs.lemmas.Option.{same_Some as some_is}

-- ---- places

take_next : (es : List ((ℕ × ℕ) × Rel)) (k : ℕ) (e : (ℕ × ℕ) × Rel) → slice_get es k ≡ Some e → take (suc k) es ≡ take k es ++ e ∷ []
take_next [] k e is = cc
take_next (f ∷ es) zero e is = ap (λ (g : (ℕ × ℕ) × Rel). g ∷ []) (some_is f e is)
take_next (f ∷ es) (suc k) e is = ap (λ l. f ∷ l) (take_next es k e is)

-- there is an entry at each place below the length
pub past_end : (es : List ((ℕ × ℕ) × Rel)) (k : ℕ) → None ≡ slice_get es k → length es ≤ k
past_end [] k e = omega arith
past_end (x ∷ es) zero e = cc
past_end (x ∷ es) (suc k) e = let rest : length es ≤ k = past_end es k e in omega arith

pub at_is : (xs : List End) (j b : ℕ) → at_of xs j ≡ Some b → (d : End) → (j < length xs) × ((get_or xs j d).at ≡ b)
at_is [] j b e d = absurd (none_not b e)
  where
    none_not : (b : ℕ) → None ≡ Some b → ⊥
    none_not b e = cc
at_is (x ∷ xs) zero b e d = (omega arith, some_is x.at b e)
at_is (x ∷ xs) (suc j) b e d = let rest = at_is xs j b e d in (omega (arith, rest.0), rest.1)

-- the AS at a place is below none after it
pub least_from : (xs : List End) → AreByAs xs → (j b a : ℕ) → at_of xs j ≡ Some b → a ≤ b → (k : ℕ) (d : End) → j ≤ k → k < length xs → a ≤ (get_or xs k d).at
least_from xs by_as j b a e le k d from lt = omega (arith, le, (at_is xs j b e d).1, by_as j k d from lt)

pub past_at : (xs : List End) (j : ℕ) → at_of xs j ≡ None → length xs ≤ j
past_at [] j e = omega arith
past_at (x ∷ xs) zero e = cc
past_at (x ∷ xs) (suc j) e = let rest : length xs ≤ j = past_at xs j e in omega arith

pub past_least : (xs : List End) (j a : ℕ) → at_of xs j ≡ None → (k : ℕ) (d : End) → j ≤ k → k < length xs → a ≤ (get_or xs k d).at
past_least xs j a e k d from lt = absurd (omega (arith, past_at xs j e))

-- ---- the two sides of links

lower_ends-push : (es : List ((ℕ × ℕ) × Rel)) (e : (ℕ × ℕ) × Rel) → lower_ends (es ++ e ∷ []) ≡ lower_ends es ++ record { at = e.0.0; neighbour = record { asn = e.0.1; rel = e.1 } } ∷ []
lower_ends-push [] e = refl
lower_ends-push (x ∷ es) e = ap (λ l. record { at = x.0.0; neighbour = record { asn = x.0.1; rel = x.1 } } ∷ l) (lower_ends-push es e)

higher_ends-push : (es : List ((ℕ × ℕ) × Rel)) (e : (ℕ × ℕ) × Rel) → higher_ends (es ++ e ∷ []) ≡ higher_ends es ++ record { at = e.0.1; neighbour = record { asn = e.0.0; rel = converse e.1 } } ∷ []
higher_ends-push [] e = refl
higher_ends-push (x ∷ es) e = ap (λ l. record { at = x.0.1; neighbour = record { asn = x.0.0; rel = converse x.1 } } ∷ l) (higher_ends-push es e)

module _ (es : List ((ℕ × ℕ) × Rel)) (k a b : ℕ) (r : Rel) (is : Some ((a, b), r) ≡ slice_get es k) where
  next : take (k + 1) es ≡ take k es ++ ((a, b), r) ∷ []
  next = let one : k + 1 ≡ suc k = omega arith in ap (λ j. take j es) one ∙ take_next es k ((a, b), r) (sym is)

  pub lower_ends-next : (xs : List End) → xs ≡ lower_ends (take k es) → xs ++ record { at = a; neighbour = record { asn = b; rel = r } } ∷ [] ≡ lower_ends (take (k + 1) es)
  lower_ends-next xs e = ap (λ l. l ++ record { at = a; neighbour = record { asn = b; rel = r } } ∷ []) e ∙ sym (ap lower_ends next ∙ lower_ends-push (take k es) ((a, b), r))

  pub higher_ends-next : (xs : List End) (s : Rel) → s ≡ converse r → xs ≡ higher_ends (take k es) → xs ++ record { at = b; neighbour = record { asn = a; rel = s } } ∷ [] ≡ higher_ends (take (k + 1) es)
  higher_ends-next xs s turned e = (λ i. e i ++ record { at = b; neighbour = record { asn = a; rel = turned i } } ∷ []) ∙ sym (ap higher_ends next ∙ higher_ends-push (take k es) ((a, b), r))

  pub turned_next : a < b → AreTurned (take k es) → AreTurned (take (k + 1) es)
  turned_next lt before = subst AreTurned (sym next) (All-append (λ (e : (ℕ × ℕ) × Rel). e.0.0 < e.0.1) (take k es) (((a, b), r) ∷ []) before one)
    where
      one : AreTurned (((a, b), r) ∷ [])
      one zero d h = lt
      one (suc j) d h = absurd (omega arith)

-- ---- a stable sort keeps the ends of each AS in their order

same_as : (a b : ℕ) → (not (is_lt (nat_cmp a b)) && not (is_lt (nat_cmp b a))) ≡ (b == a)
same_as a b = grind (arith, nat_tests)

ends_at-filter : (a : ℕ) (xs : List End) → ends_at a xs ≡ map (λ (x : End). x.neighbour) (filter (ties (λ (x y : End). is_lt (nat_cmp x.at y.at)) (record { at = a; neighbour = blank })) xs)
ends_at-filter a [] = refl
ends_at-filter a (x ∷ xs) =
    let rest : List End = filter (ties (λ (x y : End). is_lt (nat_cmp x.at y.at)) (record { at = a; neighbour = blank })) xs in
    ap (λ l. cond (x.at == a) (x.neighbour ∷ l) l) (ends_at-filter a xs) ∙ by rest (x.at == a) ∙ sym (ap (λ t. map (λ (y : End). y.neighbour) (cond t (x ∷ rest) rest)) (same_as a x.at))
  where
    by : (rest : List End) (t : Bool) → cond t (x.neighbour ∷ map (λ (y : End). y.neighbour) rest) (map (λ (y : End). y.neighbour) rest) ≡ map (λ (y : End). y.neighbour) (cond t (x ∷ rest) rest)
    by rest true = refl
    by rest false = refl

-- and so does dealing them
ends_at-items : (a : ℕ) (xs : List End) → ends_at a xs ≡ map (λ (x : End). x.neighbour) (items_at (λ (x : End). x.at) a xs)
ends_at-items a [] = refl
ends_at-items a (x ∷ xs) = by (x.at == a) (ends_at-items a xs)
  where
    by : (t : Bool) → ends_at a xs ≡ map (λ (y : End). y.neighbour) (items_at (λ (y : End). y.at) a xs) → cond t (x.neighbour ∷ ends_at a xs) (ends_at a xs) ≡ map (λ (y : End). y.neighbour) (cond t (x ∷ items_at (λ (y : End). y.at) a xs) (items_at (λ (y : End). y.at) a xs))
    by true h = ap (λ l. x.neighbour ∷ l) h
    by false h = h

pub ends_at-dealt : (xs ys : List End) → IsDealt (λ (x : End). x.at) xs ys → (a : ℕ) → ends_at a ys ≡ ends_at a xs
ends_at-dealt xs ys dealt a = ends_at-items a ys ∙ ap (map (λ (x : End). x.neighbour)) (dealt.each a) ∙ sym (ends_at-items a xs)

pub ends_at-stable : (xs ys : List End) → IsStableByKey (λ (x : End). x.at) nat_cmp xs ys → (a : ℕ) → ends_at a ys ≡ ends_at a xs
ends_at-stable xs ys stable a = ends_at-filter a ys ∙ ap (map (λ (x : End). x.neighbour)) (stable (record { at = a; neighbour = blank })) ∙ sym (ends_at-filter a xs)

-- ---- the run of an AS

-- a neighbour in a list that rises is above those before it
pub rising_below : (xs : List Neighbour) (y : Neighbour) (zs : List Neighbour) → IsRising (xs ++ y ∷ zs) → AreBelow xs y.asn
rising_below xs y zs rising i lt =
    let len : length (xs ++ y ∷ zs) ≡ length xs + suc (length zs) = length-append xs (y ∷ zs) in
    let here : asn_at (xs ++ y ∷ zs) i ≡ asn_at xs i = ap (λ (n : Neighbour). n.asn) (get_or_append_left xs (y ∷ zs) blank i lt) in
    let next : asn_at (xs ++ y ∷ zs) (length xs) ≡ y.asn = ap (λ (n : Neighbour). n.asn) (get_or-append_seam xs y zs blank) in
    omega (arith, here, next, rising i (length xs) lt (omega (arith, len)))

pub none_at : (a : ℕ) (xs : List End) → ((k : ℕ) (d : End) → k < length xs → (get_or xs k d).at ≢ a) → ends_at a xs ≡ []
none_at a [] none = refl
none_at a (x ∷ xs) none = ap (λ t. cond t (x.neighbour ∷ ends_at a xs) (ends_at a xs)) (ne_eqb x.at a (none 0 x (omega arith))) ∙ none_at a xs (λ k d lt. none (suc k) d (omega arith))

-- past the run of an AS there are no ends of it
pub none_past : (xs : List End) (a j : ℕ) → ((k : ℕ) (d : End) → j ≤ k → k < length xs → a < (get_or xs k d).at) → ends_at a (drop j xs) ≡ []
none_past [] a zero after = refl
none_past [] a (suc j) after = refl
none_past (x ∷ xs) a zero after = none_at a (x ∷ xs) (λ k d lt e. omega (arith, e, after k d (omega arith) lt))
none_past (x ∷ xs) a (suc j) after = none_past xs a j (λ k d le lt. after (suc k) d (omega arith) (omega arith))

-- the next end of the AS is above the neighbours that its row has
pub push_fits : (xs : List End) (j a : ℕ) (d e : End) (row whole : List Neighbour) → j < length xs → (get_or xs j d).at ≡ a → row ++ ends_at a (drop j xs) ≡ whole → IsRising whole → AreBelow row (get_or xs j e).neighbour.asn
push_fits xs j a d e row whole lt at is rising =
    let x : End = get_or xs j e in
    let here : x.at ≡ a = ap (λ (y : End). y.at) (get_or_default xs j e d lt) ∙ at in
    let split : ends_at a (drop j xs) ≡ x.neighbour ∷ ends_at a (drop (suc j) xs) =
    ap (ends_at a) (drop-cons xs j e lt) ∙ ap (λ t. cond t (x.neighbour ∷ ends_at a (drop (suc j) xs)) (ends_at a (drop (suc j) xs))) (eq-eqb x.at a here) in
    rising_below row x.neighbour (ends_at a (drop (suc j) xs)) (subst IsRising (sym is ∙ ap (λ l. row ++ l) split) rising)

-- from an end of a higher AS on, all are of higher ones
pub after_from : (xs : List End) → AreByAs xs → (j a : ℕ) (e : End) → a < (get_or xs j e).at → j < length xs → (k : ℕ) (d : End) → j ≤ k → k < length xs → a < (get_or xs k d).at
after_from xs by_as j a e less within k d le lt = omega (arith, less, ap (λ (y : End). y.at) (get_or_default xs j e d within), by_as j k d le lt)
