-- The numbers from 1 on, the policies of these ASes, and the leakers among them.
use Rattle.std.proofs.Common.{◌≡◌, ◌≢◌, ◌∙◌, ◌≤◌, ◌+◌, ◌*◌, ◌%◌, ℕ, zero, suc, Bool, true, false, List, [], ◌∷◌, ◌++◌, length, map, filter, slice_index_or, add-one, ap, refl, subst, sym, arith}
use Rattle.std.specs.List.{All, flat_map, range_with_len}
use Rattle.std.proofs.lemmas.Grind.{flat_map-append}
use Rattle.std.proofs.lemmas.List.FromFn.{length-range_with_len, get_or-range_with_len}
use Rattle.std.specs.Prelude.{◌==◌}
use Rattle.std.proofs.lemmas.List.{length-append, map-append, append_assoc, append-nil}
use Rattle.std.proofs.lemmas.Bool.{eqb-true}
use Rattle.std.proofs.lemmas.List.Elements.{All-map, All-filter, filter-append}
use Rattle.policy_kinds.specs.declared.kind.Kind.{Kind}
use Rattle.net_names.specs.Links.{LinkMap}
use Rattle.scenario_text.specs.LineValues.{LineValue}
use Rattle.topo_gen.specs.Scenarios.{kind_of}
use Rattle.topo_gen.specs.Lines.{edits_at}

-- the AS leaks in round 2
abbrev pub leaks : ℕ → Bool
leaks a = a % 100 == 50

pub range_with_len-push : (a n j : ℕ) → a + n ≡ j → range_with_len a (n + 1) ≡ range_with_len a n ++ j ∷ []
range_with_len-push a n j e = rw add-one (last a n j e)
  where
    last : (a n j : ℕ) → a + n ≡ j → range_with_len a (suc n) ≡ range_with_len a n ++ j ∷ []
    last a zero j e = let same : a ≡ j = omega (arith, e) in ap (λ k. k ∷ []) same
    last a (suc n) j e = ap (λ l. a ∷ l) (last (a + 1) n j (omega (arith, e)))

pub range_with_len-more : (k : ℕ) → range_with_len 1 (k + 1) ≡ range_with_len 1 k ++ (k + 1) ∷ []
range_with_len-more k = range_with_len-push 1 k (k + 1) (omega arith)

low : (k : ℕ) → All (λ x. x ≤ k) (range_with_len 1 k)
low k = λ i d h.
    let long : length (range_with_len 1 k) ≡ k = length-range_with_len 1 k in
    let at : slice_index_or (range_with_len 1 k) i d ≡ 1 + i = get_or-range_with_len 1 k i d (omega (arith, h, long)) in
    omega (arith, h, long, at)

not_next : (k : ℕ) → All (λ x. x ≢ k + 1) (range_with_len 1 k)
not_next k = λ i d h is.
    let x : slice_index_or (range_with_len 1 k) i d ≤ k = low k i d h in
    omega (arith, x, is)

abbrev policy_of : ℕ → ℕ × Kind
policy_of a = (a, kind_of a)

pub new_policy : (k : ℕ) → All (λ p. p.0 ≢ k + 1) (map policy_of (range_with_len 1 k))
new_policy k = All-map (λ p. p.0 ≢ k + 1) policy_of (range_with_len 1 k) (not_next k)

pub more_policies : (k : ℕ) → map policy_of (range_with_len 1 k) ++ policy_of (k + 1) ∷ [] ≡ map policy_of (range_with_len 1 (k + 1))
more_policies k = sym (ap (map policy_of) (range_with_len-more k) ∙ map-append policy_of (range_with_len 1 k) ((k + 1) ∷ []))

pub new_leaker : (k : ℕ) → All (λ n. n ≢ k + 1) (filter leaks (range_with_len 1 k))
new_leaker k = All-filter leaks (λ n. n ≢ k + 1) (range_with_len 1 k) (not_next k)

pub one_more : (k : ℕ) → leaks (k + 1) ≡ true → filter leaks (range_with_len 1 k) ++ (k + 1) ∷ [] ≡ filter leaks (range_with_len 1 (k + 1))
one_more k is = sym (ap (filter leaks) (range_with_len-more k) ∙ filter-append leaks (range_with_len 1 k) ((k + 1) ∷ []) ∙ rw is refl)

pub no_more : (k : ℕ) → leaks (k + 1) ≡ false → filter leaks (range_with_len 1 k) ≡ filter leaks (range_with_len 1 (k + 1))
no_more k is = sym (ap (filter leaks) (range_with_len-more k) ∙ filter-append leaks (range_with_len 1 k) ((k + 1) ∷ []) ∙ rw is (append-nil _))

pub few : (k : ℕ) → length (filter leaks (range_with_len 1 k)) * 100 ≤ k + 50
few zero = omega arith
few (suc k) = let on : k + 1 ≡ suc k = omega arith in subst (λ n. length (filter leaks (range_with_len 1 n)) * 100 ≤ n + 50) on (by (leaks (k + 1)) refl (few k))
  where
    by : (b : Bool) → leaks (k + 1) ≡ b → length (filter leaks (range_with_len 1 k)) * 100 ≤ k + 50 → length (filter leaks (range_with_len 1 (k + 1))) * 100 ≤ k + 1 + 50
    by true is before =
        let number : (k + 1) % 100 ≡ 50 = eqb-true _ _ is in
        let one : length (filter leaks (range_with_len 1 (k + 1))) ≡ length (filter leaks (range_with_len 1 k)) + 1 = ap length (sym (one_more k is)) ∙ length-append (filter leaks (range_with_len 1 k)) ((k + 1) ∷ []) in
        omega (arith, number, one, before)
    by false is before =
        let same : length (filter leaks (range_with_len 1 (k + 1))) ≡ length (filter leaks (range_with_len 1 k)) = ap length (sym (no_more k is)) in
        omega (arith, same, before)

-- the edits of the places up to i
abbrev pub edits : ℕ → LinkMap → List LineValue
edits i links = flat_map (edits_at links) (range_with_len 0 i)

pub more_edits : (i : ℕ) (links : LinkMap) (start now after : List LineValue) → now ≡ start ++ edits i links
    → after ≡ now ++ edits_at links i → after ≡ start ++ edits (i + 1) links
more_edits i links start now after h e =
    let cuts : ℕ → List LineValue = edits_at links in
    e ∙ ap (λ xs. xs ++ cuts i) h ∙ append_assoc start (edits i links) _
    ∙ ap (λ xs. start ++ xs) (sym (ap (flat_map cuts) (range_with_len-push 0 i i (omega arith)) ∙ flat_map-append cuts (range_with_len 0 i) (i ∷ []) ∙ ap (λ xs. edits i links ++ xs) (append-nil (cuts i))))
