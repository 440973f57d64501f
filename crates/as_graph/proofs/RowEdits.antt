-- What edits of a row change of what its look-ups find.
use Rattle.std.proofs.Common.{List, ◌≡◌, ◌≢◌, ℕ, zero, suc, ◌+◌, ◌-◌, ◌<◌, ◌≤◌, eqb, [], ◌∷◌, length, set, if◌then◌else◌, Some, None, refl, ap, subst, arith, inl, inr}
use Rattle.std.specs.List.{insert, remove}
use Rattle.std.proofs.lemmas.Bool.{cases_lt}
use Rattle.std.proofs.lemmas.Bool.Decides.{nat_tests}
use Rattle.std.proofs.lemmas.Grind.{common_steps}
use Rattle.std.proofs.lemmas.List.Edits.{length-insert, get_or-insert_below, get_or-insert_at, get_or-insert_above, length-remove, get_or-remove_below, get_or-remove_above}
use Rattle.net_names.specs.declared.routes.Rel.{Rel}
use Rattle.as_graph.specs.declared.neighbour.Neighbour.{Neighbour}
use Rattle.as_graph.specs.Rows.{rel_in, asn_at, blank, IsRising, IsAt, IsGapFor, SetsRel}
use Rattle.as_graph.proofs.RowLemmas.{rel_in-absent}

-- no neighbour before place i has the key
abbrev pub NoKeyBefore : List Neighbour → ℕ → ℕ → Type 0
NoKeyBefore l k i = (j : ℕ) → j < i → asn_at l j ≢ k

-- `get` on new answers v at the key k, and as on old at any other key
abbrev pub GetsAfterSet : List Neighbour → List Neighbour → ℕ → Rel → Type 0
GetsAfterSet old new k v = (q : ℕ) → rel_in new q ≡ (if eqb k q then Some v else rel_in old q)

-- no neighbour of the tail has the key either
no_key_before_tail : (x : Neighbour) (l : List Neighbour) (k i : ℕ) → NoKeyBefore (x ∷ l) k (suc i) → NoKeyBefore l k i
no_key_before_tail x l k i no_key j lt = no_key (suc j) (omega arith)

-- in the tail, a neighbour is one place lower
is_at_tail : (x : Neighbour) (l : List Neighbour) (k i : ℕ) → IsAt (x ∷ l) k (suc i) → IsAt l k i
is_at_tail x l k i is_at = record { in_range = omega (arith, is_at.in_range); has_asn = is_at.has_asn }

-- writing over the first neighbour that has the key sets its value
pub get_set : (l : List Neighbour) (k : ℕ) (v : Rel) (i : ℕ) → IsAt l k i → NoKeyBefore l k i → GetsAfterSet l (set l i (record { asn = k; rel = v })) k v
get_set [] k v i is_at no_key q = absurd (omega (arith, is_at.in_range))
get_set (x ∷ l) k v zero is_at no_key q = grind (arith, nat_tests, is_at.has_asn)
get_set (x ∷ l) k v (suc i) is_at no_key q = grind (arith, nat_tests, no_key 0 (omega arith), get_set l k v i (is_at_tail x l k i is_at) (no_key_before_tail x l k i no_key) q)

-- so does a new neighbour before any neighbour that has the key
pub get-insert : (l : List Neighbour) (k : ℕ) (v : Rel) (i : ℕ) → NoKeyBefore l k i → GetsAfterSet l (insert l i (record { asn = k; rel = v })) k v
get-insert l k v zero no_key q = refl
get-insert [] k v (suc i) no_key q = refl
get-insert (x ∷ l) k v (suc i) no_key q = grind (arith, nat_tests, no_key 0 (omega arith), get-insert l k v i (no_key_before_tail x l k i no_key) q)

-- no later neighbour has the number
abbrev pub NoKeyAfter : List Neighbour → ℕ → ℕ → Type 0
NoKeyAfter l k i = (j : ℕ) → i < j → j < length l → asn_at l j ≢ k

-- without the one that has the number, it is not found, and every other number is found as before
pub get_removed : (l : List Neighbour) (k at : ℕ) → IsAt l k at → NoKeyBefore l k at → NoKeyAfter l k at →
    (q : ℕ) → rel_in (remove l at) q ≡ (if eqb k q then None else rel_in l q)
get_removed [] k at is_at before after q = absurd (omega (arith, is_at.in_range))
get_removed (x ∷ l) k zero is_at before after q =
    grind (arith, nat_tests, is_at.has_asn, rel_in-absent l k (λ j lt. after (suc j) (omega arith) (omega arith)))
get_removed (x ∷ l) k (suc at) is_at before after q =
    grind (arith, nat_tests, before 0 (omega arith), get_removed l k at (is_at_tail x l k at is_at) (no_key_before_tail x l k at before) (λ j lt in_l. after (suc j) (omega arith) (omega arith)) q)

-- one equation for every number gives the contract's two facts
sets_only_from_gets : (old new : List Neighbour) (k : ℕ) (v : Rel) → GetsAfterSet old new k v → SetsRel old new k (Some v)
sets_only_from_gets old new k v gets = record { this = grind (arith, nat_tests, gets k); others = λ q differs. grind (arith, nat_tests, gets q) }

module _ (l : List Neighbour) (sorted : IsRising l) (k at : ℕ) (is_at : IsAt l k at) where
  -- the numbers before the place are smaller, so none is k
  no_key_before_at : NoKeyBefore l k at
  no_key_before_at j lt same = omega (arith, sorted j at lt is_at.in_range, is_at.has_asn)

  -- writing over its neighbour changes that key alone
  pub sets_only_set : (v : Rel) → SetsRel l (set l at (record { asn = k; rel = v })) k (Some v)
  sets_only_set v = sets_only_from_gets _ _ k v (get_set l k v at is_at no_key_before_at)

  -- and keeps the order, since every number stays
  pub sorted_set : (v : Rel) → IsRising (set l at (record { asn = k; rel = v }))
  sorted_set v i j lt in_range = grind (arith, common_steps, sorted i j, sorted i at, sorted at j, is_at.in_range, is_at.has_asn)

module _ (l : List Neighbour) (k at : ℕ) (gap : IsGapFor l k at) where
  -- a new neighbour in the gap changes that key alone
  pub sets_only_insert : (v : Rel) → SetsRel l (insert l at (record { asn = k; rel = v })) k (Some v)
  sets_only_insert v = sets_only_from_gets _ _ k v (get-insert l k v at (λ j lt same. omega (arith, gap.smaller_before j lt)))

  -- it keeps the order: each new key is an old one below the gap, k at it, or an old one moved up by one
  pub sorted_insert : (v : Rel) → IsRising l → IsRising (insert l at (record { asn = k; rel = v }))
  sorted_insert v sorted i j lt in_range =
      let new = insert l at (record { asn = k; rel = v }) in
      let key = λ (x : Neighbour). x.asn in
      let length_new = length-insert l at (record { asn = k; rel = v }) gap.in_range in
      let key_below : (i : ℕ) → i < at → asn_at new i ≡ asn_at l i = λ i below. ap key (get_or-insert_below l at (record { asn = k; rel = v }) blank i below gap.in_range) in
      let key_here : (i : ℕ) → i ≡ at → asn_at new i ≡ k = λ i here. rw here (ap key (get_or-insert_at l at (record { asn = k; rel = v }) blank gap.in_range)) in
      let key_above : (i : ℕ) → at < i → asn_at new i ≡ asn_at l (i - 1) = λ i above. subst (λ q. asn_at new q ≡ asn_at l (i - 1)) {x = i - 1 + 1} (omega arith) (ap key (get_or-insert_above l at (record { asn = k; rel = v }) blank (i - 1) (omega arith) gap.in_range)) in
      grind (arith, key_below i, key_here i, key_above i, key_below j, key_here j, key_above j, sorted i j, sorted i (j - 1), sorted (i - 1) (j - 1), gap.smaller_before i, gap.greater_after (j - 1))

module _ (l : List Neighbour) (sorted : IsRising l) (k at : ℕ) (is_at : IsAt l k at) where
  -- without the one at the place, its number is not found, and nothing else has changed
  pub sets_only_remove : SetsRel l (remove l at) k None
  sets_only_remove =
      let gets = get_removed l k at is_at (no_key_before_at l sorted k at is_at) (λ j lt in_l same. omega (arith, sorted at j lt in_l, is_at.has_asn)) in
      record { this = grind (arith, nat_tests, gets k); others = λ q differs. grind (arith, nat_tests, gets q) }

  -- and the order stays
  pub sorted_remove : IsRising (remove l at)
  sorted_remove i j lt in_range =
      let asn = λ (n : Neighbour). n.asn in
      let len : length (remove l at) + 1 ≡ length l = length-remove l at is_at.in_range in
      let below : (i : ℕ) → i < at → asn_at (remove l at) i ≡ asn_at l i = λ i b. ap asn (get_or-remove_below l at blank i b is_at.in_range) in
      let above : (i : ℕ) → at ≤ i → asn_at (remove l at) i ≡ asn_at l (i + 1) = λ i b. ap asn (get_or-remove_above l at blank i b is_at.in_range) in
      elim (cases_lt j at) [
        | inl jb ↦ omega (arith, below i (omega (arith, jb, lt)), below j jb, sorted i j lt (omega (arith, in_range, len)))
        | inr ja ↦ elim (cases_lt i at) [
          | inl ib ↦ omega (arith, below i ib, above j ja, sorted i (j + 1) (omega (arith, lt)) (omega (arith, in_range, len)))
          | inr ia ↦ omega (arith, above i ia, above j ja, sorted (i + 1) (j + 1) (omega (arith, lt)) (omega (arith, in_range, len)))
        ]
      ]
