-- A finite map whose keys another one has is no larger.
use Rattle.std.proofs.Common.{◌≡◌, ◌≢◌, ◌-◌, ◌≤◌, Bool, true, false, ◌||◌, cond, is_some, None, List, [], ◌∷◌, length, refl, sym, ap, ◌∙◌, arith, true≢false}
use Rattle.std.specs.Cmp.{IsTotalOrder}
use Rattle.std.specs.List.{AllByRecursion}
use Rattle.std.proofs.lemmas.Map.Lookups.{CmpEqualImpliesEq}
use Rattle.std.specs.FinMap as fin
use Rattle.std.specs.List.{IsDistinct, list_any}
use Rattle.std.specs.Ordering.{eq_by_cmp}
use Rattle.std.specs.declared.cmp.Ordering.{Ordering}
use Rattle.std.proofs.lemmas.Bool.{or_left, or_right}
use Rattle.std.proofs.lemmas.Map.Keys.{IsDistinct-from_sorted, IsDistinct-head, IsDistinct-tail}
use Rattle.std.proofs.lemmas.List.{length-map}
use Rattle.stability_laws.proofs.KeyLists.{eq_is, eq_same}
use Rattle.net_names.proofs.Marks.{strict_keys}

module _ {K : Type 0} {R : K → K → Ordering} (total : IsTotalOrder R) (exact : CmpEqualImpliesEq R) where
  absent : (k : K) (ks : List K) → AllByRecursion (λ y. eq_by_cmp R k y ≡ false) ks → list_any (eq_by_cmp R k) ks ≡ false
  absent k [] h = refl
  absent k (x ∷ ks) h = ap (λ b. b || list_any (eq_by_cmp R k) ks) h.0 ∙ absent k ks h.1

  -- distinct keys of a map are at most as many as it has
  pub listed_len : {X : Type 0} (ks : List K) → IsDistinct (eq_by_cmp R) ks → (m : fin.FinMap R X) → ((k : K) → list_any (eq_by_cmp R k) ks ≡ true → fin.contains_key m k ≡ true) → length ks ≤ fin.len m
  listed_len [] d m h = omega arith
  listed_len (k ∷ ks) d m h =
      let there : fin.contains_key m k ≡ true = h k (or_left (eq_by_cmp R k k) (list_any (eq_by_cmp R k) ks) (eq_same total exact k k refl)) in
      let rest : length ks ≤ fin.len (fin.remove m k) = listed_len ks (IsDistinct-tail (eq_by_cmp R) k ks d) (fin.remove m k) (λ x among.
      ap is_some (fin.get-remove total m k x) ∙ kept x among (eq_by_cmp R x k) refl (h x (or_right (eq_by_cmp R x k) _ among))) in
      let less : fin.len (fin.remove m k) ≡ fin.len m - 1 = fin.len-remove total m k ∙ ap (λ t. cond t (fin.len m - 1) (fin.len m)) there in
      let some : fin.len m ≢ 0 = λ e. true≢false (sym there ∙ ap (λ t. fin.contains_key t k) (fin.empty_of_len m e) ∙ ap is_some (fin.get-empty R k)) in
      omega (arith, rest, less, some)
    where
      kept : (x : K) → list_any (eq_by_cmp R x) ks ≡ true → (t : Bool) → eq_by_cmp R x k ≡ t → fin.contains_key m x ≡ true → is_some (cond t None (fin.get m x)) ≡ true
      kept x among true e g = absurd (true≢false (sym among ∙ ap (λ y. list_any (eq_by_cmp R y) ks) (eq_is total exact x k e) ∙ absent k ks (IsDistinct-head (eq_by_cmp R) k ks d)))
      kept x among false e g = g

  pub len_le : {X Y : Type 0} (m : fin.FinMap R X) (n : fin.FinMap R Y) → ((k : K) → fin.contains_key m k ≡ true → fin.contains_key n k ≡ true) → fin.len m ≤ fin.len n
  len_le m n h =
      let few : length (fin.keys m) ≤ fin.len n = listed_len (fin.keys m) (IsDistinct-from_sorted R (fin.keys m) (strict_keys m)) n (λ k among. h k (fin.contains_key-keys m k ∙ among)) in
      let many : fin.len m ≡ length (fin.keys m) = fin.len-entries m ∙ sym (length-map (fin.entries m) (λ e. e.0)) in
      omega (arith, few, many)

  pub keys_le : {X Y : Type 0} (m : fin.FinMap R X) (n : fin.FinMap R Y) → ((k : K) → fin.contains_key m k ≡ true → fin.contains_key n k ≡ true) → length (fin.keys m) ≤ length (fin.keys n)
  keys_le m n h =
      let few : length (fin.keys m) ≤ fin.len n = listed_len (fin.keys m) (IsDistinct-from_sorted R (fin.keys m) (strict_keys m)) n (λ k among. h k (fin.contains_key-keys m k ∙ among)) in
      let many : fin.len n ≡ length (fin.keys n) = fin.len-entries n ∙ sym (length-map (fin.entries n) (λ e. e.0)) in
      omega (arith, few, many)
