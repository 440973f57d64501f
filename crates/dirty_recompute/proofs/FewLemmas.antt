-- What a set of pairs does, and a set of one.
use Rattle.std.proofs.Common.{◌≡◌, inl, inr, ℕ, ◌≤◌, Bool, true, false, cond, refl, sym, ◌∙◌, ap, subst, arith}
use Rattle.std.proofs.Common.{[], List, Some}
use Rattle.std.specs.List.{list_any}
use Rattle.std.specs.Prelude.{◌||◌, None}
use Rattle.std.proofs.lemmas.Bool.{cases_order}
use Rattle.std.proofs.lemmas.Cmp.{nat_cmp_total, on_total, then_total, tied_itself}
use Rattle.std.proofs.lemmas.Map.Lookups.{exact_pairs, exact_unsigned}
use Rattle.std.specs.declared.cmp.Ordering.{Ordering}
use Rattle.std.specs.Ordering.{nat_cmp, is_eq, is_gt, is_lt, ordering_then}
use Rattle.std.specs.Cmp.{IsTotalOrder}
use Rattle.std.specs.BTreeSet as keys
use Rattle.std.specs.BTreeMap.{is_at}
use Rattle.net_names.proofs.Shared.{is_equal, or_false}
use Rattle.dirty_recompute.specs.declared.few.Few.{Few}
use Rattle.dirty_recompute.specs.Spots.{key_cmp}
use Rattle.dirty_recompute.specs.Fews.{is_one, few_has, AreKeys, HasTurned, IsNextKey, IsNextOf}
use Rattle.dirty_recompute.specs.declared.way.Way.{Way}
use Rattle.dirty_recompute.specs.declared.way.Way.TheVariants.{Up, Down}
use Rattle.dirty_recompute.specs.Ways.{IsNoLater}

pub keys_total : IsTotalOrder key_cmp
keys_total = then_total (on_total (λ (p : ℕ × ℕ). p.0) nat_cmp_total) (on_total (λ (p : ℕ × ℕ). p.1) nat_cmp_total)

pub key_is : (k q : ℕ × ℕ) → is_at (key_cmp k) q ≡ true → k ≡ q
key_is k q e = exact_pairs nat_cmp nat_cmp exact_unsigned exact_unsigned k q (is_equal _ e)

pub key_at : (k : ℕ × ℕ) → is_at (key_cmp k) k ≡ true
key_at k = ap is_eq (tied_itself keys_total k)

first_le : (x y : ℕ) (o : Ordering) → is_gt (ordering_then (nat_cmp x y) o) ≡ false → x ≤ y
first_le x y o e = elim (cases_order x y) [ inl is ↦ omega arith | inr (inl lt) ↦ omega arith | inr (inr gt) ↦ grind (arith) ]

first_ge : (x y : ℕ) (o : Ordering) → is_lt (ordering_then (nat_cmp x y) o) ≡ false → y ≤ x
first_ge x y o e = elim (cases_order x y) [ inl is ↦ omega arith | inr (inl lt) ↦ grind (arith) | inr (inr gt) ↦ omega arith ]

pub no_later_itself : (way : Way) (x : ℕ) → IsNoLater way x x
no_later_itself Up x = omega arith
no_later_itself Down x = omega arith

-- no pair is below the least in rank, and none above the greatest
pub next_least : (many : keys.BTreeSet (ℕ × ℕ)) (k : ℕ × ℕ) → keys.IsLowerBound key_cmp many k → IsNextKey Up (keys.contains key_cmp many) k
next_least many k least q there = first_le k.0 q.0 _ (least q there)

pub next_greatest : (many : keys.BTreeSet (ℕ × ℕ)) (k : ℕ × ℕ) → keys.IsUpperBound key_cmp many k → IsNextKey Down (keys.contains key_cmp many) k
next_greatest many k greatest q there = first_ge k.0 q.0 _ (greatest q there)

module _ (way : Way) (rank : ℕ → ℕ) (before after : ℕ × ℕ → Bool) (k : ℕ × ℕ) (was : AreKeys rank before) (member : before k ≡ true) (up : HasTurned before after k false) where
  is : k ≡ (rank k.1, k.1)
  is = ap (λ x. (x, k.1)) (was k member)

  pub is_next : IsNextKey way before k → IsNextOf way rank before after k.1
  is_next next = record {
    was = subst (λ q. before q ≡ true) is member;
    turned = subst (λ q. HasTurned before after q false) is up;
    next = λ b t. subst (λ x. IsNoLater way x (rank b)) (was k member) (next (rank b, b) t);
  }

-- which pairs a set of one has, and one of many
module _ (rank : ℕ → ℕ) (queue : Few) where
  only_one : (a : ℕ) → queue.one ≡ Some a → queue.many.keys ≡ [] → (q : ℕ × ℕ) → few_has rank queue q ≡ is_at (key_cmp (rank a, a)) q
  only_one a one none q = (λ i. is_one rank (one i) q || list_any (is_at (key_cmp q)) (none i)) ∙ or_false (is_at (key_cmp (rank a, a)) q)

  pub only_many : queue.one ≡ None → (q : ℕ × ℕ) → few_has rank queue q ≡ keys.contains key_cmp queue.many q
  only_many none q = ap (λ o. is_one rank o q || keys.contains key_cmp queue.many q) none

-- a set of no pair
pub few_none : (rank : ℕ → ℕ) (queue : Few) → queue.one ≡ None → queue.many.keys ≡ [] → (k : ℕ × ℕ) → few_has rank queue k ≡ false
few_none rank queue one none k = only_many rank queue one k ∙ ap (list_any (is_at (key_cmp k))) none

-- the one goes
module _ (rank : ℕ → ℕ) (before : Few) (after : ℕ × ℕ → Bool) (a : ℕ) (one : before.one ≡ Some a) (alone : before.many.keys ≡ []) (empty : (k : ℕ × ℕ) → after k ≡ false) where
  abbrev key : ℕ × ℕ
  key = (rank a, a)

  here : few_has rank before key ≡ true
  here = only_one rank before a one alone key ∙ key_at key

  it_is : (q : ℕ × ℕ) → few_has rank before q ≡ true → key ≡ q
  it_is q t = key_is key q (sym (only_one rank before a one alone q) ∙ t)

  turned : HasTurned (few_has rank before) after key false
  turned q = empty q ∙ sym (ap (cond (is_at (key_cmp key) q) false) (only_one rank before a one alone q) ∙ by (is_at (key_cmp key) q))
    where
      by : (b : Bool) → cond b false b ≡ false
      by true = refl
      by false = refl

  pub one_next : (way : Way) → AreKeys rank (few_has rank before) → IsNextOf way rank (few_has rank before) after a
  one_next way was = is_next way rank (few_has rank before) after key was here turned (λ q t. subst (λ (p : ℕ × ℕ). IsNoLater way (rank a) p.0) (it_is q t) (no_later_itself way (rank a)))

-- one of the many goes
module _ (rank : ℕ → ℕ) (before : Few) (after : ℕ × ℕ → Bool) (k : ℕ × ℕ) (was : before.one ≡ None) (member : keys.contains key_cmp before.many k ≡ true) (up : HasTurned (keys.contains key_cmp before.many) after k false) where
  turned_many : HasTurned (few_has rank before) after k false
  turned_many q = up q ∙ sym (ap (cond (is_at (key_cmp k) q) false) (only_many rank before was q))

  pub many_next : (way : Way) → IsNextKey way (keys.contains key_cmp before.many) k → AreKeys rank (few_has rank before) → IsNextOf way rank (few_has rank before) after k.1
  many_next way next ranks = is_next way rank (few_has rank before) after k ranks (only_many rank before was k ∙ member) turned_many (λ q t. next q (sym (only_many rank before was q) ∙ t))

-- where nothing is in a set
pub nothing_in : (ks : List (ℕ × ℕ)) → ks ≡ [] → (k : ℕ × ℕ) → list_any (is_at (key_cmp k)) ks ≡ false
nothing_in ks is k = ap (list_any (is_at (key_cmp k))) is
