-- How many numbers the announced paths have.
use Rattle.std.proofs.Common.{◌≡◌, ◌≢◌, ◌⊎◌, inl, inr, ℕ, zero, suc, ◌+◌, ◌*◌, ◌<◌, ◌≤◌, Bool, true, false, cond, T, Option, Some, List, [], ◌∷◌, length, get_or, refl, sym, ap, subst, ◌∙◌, arith}
use Rattle.std.specs.Prelude.{IsTrue, slice_get}
use Rattle.std.specs.List.{sum_by}
use Rattle.std.specs.Option.{option_map_or}
use Rattle.std.specs.Ordering.{nat_cmp, eq_by_cmp, is_eq, is_lt}
use Rattle.std.specs.declared.cmp.Ordering.TheVariants.{Less}
use Rattle.std.specs.FinMap as fin
use Rattle.std.specs.FinMap.Entries.{below_all}
use Rattle.std.proofs.lemmas.Bool.{cases_eq}
use Rattle.std.proofs.lemmas.Cmp.{nat_cmp_total}
use Rattle.std.proofs.lemmas.List.Sums.{sum_by-cons, sum_by-le}
use Rattle.std.proofs.lemmas.Option.{slice_get-get_or}
use Rattle.net_names.specs.Prefixes.{PrefixValue, prefix_cmp}
use Rattle.stability_laws.specs.Plans.{Plan, IsAnnouncer, announcement_cmp, announced_path, has_prefix, prefixes_of, announcers_of}
use Rattle.stability_laws.proofs.KeyLists.{is_less, left, right, apart_later, eq_is, eq_same, keys_listed}
use Rattle.stability_laws.proofs.PlanListings.{announcers_listed}
use Rattle.net_names.specs.Orders.{exact_prefix, exact_announcement, prefix_total, announcement_total}
use Rattle.leak_round.specs.Limits.{IsWithinLimits, numbers_of, announced_length, announced_count}
use Rattle.leak_round.specs.Entries.{StandsIn, AreApart}
use Rattle.leak_round.proofs.Rounding.{same_or_not}
use Rattle.leak_round.proofs.Sums.{sum_by-most}

abbrev Announcements : Type 0
Announcements = List ((PrefixValue × ℕ) × List ℕ)

-- a sum of two terms
sum_by-both : {X : Type 0} (f g h : X → ℕ) → ((x : X) → f x ≤ g x + h x) → (xs : List X) → sum_by f xs ≤ sum_by g xs + sum_by h xs
sum_by-both f g h each [] = omega arith
sum_by-both f g h each (x ∷ xs) = omega (arith, each x, sum_by-both f g h each xs, sum_by-cons f x xs, sum_by-cons g x xs, sum_by-cons h x xs)

sum_by-none : {X : Type 0} (f : X → ℕ) (xs : List X) → ((x : X) → StandsIn x xs → f x ≡ 0) → sum_by f xs ≡ 0
sum_by-none f [] none = refl
sum_by-none f (x ∷ xs) none = omega (arith, sum_by-cons f x xs, none x (inl refl), sum_by-none f xs (λ y s. none y (inr s)))

-- a sum of which one term alone is not 0
sum_by-one : {X : Type 0} (f : X → ℕ) (c : ℕ) (it : X) → ((x : X) → (x ≡ it) ⊎ (x ≢ it)) → ((x : X) → f x ≤ c) → ((x : X) → x ≢ it → f x ≡ 0) → (xs : List X) → AreApart xs → sum_by f xs ≤ c
sum_by-one f c it test few none [] apart = omega arith
sum_by-one f c it test few none (x ∷ xs) apart = elim (test x) [
  | inl e ↦ omega (arith, sum_by-cons f x xs, few x, sum_by-none f xs (λ y s. none y (λ same. apart.0 (subst (λ z. StandsIn z xs) (same ∙ sym e) s))))
  | inr ne ↦ omega (arith, sum_by-cons f x xs, none x ne, sum_by-one f c it test few none xs apart.1)
]

stands_at : {X : Type 0} (xs : List X) (x : X) → StandsIn x xs → (i : ℕ) × (slice_get xs i ≡ Some x)
stands_at [] x s = absurd s
stands_at (y ∷ xs) x (inl e) = (0, ap (λ z. Some z) (sym e))
stands_at (y ∷ xs) x (inr s) = let (i, is) = stands_at xs x s in (suc i, is)

apart_places : {X : Type 0} (xs : List X) → ((i j : ℕ) (x y : X) → i < j → slice_get xs i ≡ Some x → slice_get xs j ≡ Some y → x ≢ y) → AreApart xs
apart_places [] h = tt
apart_places (x ∷ xs) h = (
  λ s. (let (i, is) = stands_at xs x s in h 0 (suc i) x x (omega arith) refl is refl),
  apart_places xs (λ i j y z less at at'. h (suc i) (suc j) y z (omega arith) at at'),
)

-- what a path counts, if there is one
module _ (weight : List ℕ → ℕ) where
  weight_of : Option (List ℕ) → ℕ
  weight_of o = option_map_or weight o 0

  found : Announcements → PrefixValue → ℕ → ℕ
  found es p a = weight_of (fin.find announcement_cmp (p, a) es)

  if_same : PrefixValue × ℕ → List ℕ → PrefixValue → ℕ → ℕ
  if_same key path p a = cond (eq_by_cmp announcement_cmp (p, a) key) (weight path) 0

  found_more : (e : (PrefixValue × ℕ) × List ℕ) (es : Announcements) (p : PrefixValue) (a : ℕ) → found (e ∷ es) p a ≤ if_same e.0 e.1 p a + found es p a
  unfolding found if_same weight_of
  found_more e es p a = by (eq_by_cmp announcement_cmp (p, a) e.0)
    where
      by : (b : Bool) → weight_of (cond b (Some e.1) (fin.find announcement_cmp (p, a) es)) ≤ cond b (weight e.1) 0 + weight_of (fin.find announcement_cmp (p, a) es)
      by true = omega arith
      by false = omega arith

  module _ (prefixes : List PrefixValue) (ases : List ℕ) (prefixes_apart : AreApart prefixes) (ases_apart : AreApart ases) where
    all : (PrefixValue → ℕ → ℕ) → ℕ
    all f = sum_by (λ p. sum_by (f p) ases) prefixes

    -- one announcement counts once
    all-one : (key : PrefixValue × ℕ) (path : List ℕ) → all (if_same key path) ≤ weight path
    unfolding all if_same
    all-one key path = sum_by-one (λ p. sum_by (if_same key path p) ases) (weight path) key.0 (λ p. same_or_not p key.0) few none prefixes prefixes_apart
      where
        other : (p : PrefixValue) (a : ℕ) → ((p, a) ≡ key → ⊥) → if_same key path p a ≡ 0
        other p a ne = by (eq_by_cmp announcement_cmp (p, a) key) refl
          where
            by : (b : Bool) → eq_by_cmp announcement_cmp (p, a) key ≡ b → cond b (weight path) 0 ≡ 0
            by true e = absurd (ne (eq_is announcement_total exact_announcement (p, a) key e))
            by false e = refl

        most : (p : PrefixValue) (a : ℕ) → if_same key path p a ≤ weight path
        most p a = by (eq_by_cmp announcement_cmp (p, a) key)
          where
            by : (b : Bool) → cond b (weight path) 0 ≤ weight path
            by true = omega arith
            by false = omega arith

        few : (p : PrefixValue) → sum_by (if_same key path p) ases ≤ weight path
        few p = sum_by-one (if_same key path p) (weight path) key.1 (λ a. cases_eq a key.1) (most p) (λ a ne. other p a (λ e. ne (ap (λ (x : PrefixValue × ℕ). x.1) e))) ases ases_apart

        none : (p : PrefixValue) → p ≢ key.0 → sum_by (if_same key path p) ases ≡ 0
        none p ne = sum_by-none (if_same key path p) ases (λ a s. other p a (λ e. ne (ap (λ (x : PrefixValue × ℕ). x.0) e)))

    -- all announcements count once each
    all-found : (es : Announcements) → all (found es) ≤ sum_by (λ e. weight e.1) es
    unfolding all found weight_of
    all-found [] = omega (arith, sum_by-none (λ p. sum_by (found [] p) ases) prefixes (λ p s. sum_by-none (found [] p) ases (λ a t. refl)))
    all-found (e ∷ es) =
        let both = sum_by-both (λ p. sum_by (found (e ∷ es) p) ases) (λ p. sum_by (if_same e.0 e.1 p) ases) (λ p. sum_by (found es p) ases)
        (λ p. sum_by-both (found (e ∷ es) p) (if_same e.0 e.1 p) (found es p) (found_more e es p) ases) prefixes in
        omega (arith, both, all-one e.0 e.1, all-found es, sum_by-cons (λ (x : (PrefixValue × ℕ) × List ℕ). weight x.1) e es)

  -- the announced paths, prefix by prefix and AS by AS, count no more than all together
  all-counted : (plan : Plan) → sum_by (λ prefix. sum_by (λ a. option_map_or weight (announced_path plan prefix a) 0) (announcers_of plan)) (prefixes_of plan) ≤ sum_by (λ e. weight e.1) (fin.entries plan.announced)
  unfolding all found weight_of
  all-counted plan =
      let es = fin.entries plan.announced in
      let prefixes_apart = apart_places (prefixes_of plan) (λ i j x y. apart_later prefix_cmp prefix_total (λ p. IsTrue (has_prefix plan p)) (prefixes_of plan) (keys_listed prefix_total exact_prefix plan.prefixes) i j x y) in
      let ases_apart = apart_places (announcers_of plan) (λ i j x y. apart_later nat_cmp nat_cmp_total (IsAnnouncer plan) (announcers_of plan) (announcers_listed plan) i j x y) in
      let whole = all-found (prefixes_of plan) (announcers_of plan) prefixes_apart ases_apart es in
      let same = λ (p : PrefixValue) (a : ℕ). ap weight_of (sym (fin.get-entries plan.announced (p, a))) in
      let F : (PrefixValue → ℕ → ℕ) → Type 0 = λ f. sum_by (λ p. sum_by (f p) (announcers_of plan)) (prefixes_of plan) ≤ sum_by (λ (e : (PrefixValue × ℕ) × List ℕ). weight e.1) es in
      subst F (λ i p a. same p a i) whole

-- the announced paths, prefix by prefix and AS by AS, have no more numbers than all together
pub numbers_counted : (plan : Plan) → sum_by (λ prefix. sum_by (announced_length plan prefix) (announcers_of plan)) (prefixes_of plan) ≤ numbers_of plan
numbers_counted plan = all-counted (λ (path : List ℕ). length path) plan

-- there are no more of them than announcements of the plan
pub announcements_counted : (plan : Plan) → sum_by (λ prefix. sum_by (announced_count plan prefix) (announcers_of plan)) (prefixes_of plan) ≤ fin.len plan.announced
announcements_counted plan =
    let es = fin.entries plan.announced in
    omega (arith, all-counted (λ (path : List ℕ). 1) plan, sum_by-most (λ (e : (PrefixValue × ℕ) × List ℕ). 1) 1 es (λ i e at. omega arith), fin.len-entries plan.announced)

below_later : (k : PrefixValue × ℕ) (es : Announcements) (i : ℕ) (e : (PrefixValue × ℕ) × List ℕ) → T (below_all announcement_cmp k es) → slice_get es i ≡ Some e → announcement_cmp k e.0 ≡ Less
below_later k [] i e h at = cc
below_later k (x ∷ es) zero e h at = let same : x ≡ e = cc in is_less (announcement_cmp k e.0) (subst (λ (y : (PrefixValue × ℕ) × List ℕ). T (is_lt (announcement_cmp k y.0))) same (left _ _ h))
below_later k (x ∷ es) (suc i) e h at = below_later k es i e (right _ _ h) at

-- each announcement is found by its prefix and AS
entry_found : (es : Announcements) → T (fin.is_sorted announcement_cmp es) → (i : ℕ) (e : (PrefixValue × ℕ) × List ℕ) → slice_get es i ≡ Some e → fin.find announcement_cmp e.0 es ≡ Some e.1
entry_found [] h i e at = cc
entry_found (x ∷ es) h zero e at =
    let same : x ≡ e = cc in
    let tied : eq_by_cmp announcement_cmp x.0 x.0 ≡ true = eq_same announcement_total exact_announcement x.0 x.0 refl in
    subst (λ (y : (PrefixValue × ℕ) × List ℕ). fin.find announcement_cmp y.0 (x ∷ es) ≡ Some y.1) same (ap (λ b. cond b (Some x.1) (fin.find announcement_cmp x.0 es)) tied)
entry_found (x ∷ es) h (suc i) e at = by (eq_by_cmp announcement_cmp e.0 x.0) refl (entry_found es (right _ _ h) i e at)
  where
    by : (b : Bool) → eq_by_cmp announcement_cmp e.0 x.0 ≡ b → fin.find announcement_cmp e.0 es ≡ Some e.1 → cond b (Some x.1) (fin.find announcement_cmp e.0 es) ≡ Some e.1
    by false t ih = ih
    by true t ih =
        let same : e.0 ≡ x.0 = eq_is announcement_total exact_announcement e.0 x.0 t in
        let less : announcement_cmp x.0 x.0 ≡ Less = ap (announcement_cmp x.0) (sym same) ∙ below_later x.0 es i e (left _ _ h) at in
        let tied : eq_by_cmp announcement_cmp x.0 x.0 ≡ true = eq_same announcement_total exact_announcement x.0 x.0 refl in
        let not_tied : eq_by_cmp announcement_cmp x.0 x.0 ≡ false = ap is_eq less in
        cc

-- a plan within the limits has at most 4096 numbers
pub few_numbers : (plan : Plan) → IsWithinLimits plan → numbers_of plan ≤ 4096
few_numbers plan h =
    let es = fin.entries plan.announced in
    let each = λ (k : ℕ) (d : (PrefixValue × ℕ) × List ℕ) (less : k < length es).
    h.paths (get_or es k d).0.0 (get_or es k d).0.1 (get_or es k d).1 (fin.get-entries plan.announced (get_or es k d).0 ∙ entry_found es (fin.entries_sorted plan.announced) k (get_or es k d) (slice_get-get_or es k d less)) in
    let most : sum_by (λ (e : (PrefixValue × ℕ) × List ℕ). length e.1) es ≤ length es * 64 = sum_by-le (λ (e : (PrefixValue × ℕ) × List ℕ). length e.1) 64 es each in
    omega (arith, most, fin.len-entries plan.announced, h.announcements)
