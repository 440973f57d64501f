-- Kinds of ASes in books.
use Rattle.std.proofs.Common.{◌≡◌, inl, inr, ℕ, zero, suc, ◌+◌, ◌<◌, ◌==◌, ◌||◌, Bool, true, false, IsTrue, cond, unwrap_or, get_or, Option, Some, List, [], ◌∷◌, ◌++◌, length, map, take, refl, sym, ap, subst, ◌∙◌, arith, eqb-true}
use Rattle.std.specs.Prelude.{if◌then◌else◌}
use Rattle.std.specs.FinMap as fin
use Rattle.std.specs.List.{All}
use Rattle.std.specs.FinSet as set
use Rattle.std.specs.Ordering.{eq_by_cmp, nat_cmp}
use Rattle.std.proofs.lemmas.Bool.{cases_eq, eq-eqb, or_left, or_parts, or_right}
use Rattle.std.proofs.lemmas.Cmp.{nat_cmp_total}
use Rattle.std.proofs.lemmas.List.{get_or_default, take_more}
use Rattle.std.proofs.lemmas.List.Sums.{fold-append}
use Rattle.net_names.specs.Numbers.{occurs}
use Rattle.policy_kinds.specs.declared.kind.Kind.{Kind}
use Rattle.policy_kinds.specs.declared.kind.Kind.TheVariants.{Plain}
use Rattle.stability_laws.specs.Book.{PolicyBook, policy_at, with_policy}
use Rattle.stability_laws.proofs.Leaking.{occurs_more}
use Rattle.sweep.specs.Trials.{changed, with_kinds}
use Rattle.sweep.proofs.KindChanges.{changed_to}
use Rattle.sweep.proofs.Lists.{firsts}
use Rattle.sim_core.proofs.PolicyEdits.{is_key}
use Rattle.trial_world.specs.Tables.{HadKinds}

-- ---- a kind that is given
pub given : (b new : PolicyBook Kind) (x : ℕ) (k : Kind) → new ≡ with_policy b x k → (a : ℕ) → policy_at new a ≡ (if x == a then k else policy_at b a)
given b new x k is a =
    ap (λ (t : PolicyBook Kind). policy_at t a) is
    ∙ ap (λ (o : Option Kind). unwrap_or o b.rest) (fin.get-insert nat_cmp_total b.named x k a)
    ∙ by (eq_by_cmp nat_cmp a x) (fin.get b.named a)
    ∙ ap (λ (t : Bool). if t then k else policy_at b a) (is_key a x)
  where
    by : (t : Bool) (o : Option Kind) → unwrap_or (cond t (Some k) o) b.rest ≡ cond t k (unwrap_or o b.rest)
    by true o = refl
    by false o = refl

pub policies_same : (b new : PolicyBook Kind) → new.rest ≡ b.rest → new.named ≡ b.named → (a : ℕ) → policy_at new a ≡ policy_at b a
policies_same b new rest named a = λ i. unwrap_or (fin.get (named i) a) (rest i)

-- one change more
pub changed_more : (f : ℕ → Kind) (xs : List (ℕ × Kind)) (i : ℕ) (x : ℕ × Kind) → i < length xs → x ≡ get_or xs i x → (a : ℕ) → (if x.0 == a then x.1 else changed f (take i xs) a) ≡ changed f (take (i + 1) xs) a
changed_more f xs i x less at a =
    sym (ap (λ (g : ℕ → Kind). g a) (fold-append (λ (g : ℕ → Kind) (c : ℕ × Kind) (b : ℕ). if c.0 == b then c.1 else g b) f (take i xs) (x ∷ [])))
    ∙ ap (λ ys. changed f ys a) (sym (take_more xs i x less ∙ ap (λ (y : ℕ × Kind). take i xs ++ y ∷ []) (sym at)))

-- ---- room
pub room_there : (s new : set.FinSet nat_cmp) (x : ℕ) → new ≡ set.insert s x → IsTrue (set.contains new x)
room_there s new x is =
    ap (λ t. set.contains t x) is ∙ set.contains-insert nat_cmp_total s x x ∙ or_left (eq_by_cmp nat_cmp x x) (set.contains s x) (is_key x x ∙ eq-eqb x x refl)

pub room_more : (s new : set.FinSet nat_cmp) (xs : List (ℕ × Kind)) (i : ℕ) (x : ℕ × Kind) → i < length xs → x ≡ get_or xs i x → new ≡ set.insert s x.0
    → ((k : ℕ) (d : ℕ × Kind) → k < i → IsTrue (set.contains s (get_or xs k d).0)) → (k : ℕ) (d : ℕ × Kind) → k < i + 1 → IsTrue (set.contains new (get_or xs k d).0)
room_more s new xs i x less at is before k d low = elim (cases_eq k i) [
  | inl same ↦
      let here : get_or xs k d ≡ x = ap (λ j. get_or xs j d) same ∙ get_or_default xs i d x less ∙ sym at in
      ap (λ (y : ℕ × Kind). set.contains new y.0) here ∙ room_there s new x.0 is
  | inr other ↦
      ap (λ t. set.contains t (get_or xs k d).0) is ∙ set.contains-insert nat_cmp_total s x.0 (get_or xs k d).0
      ∙ or_right (eq_by_cmp nat_cmp (get_or xs k d).0 x.0) _ (before k d (omega (arith, low, other)))
]

-- ---- a copy
pub plain_at : (b : PolicyBook Kind) → b.rest ≡ Plain → b.named ≡ fin.empty → (a : ℕ) → policy_at b a ≡ Plain
plain_at b rest named a = (λ i. unwrap_or (fin.get (named i) a) (rest i)) ∙ ap (λ (o : Option Kind). unwrap_or o Plain) (fin.get-empty nat_cmp a)

module _ (f old new : ℕ → Kind) (xs : List ℕ) (i x : ℕ) (longer : take (i + 1) xs ≡ take i xs ++ x ∷ []) (so_far : (a : ℕ) → old a ≡ (if occurs a (take i xs) then f a else Plain)) where
  more : (a : ℕ) → occurs a (take (i + 1) xs) ≡ (occurs a (take i xs) || (x == a))
  more = occurs_more (take i xs) (take (i + 1) xs) x longer

  pub copied : ((a : ℕ) → new a ≡ (if x == a then f x else old a)) → (a : ℕ) → new a ≡ (if occurs a (take (i + 1) xs) then f a else Plain)
  copied is a = is a ∙ ap (λ (k : Kind). if x == a then f x else k) (so_far a) ∙ by (x == a) refl (occurs a (take i xs)) ∙ ap (λ (t : Bool). if t then f a else Plain) (sym (more a))
    where
      by : (t : Bool) → (x == a) ≡ t → (u : Bool) → (if t then f x else (if u then f a else Plain)) ≡ (if u || t then f a else Plain)
      by true e true = ap f (eqb-true x a e)
      by true e false = ap f (eqb-true x a e)
      by false e true = refl
      by false e false = refl

-- ---- kinds that are given back
changed_away : (f : ℕ → Kind) (cs : List (ℕ × Kind)) (a : ℕ) → occurs a (map (λ c. c.0) cs) ≡ false → changed f cs a ≡ f a
changed_away f [] a away = refl
changed_away f (c ∷ cs) a away =
    let (here, later) = or_parts (c.0 == a) (occurs a (map (λ (x : ℕ × Kind). x.0) cs)) away in
    changed_away (λ b. if c.0 == b then c.1 else f b) cs a later ∙ ap (λ (t : Bool). if t then c.1 else f a) here

pub given_back : (f now : ℕ → Kind) (cs : List (ℕ × Kind)) → ((a : ℕ) → now a ≡ changed f cs a) → (a : ℕ) → changed now (with_kinds f (map (λ c. c.0) cs)) a ≡ f a
given_back f now cs is a = changed_to f (map (λ (c : ℕ × Kind). c.0) cs) now a ∙ by (occurs a (map (λ (c : ℕ × Kind). c.0) cs)) refl
  where
    by : (t : Bool) → occurs a (map (λ (c : ℕ × Kind). c.0) cs) ≡ t → (if t then f a else now a) ≡ f a
    by true e = refl
    by false e = is a ∙ changed_away f cs a e

pub changed_from : (f g : ℕ → Kind) (cs : List (ℕ × Kind)) → ((a : ℕ) → f a ≡ g a) → (a : ℕ) → changed f cs a ≡ changed g cs a
changed_from f g cs same a = ap (λ (h : ℕ → Kind). changed h cs a) (λ i b. same b i)

first_of : (f : ℕ → Kind) (cs : List (ℕ × Kind)) (k : ℕ) (d : ℕ × Kind) → k < length cs → (get_or (with_kinds f (map (λ c. c.0) cs)) k d).0 ≡ (get_or cs k d).0
first_of f [] k d less = absurd (omega (arith, less))
first_of f (c ∷ cs) zero d less = refl
first_of f (c ∷ cs) (suc k) d less = first_of f cs k d (omega (arith, less))

len_of : (f : ℕ → Kind) (cs : List (ℕ × Kind)) → length (with_kinds f (map (λ c. c.0) cs)) ≡ length cs
len_of f [] = refl
len_of f (c ∷ cs) = ap suc (len_of f cs)

-- there is room for them
pub room_back : (s t : set.FinSet nat_cmp) (f : ℕ → Kind) (cs back : List (ℕ × Kind)) → back ≡ with_kinds f (map (λ c. c.0) cs) → t ≡ s → All (λ c. IsTrue (set.contains s c.0)) cs → All (λ c. IsTrue (set.contains t c.0)) back
room_back s t f cs back is same all = subst (λ (xs : List (ℕ × Kind)). All (λ c. IsTrue (set.contains t c.0)) xs) (sym is) (λ k d less.
    let low : k < length cs = omega (arith, less, len_of f cs) in
    (λ i. set.contains (same i) (first_of f cs k d low i)) ∙ all k d low)

-- ---- kinds that were had
each_had : (f : ℕ → Kind) (xs : List ℕ) (k : ℕ) (d : ℕ × Kind) → k < length (with_kinds f xs) → (get_or (with_kinds f xs) k d).1 ≡ f (get_or (with_kinds f xs) k d).0
each_had f [] k d less = absurd (omega (arith, less))
each_had f (x ∷ xs) zero d less = refl
each_had f (x ∷ xs) (suc k) d less = each_had f xs k d (omega (arith, less))

-- the ASes of changes that are made had the kinds of before, and all others have theirs
pub had_kinds : (old mid new : PolicyBook Kind) (cs before : List (ℕ × Kind)) → before ≡ with_kinds (policy_at old) (map (λ (c : ℕ × Kind). c.0) cs) → ((a : ℕ) → policy_at mid a ≡ policy_at old a) → ((a : ℕ) → policy_at new a ≡ changed (policy_at mid) cs a) → HadKinds old new before
had_kinds old mid new cs before is same given = record {
  had = subst (All (λ c. c.1 ≡ policy_at old c.0)) (sym is) (each_had (policy_at old) (map (λ (c : ℕ × Kind). c.0) cs));
  others = λ a away. given a ∙ changed_from (policy_at mid) (policy_at old) cs same a
      ∙ changed_away (policy_at old) cs a (sym (ap (occurs a) (ap (map (λ (c : ℕ × Kind). c.0)) is ∙ firsts (policy_at old) (map (λ (c : ℕ × Kind). c.0) cs))) ∙ away);
}
