-- Seeds that are put in with copies of their paths, one by one.
use Rattle.std.proofs.Common.{◌≡◌, ◌≢◌, ℕ, ◌==◌, ◌≤◌, Bool, true, false, ◌||◌, cond, Option, Some, None, option_map, is_some, List, [], ◌∷◌, ◌++◌, length, refl, sym, ap, subst, ◌∙◌}
use Rattle.std.specs.FinMap as map
use Rattle.std.specs.Cmp.{nat_cmp_total}
use Rattle.std.specs.Ordering.{eq_by_cmp, nat_cmp}
use Rattle.std.proofs.lemmas.Bool.{eqb-true, eq-eqb}
use Rattle.net_names.specs.Numbers.{occurs}
use Rattle.stability_laws.specs.declared.entry.Seed.{Seed}
use Rattle.stability_laws.proofs.Leaking.{occurs_more}
use Rattle.leak_round.specs.SeedPaths.{HaveAtMost}

-- one short path more
pub put_short : (m : map.FinMap nat_cmp Seed) (a : ℕ) (x : Seed) (most : ℕ) → HaveAtMost most m → length x.path ≤ most → HaveAtMost most (map.insert m a x)
put_short m a x most short here q seed is = by (eq_by_cmp nat_cmp q a) (sym (map.get-insert nat_cmp_total m a x q) ∙ is)
  where
    by : (b : Bool) → cond b (Some x) (map.get m q) ≡ Some seed → length seed.path ≤ most
    by true e = let same : x ≡ seed = cc in subst (λ (s : Seed). length s.path ≤ most) same here
    by false e = short q seed e

-- the seeds of one AS more
pub one_more : (out before after : ℕ → Option Seed) (front more : List ℕ) (x : ℕ) → more ≡ front ++ x ∷ [] → after x ≡ out x → ((a : ℕ) → a ≢ x → after a ≡ before a)
    → ((a : ℕ) → before a ≡ cond (occurs a front) (out a) None) → (a : ℕ) → after a ≡ cond (occurs a more) (out a) None
one_more out before after front more x is this others so_far a = by (x == a) refl ∙ sym (ap (λ b. cond b (out a) None) (occurs_more front more x is a))
  where
    always : (b : Bool) → out a ≡ cond (b || true) (out a) None
    always true = refl
    always false = refl

    still : (b : Bool) → cond b (out a) None ≡ cond (b || false) (out a) None
    still true = refl
    still false = refl

    by : (b : Bool) → (x == a) ≡ b → after a ≡ cond (occurs a front || b) (out a) None
    by true e = (let same : x ≡ a = eqb-true x a e in subst (λ n. after n ≡ out n) same this) ∙ always (occurs a front)
    by false e = others a (λ same. (let t : (x == a) ≡ true = eq-eqb x a (sym same) in cc)) ∙ so_far a ∙ still (occurs a front)

-- who has no seed puts none in
pub all_out : {A : Type 0} (f : A → Seed) (o : Option A) → cond (is_some o) (option_map f o) None ≡ option_map f o
all_out f None = refl
all_out f (Some x) = refl
