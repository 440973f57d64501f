-- In the rounds of a plan each path is that of a seed, or it goes on with the path of the second AS.
use Rattle.std.proofs.Common.{◌≡◌, ◌⊎◌, inl, inr, ℕ, zero, suc, ◌<◌, Bool, true, false, ◌&&◌, nat_lt, Option, Some, None, List, ◌∷◌, refl, sym, ap, subst, ◌∙◌, arith}
use Rattle.std.specs.Prelude.{IsTrue, slice_get, if◌then◌else◌}
use Rattle.net_names.specs.Prefixes.{PrefixValue}
use Rattle.policy_laws.specs.Policy.{is_own_or_customers}
use Rattle.stability_laws.specs.declared.entry.Entry.{Entry}
use Rattle.stability_laws.specs.declared.entry.Seed.{Seed}
use Rattle.stability_laws.specs.Entries.{seed_entry}
use Rattle.stability_laws.specs.Offers.{Setting, offer}
use Rattle.stability_laws.specs.Plans.{Plan, IsSound, announced_path, has_prefix, leaks_in}
use Rattle.stability_laws.specs.Rounds.{AreRounds, seed_given, seeds_of}
use Rattle.stability_laws.specs.Stable.{IsStable, IsRightGiven}
use Rattle.stability_laws.proofs.OfferPathLemmas.{path_given}
use Rattle.leak_round.specs.Moved.{ArePassedOn, ComesFrom}

abbrev PathFrom : Option Seed → (ℕ → Option Entry) → ℕ → List ℕ → Type 0
PathFrom (Some s) f a path = path ≡ s.path
PathFrom None f a path = (n : ℕ) × (d : Entry) × (f n ≡ Some d) × (path ≡ a ∷ d.path)

from_stable : (w : Setting) (seeds : ℕ → Option Seed) (f : ℕ → Option Entry) → IsStable w seeds f → (a : ℕ) (e : Entry) → f a ≡ Some e → PathFrom (seeds a) f a e.path
from_stable w seeds f stable a e held = at (w.has a) refl
  where
    by : (s : Option Seed) → IsRightGiven (w.policy a) s (λ n. offer w f n a) (Some e) → PathFrom s f a e.path
    by (Some s) r = let same : e ≡ seed_entry s = cc in ap (λ (z : Entry). z.path) same
    by None (n, o, best, is) = let (d, there, path) = path_given (w.policy n) (w.policy a) w.state n a (w.relation a n) (f n) o best.made in (n, d, there, ap (λ (z : Entry). z.path) is ∙ path)

    at : (b : Bool) → w.has a ≡ b → PathFrom (seeds a) f a e.path
    at false v = absurd (let none : None ≡ Some e = sym (stable.only_ases a v) ∙ held in cc)
    at true v = by (seeds a) (subst (λ o. IsRightGiven (w.policy a) (seeds a) (λ n. offer w f n a) o) held (stable.right a v))

abbrev IsLeak : Bool → Option Entry → Seed → Type 0
IsLeak leaks held s = (leaks ≡ true) × ((d : Entry) × (held ≡ Some d) × (s.path ≡ d.path))

seed_from : (announced : Option (List ℕ)) (leaks : Bool) (held : Option Entry) (s : Seed) → seed_given announced leaks held ≡ Some s → (announced ≡ Some s.path) ⊎ IsLeak leaks held s
seed_from (Some path) leaks held s e = inl (let same : record { path = path; otc = None } ≡ s = cc in ap (λ (z : Seed). Some z.path) same)
seed_from None false held s e = cc
seed_from None true None s e = cc
seed_from None true (Some d) s e = inr (refl, (d, refl, by (is_own_or_customers d.class) e))
  where
    by : (own : Bool) → (if own then None else Some (record { path = d.path; otc = d.otc })) ≡ Some s → s.path ≡ d.path
    by true e = cc
    by false e = let same : record { path = d.path; otc = d.otc } ≡ s = cc in ap (λ (z : Seed). z.path) (sym same)

module _ (w : PrefixValue → Setting) (plan : Plan) (sound : IsSound plan) (rounds : ℕ) (g : ℕ → PrefixValue → ℕ → Option Entry) (are : AreRounds w plan rounds g) where
  starts_from : (prefix : PrefixValue) (a : ℕ) (held : Option Entry) (leaks : Bool) (s : Option Seed) (f : ℕ → Option Entry) (path : List ℕ) → seed_given (announced_path plan prefix a) leaks held ≡ s → PathFrom s f a path
      → ((d : Entry) → leaks ≡ true → held ≡ Some d → slice_get d.path 0 ≡ Some a) → slice_get path 0 ≡ Some a
  starts_from prefix a held leaks None f path given (n, d, there, is) before = ap (λ (l : List ℕ). slice_get l 0) is
  starts_from prefix a held leaks (Some s) f path given is before = ap (λ (l : List ℕ). slice_get l 0) is ∙ elim (seed_from (announced_path plan prefix a) leaks held s given) [
    | inl own ↦ sound.starts prefix a s.path own
    | inr (l, (d, h, same)) ↦ ap (λ (l : List ℕ). slice_get l 0) same ∙ before d l h
  ]

  starts : (before : ℕ) (prefix : PrefixValue) → before < rounds → IsTrue (has_prefix plan prefix) → (a : ℕ) (e : Entry) → g (suc before) prefix a ≡ Some e → slice_get e.path 0 ≡ Some a
  starts zero prefix within known a e held =
      starts_from prefix a (g zero prefix a) (nat_lt 1 1 && leaks_in plan 1 a) (seeds_of plan 1 prefix (g zero prefix) a) (g 1 prefix) e.path refl (from_stable (w prefix) (seeds_of plan 1 prefix (g zero prefix)) (g 1 prefix) (are zero prefix within known) a e held)
      (λ d leaks h. (let never : false ≡ true = leaks in cc))
  starts (suc b) prefix within known a e held =
      starts_from prefix a (g (suc b) prefix a) (nat_lt 1 (suc (suc b)) && leaks_in plan (suc (suc b)) a) (seeds_of plan (suc (suc b)) prefix (g (suc b) prefix) a) (g (suc (suc b)) prefix) e.path refl
      (from_stable (w prefix) (seeds_of plan (suc (suc b)) prefix (g (suc b) prefix)) (g (suc (suc b)) prefix) (are (suc b) prefix within known) a e held)
      (λ d leaks h. starts b prefix (omega (arith, within)) known a d h)

  pub passed_on : (before : ℕ) (prefix : PrefixValue) → before < rounds → IsTrue (has_prefix plan prefix) → ArePassedOn (seeds_of plan (suc before) prefix (g before prefix)) (g (suc before) prefix)
  passed_on before prefix within known a e held = by (seeds_of plan (suc before) prefix (g before prefix) a) (from_stable (w prefix) (seeds_of plan (suc before) prefix (g before prefix)) (g (suc before) prefix) (are before prefix within known) a e held)
    where
      by : (s : Option Seed) → PathFrom s (g (suc before) prefix) a e.path → ComesFrom s (g (suc before) prefix) a e.path
      by (Some s) is = is
      by None (n, d, there, is) = (n, d, there, is, starts before prefix within known n d there)
