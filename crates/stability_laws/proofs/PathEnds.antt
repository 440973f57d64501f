-- Paths of stable routings start with their ASes, and go on to ASes of the world.
use Rattle.std.proofs.Common.{◌≡◌, ℕ, zero, suc, ◌<◌, Bool, true, false, IsTrue, Option, Some, None, List, ◌∷◌, refl, sym, ◌∙◌, ap, subst, arith}
use Rattle.std.specs.Prelude.{is_some, slice_get, ◌&&◌, nat_lt, if◌then◌else◌}
use Rattle.net_names.specs.declared.routes.Rel.{Rel}
use Rattle.net_names.specs.declared.routes.State.{State}
use Rattle.net_names.specs.Prefixes.{PrefixValue}
use Rattle.policy_laws.specs.Policy.{Policy, is_own_or_customers}
use Rattle.stability_laws.specs.declared.entry.Entry.{Entry}
use Rattle.stability_laws.specs.declared.entry.Seed.{Seed}
use Rattle.stability_laws.specs.Entries.{seed_entry}
use Rattle.stability_laws.specs.Offers.{Setting, Offer, offer_given, offer}
use Rattle.stability_laws.specs.Stable.{IsStable, IsRightGiven}
use Rattle.stability_laws.specs.Plans.{Plan, IsSound, has_prefix, announced_path, announces, leaks_in}
use Rattle.stability_laws.specs.Rounds.{seed_given, seeds_of, AreRounds}
use Rattle.stability_laws.proofs.Local.{given_when}

-- an offer is over a link, of an entry that the giver holds, whose path it puts after the receiver
offer_path : (A : List ℕ → Type 0) (s r : Policy) (state : ℕ → State) (n a : ℕ) (relation : Option Rel) (held : Option Entry) (o : Offer) → offer_given s r state n a relation held ≡ Some o →
    ((from : Rel) (d : Entry) → relation ≡ Some from → held ≡ Some d → A (a ∷ d.path)) → A o.entry.path
offer_path A s r st n a None held o e f = absurd (let k : None ≡ Some o = e in cc)
offer_path A s r st n a (Some from) None o e f = absurd (let k : None ≡ Some o = e in cc)
offer_path A s r st n a (Some from) (Some d) o e f =
    let is = given_when _ _ o e in
    subst A (ap (λ (t : Offer). t.entry.path) is) (f from d refl refl)

leaked_path : (A : List ℕ → Type 0) (own : Bool) (e : Entry) (s : Seed) → (if own then None else Some (record { path = e.path; otc = e.otc })) ≡ Some s → A e.path → A s.path
leaked_path A true e s q h = absurd (let k : None ≡ Some s = q in cc)
leaked_path A false e s q h = let k : record { path = e.path; otc = e.otc } ≡ s = cc in subst (λ (t : Seed). A t.path) k h

-- a seed's path is announced, or was held in the round before
seed_path : (A : List ℕ → Type 0) (announced : Option (List ℕ)) (leaks : Bool) (held : Option Entry) (s : Seed) → seed_given announced leaks held ≡ Some s →
    ((path : List ℕ) → announced ≡ Some path → A path) → ((e : Entry) → announced ≡ None → leaks ≡ true → held ≡ Some e → A e.path) → A s.path
seed_path A (Some path) leaks held s q f g = let k : record { path = path; otc = None } ≡ s = cc in subst (λ (t : Seed). A t.path) k (f path refl)
seed_path A None false held s q f g = absurd (let k : None ≡ Some s = q in cc)
seed_path A None true None s q f g = absurd (let k : None ≡ Some s = q in cc)
seed_path A None true (Some e) s q f g = leaked_path A (is_own_or_customers e.class) e s q (g e refl refl refl)

module _ (setting : PrefixValue → Setting) (ends : (p : PrefixValue) (a b : ℕ) (r : Rel) → (setting p).relation a b ≡ Some r → (setting p).has b ≡ true) (plan : Plan) (sound : IsSound plan) (rounds : ℕ) (g : ℕ → PrefixValue → ℕ → Option Entry) (g_is : AreRounds setting plan rounds g) where
  -- an entry's path is that of a seed, or that of a neighbour's entry after the AS
  held_path : (before : ℕ) (prefix : PrefixValue) → before < rounds → IsTrue (has_prefix plan prefix) → (a : ℕ) (e : Entry) → g (suc before) prefix a ≡ Some e → (A : List ℕ → Type 0) →
      ((s : Seed) → seeds_of plan (suc before) prefix (g before prefix) a ≡ Some s → A s.path) →
      ((n : ℕ) (from : Rel) (d : Entry) → (setting prefix).relation a n ≡ Some from → g (suc before) prefix n ≡ Some d → A (a ∷ d.path)) → A e.path
  held_path before prefix within there a e held A seed offered = at ((setting prefix).has a) refl
    where
      stable : IsStable (setting prefix) (seeds_of plan (suc before) prefix (g before prefix)) (g (suc before) prefix)
      stable = g_is before prefix within there

      by : (s : Option Seed) → seeds_of plan (suc before) prefix (g before prefix) a ≡ s → IsRightGiven ((setting prefix).policy a) s (λ n. offer (setting prefix) (g (suc before) prefix) n a) (Some e) → A e.path
      by (Some s) q r = let k : e ≡ seed_entry s = cc in subst (λ (t : Entry). A t.path) (sym k) (seed s q)
      by None q (n, o, best, is) = subst (λ (t : Entry). A t.path) (sym is)
          (offer_path A ((setting prefix).policy n) ((setting prefix).policy a) (setting prefix).state n a ((setting prefix).relation a n) (g (suc before) prefix n) o best.made (λ from d l h. offered n from d l h))

      at : (v : Bool) → (setting prefix).has a ≡ v → A e.path
      at false v = absurd (let k : None ≡ Some e = sym (stable.only_ases a v) ∙ held in cc)
      at true v = by (seeds_of plan (suc before) prefix (g before prefix) a) refl
          (subst (λ h. IsRightGiven ((setting prefix).policy a) (seeds_of plan (suc before) prefix (g before prefix) a) (λ n. offer (setting prefix) (g (suc before) prefix) n a) h) held (stable.right a v))

  -- in round 1 nobody leaks
  early : (prefix : PrefixValue) (a : ℕ) → (nat_lt 1 1 && leaks_in plan 1 a) ≡ true → ⊥
  early prefix a e = let k : false ≡ true = e in cc

  pub path_starts : (before : ℕ) (prefix : PrefixValue) → before < rounds → IsTrue (has_prefix plan prefix) → (a : ℕ) (e : Entry) → g (suc before) prefix a ≡ Some e → slice_get e.path 0 ≡ Some a
  path_starts zero prefix within there a e held = held_path zero prefix within there a e held (λ path. slice_get path 0 ≡ Some a)
      (λ s q. seed_path (λ path. slice_get path 0 ≡ Some a) (announced_path plan prefix a) _ (g zero prefix a) s q (λ path k. sound.starts prefix a path k) (λ d free l h. absurd (early prefix a l)))
      (λ n from d l h. refl)
  path_starts (suc b) prefix within there a e held = held_path (suc b) prefix within there a e held (λ path. slice_get path 0 ≡ Some a)
      (λ s q. seed_path (λ path. slice_get path 0 ≡ Some a) (announced_path plan prefix a) _ (g (suc b) prefix a) s q (λ path k. sound.starts prefix a path k) (λ d free l h. path_starts b prefix (omega arith) there a d h))
      (λ n from d l h. refl)

  abbrev pub GoesOn : PrefixValue → ℕ → List ℕ → Type 0
  GoesOn prefix a path = announces plan prefix a ≡ false → (b : ℕ) × (slice_get path 1 ≡ Some b) × ((setting prefix).has b ≡ true)

  announced_now : (prefix : PrefixValue) (a : ℕ) (path : List ℕ) → announced_path plan prefix a ≡ Some path → GoesOn prefix a path
  announced_now prefix a path e free = absurd (let k : true ≡ false = sym (ap is_some e) ∙ free in cc)

  offered_on : (before : ℕ) (prefix : PrefixValue) → before < rounds → IsTrue (has_prefix plan prefix) → (a n : ℕ) (from : Rel) (d : Entry) → (setting prefix).relation a n ≡ Some from → g (suc before) prefix n ≡ Some d → GoesOn prefix a (a ∷ d.path)
  offered_on before prefix within there a n from d l h free = (n, path_starts before prefix within there n d h, ends prefix a n from l)

  pub path_goes_on : (before : ℕ) (prefix : PrefixValue) → before < rounds → IsTrue (has_prefix plan prefix) → (a : ℕ) (e : Entry) → g (suc before) prefix a ≡ Some e → GoesOn prefix a e.path
  path_goes_on zero prefix within there a e held = held_path zero prefix within there a e held (GoesOn prefix a)
      (λ s q. seed_path (GoesOn prefix a) (announced_path plan prefix a) _ (g zero prefix a) s q (announced_now prefix a) (λ d free l h. absurd (early prefix a l)))
      (offered_on zero prefix within there a)
  path_goes_on (suc b) prefix within there a e held = held_path (suc b) prefix within there a e held (GoesOn prefix a)
      (λ s q. seed_path (GoesOn prefix a) (announced_path plan prefix a) _ (g (suc b) prefix a) s q (announced_now prefix a) (λ d free l h. path_goes_on b prefix (omega arith) there a d h))
      (offered_on (suc b) prefix within there a)
