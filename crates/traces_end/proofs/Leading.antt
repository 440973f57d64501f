-- In a round in which nobody leaks each path that isn't announced leads on.
use Rattle.std.proofs.Common.{◌≡◌, ℕ, Bool, true, false, ◌&&◌, nat_lt, IsTrue, Option, Some, None, is_some, List, ◌∷◌, refl, sym, ◌∙◌, ap, subst}
use Rattle.std.specs.Cmp.{eq_by_cmp_equiv}
use Rattle.std.specs.FinMap as fin
use Rattle.std.specs.List.{Contains}
use Rattle.std.proofs.lemmas.Map.Views.{list_any-from_Contains}
use Rattle.net_names.specs.Orders.{prefix_total}
use Rattle.net_names.specs.Prefixes.{PrefixValue}
use Rattle.stability_laws.specs.declared.entry.Entry.{Entry}
use Rattle.stability_laws.specs.declared.entry.Seed.{Seed}
use Rattle.stability_laws.specs.Offers.{Setting, offer}
use Rattle.stability_laws.specs.Plans.{Plan, announced_path, announces, has_prefix, leaks_in, prefixes_of}
use Rattle.stability_laws.specs.Rounds.{seed_given, seeds_of}
use Rattle.stability_laws.specs.Stable.{IsRightGiven, IsStable}
use Rattle.stability_laws.proofs.OfferPathLemmas.{path_given}

-- a prefix of the plan's list is one of the plan
pub listed_prefix : (plan : Plan) (p : PrefixValue) → Contains (prefixes_of plan) p → IsTrue (has_prefix plan p)
listed_prefix plan p c = fin.contains_key-keys plan.prefixes p ∙ list_any-from_Contains (eq_by_cmp_equiv prefix_total) p (prefixes_of plan) c

no_seed : (announced : Option (List ℕ)) (late leaks : Bool) (held : Option Entry) → is_some announced ≡ false → leaks ≡ false → seed_given announced (late && leaks) held ≡ None
no_seed None true leaks held none quiet = ap (λ b. seed_given None b held) quiet
no_seed None false leaks held none quiet = refl
no_seed (Some path) late leaks held none quiet = cc

-- without a seed an entry is what a neighbour's entry gives
given : (w : Setting) (seeds : ℕ → Option Seed) (f : ℕ → Option Entry) → IsStable w seeds f → (a : ℕ) (e : Entry) → seeds a ≡ None → f a ≡ Some e → (n : ℕ) × (d : Entry) × (f n ≡ Some d) × (e.path ≡ a ∷ d.path)
given w seeds f stable a e none held = at (w.has a) refl
  where
    by : IsRightGiven (w.policy a) None (λ n. offer w f n a) (Some e) → (n : ℕ) × (d : Entry) × (f n ≡ Some d) × (e.path ≡ a ∷ d.path)
    by (n, o, best, is) = let (d, there, path) = path_given (w.policy n) (w.policy a) w.state n a (w.relation a n) (f n) o best.made in (n, d, there, ap (λ (z : Entry). z.path) is ∙ path)

    at : (b : Bool) → w.has a ≡ b → (n : ℕ) × (d : Entry) × (f n ≡ Some d) × (e.path ≡ a ∷ d.path)
    at false v = absurd (let t : None ≡ Some e = sym (stable.only_ases a v) ∙ held in cc)
    at true v = by (subst (λ s. IsRightGiven (w.policy a) s (λ n. offer w f n a) (Some e)) none (subst (λ o. IsRightGiven (w.policy a) (seeds a) (λ n. offer w f n a) o) held (stable.right a v)))

pub leads : (w : PrefixValue → Setting) (plan : Plan) (round : ℕ) (before held : PrefixValue → ℕ → Option Entry) → ((p : PrefixValue) → IsTrue (has_prefix plan p) → IsStable (w p) (seeds_of plan round p (before p)) (held p))
    → ((b : ℕ) → leaks_in plan round b ≡ false) → (p : PrefixValue) → Contains (prefixes_of plan) p → (a : ℕ) (e : Entry) → held p a ≡ Some e → announces plan p a ≡ false → (n : ℕ) × (d : Entry) × (held p n ≡ Some d) × (e.path ≡ a ∷ d.path)
leads w plan round before held stable quiet p listed a e is other =
    given (w p) (seeds_of plan round p (before p)) (held p) (stable p (listed_prefix plan p listed)) a e
    (no_seed (announced_path plan p a) (nat_lt 1 round) (leaks_in plan round a) (before p a) other (quiet a)) is
