-- There is at most one family of stable routings.
use Rattle.std.proofs.Common.{◌≡◌, ℕ, zero, suc, ◌<◌, false, IsTrue, Option, Some, None, List, refl, ap, subst, arith}
use Rattle.net_names.specs.Prefixes.{PrefixValue}
use Rattle.as_graph.specs.Hierarchy.{HasNoProviderCycle}
use Rattle.as_graph.proofs.Chains.{AreLinks}
use Rattle.stability_laws.specs.declared.entry.Entry.{Entry}
use Rattle.stability_laws.specs.declared.entry.Seed.{Seed}
use Rattle.stability_laws.specs.Offers.{Setting}
use Rattle.stability_laws.specs.Stable.{IsStable, IsLawful}
use Rattle.stability_laws.specs.Plans.{Plan, has_prefix, announced_path}
use Rattle.stability_laws.specs.Rounds.{seed_given, seeds_of, AreRounds}
use Rattle.stability_laws.proofs.OneRouting.{one_routing}

-- in round 1 nothing of an earlier round is read
first_round : (plan : Plan) (prefix : PrefixValue) (f g : ℕ → Option Entry) (a : ℕ) → seeds_of plan 1 prefix f a ≡ seeds_of plan 1 prefix g a
first_round plan prefix f g a = by (announced_path plan prefix a)
  where
    by : (s : Option (List ℕ)) → seed_given s false (f a) ≡ seed_given s false (g a)
    by None = refl
    by (Some path) = refl

module _ (setting : PrefixValue → Setting) (lawful : (p : PrefixValue) (a : ℕ) → IsLawful ((setting p).policy a)) (ases : List ℕ) (links : (p : PrefixValue) → AreLinks (setting p).relation ases) (no_cycle : (p : PrefixValue) → HasNoProviderCycle (setting p).relation) (plan : Plan) (rounds : ℕ) (g h : ℕ → PrefixValue → ℕ → Option Entry) (g_is : AreRounds setting plan rounds g) (h_is : AreRounds setting plan rounds h) where
  -- with the same seeds, the same routing
  same_by_seeds : (before : ℕ) (prefix : PrefixValue) → before < rounds → IsTrue (has_prefix plan prefix) →
      ((a : ℕ) → seeds_of plan (suc before) prefix (g before prefix) a ≡ seeds_of plan (suc before) prefix (h before prefix) a) → (a : ℕ) → g (suc before) prefix a ≡ h (suc before) prefix a
  same_by_seeds before prefix within there same =
      let S : (ℕ → Option Seed) → Type 0 = λ s. IsStable (setting prefix) s (g (suc before) prefix) in
      one_routing (setting prefix) (lawful prefix) ases (links prefix) (no_cycle prefix) (seeds_of plan (suc before) prefix (h before prefix)) (g (suc before) prefix) (h (suc before) prefix)
      (subst S (λ i a. same a i) (g_is before prefix within there)) (h_is before prefix within there)

  -- two families of rounds are equal
  pub one_family : (before : ℕ) (prefix : PrefixValue) → before < rounds → IsTrue (has_prefix plan prefix) → (a : ℕ) → g (suc before) prefix a ≡ h (suc before) prefix a
  one_family zero prefix within there = same_by_seeds 0 prefix within there (first_round plan prefix (g 0 prefix) (h 0 prefix))
  one_family (suc r) prefix within there =
      let before : (a : ℕ) → g (suc r) prefix a ≡ h (suc r) prefix a = one_family r prefix (omega arith) there in
      same_by_seeds (suc r) prefix within there (λ a. ap (λ x. seeds_of plan (suc (suc r)) prefix (λ _. x) a) (before a))
