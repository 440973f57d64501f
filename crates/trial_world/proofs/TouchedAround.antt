-- ASes that are touched one after the other, prefix by prefix.
use Rattle.std.proofs.Common.{◌≡◌, inl, inr, ℕ, ◌+◌, ◌<◌, Bool, true, Some, List, length, get_or, sym, ap, subst, ◌∙◌, arith}
use Rattle.std.specs.List.{All}
use Rattle.std.specs.Prelude.{slice_get}
use Rattle.std.proofs.lemmas.Bool.{cases_eq}
use Rattle.std.proofs.lemmas.List.{get_or_default}
use Rattle.net_names.specs.Prefixes.{PrefixValue}
use Rattle.as_graph.specs.Topology.{Topology}
use Rattle.policy_kinds.specs.declared.kind.Kind.{Kind}
use Rattle.stability_laws.specs.Book.{PolicyBook}
use Rattle.leak_round.specs.Touched.{touches}
use Rattle.leak_round.specs.declared.touched.Touched.{Touched}
use Rattle.sim_core.proofs.Listed.{place_or}
use Rattle.trial_world.specs.Tables.{IsTouchedAround}

module _ (g : Topology) (book : PolicyBook Kind) where
  -- who is touched stays so where more are
  still_around : (c : ℕ × Kind) (old new : ℕ → Bool) → ((a : ℕ) → old a ≡ true → new a ≡ true) → IsTouchedAround g book c old → IsTouchedAround g book c new
  still_around c old new more is = record { own = more c.0 is.own; neighbours = λ n r differ link. more n (is.neighbours n r differ link) }

  pub touched_more : (xs : List (ℕ × Kind)) (i : ℕ) (x : ℕ × Kind) (old new : ℕ → Bool) → i < length xs → x ≡ get_or xs i x → ((k : ℕ) (d : ℕ × Kind) → k < i → IsTouchedAround g book (get_or xs k d) old) → ((a : ℕ) → old a ≡ true → new a ≡ true) → IsTouchedAround g book x new
      → (k : ℕ) (d : ℕ × Kind) → k < i + 1 → IsTouchedAround g book (get_or xs k d) new
  touched_more xs i x old new less at before more here k d low = elim (cases_eq k i) [
    | inl same ↦
        let is : get_or xs k d ≡ x = ap (λ j. get_or xs j d) same ∙ get_or_default xs i d x less ∙ sym at in
        subst (λ (y : ℕ × Kind). IsTouchedAround g book y new) (sym is) here
    | inr other ↦ still_around (get_or xs k d) old new more (before k d (omega (arith, low, other)))
  ]

  pub prefix_more : (xs : List (ℕ × Kind)) (ps : List PrefixValue) (i : ℕ) (q : PrefixValue) (old new : Touched) → slice_get ps i ≡ Some q → ((place : ℕ) (p : PrefixValue) → place < i → slice_get ps place ≡ Some p → All (λ c. IsTouchedAround g book c (touches old p)) xs)
      → ((p : PrefixValue) (a : ℕ) → touches old p a ≡ true → touches new p a ≡ true) → All (λ c. IsTouchedAround g book c (touches new q)) xs → (place : ℕ) (p : PrefixValue) → place < i + 1 → slice_get ps place ≡ Some p → All (λ c. IsTouchedAround g book c (touches new p)) xs
  prefix_more xs ps i q old new at before more here place p less there = elim (place_or place i less) [
    | inl earlier ↦ (λ k d low. still_around (get_or xs k d) (touches old p) (touches new p) (more p) (before place p earlier there k d low))
    | inr last ↦ (
        let one : Some q ≡ Some p = sym at ∙ (ap (slice_get ps) (sym last) ∙ there) in
        let same : q ≡ p = cc in
        subst (λ (r : PrefixValue). All (λ c. IsTouchedAround g book c (touches new r)) xs) same here)
  ]
