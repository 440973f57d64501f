use Rattle.std.proofs.Common.{◌≡◌, ◌+◌, ◌||◌, ◌==◌, inl, inr, ℕ, Bool, true, false, take, Option, Some, None, option_map, is_some, refl, sym, ◌∙◌, ap}
use Rattle.std.specs.List.{list_any}
use Rattle.std.specs.Option.{option_map_or}
use Rattle.std.proofs.lemmas.Bool.{or_cases, or_left, or_right, eq-eqb, eqb-true}
use Rattle.std.proofs.lemmas.List.{take_all}
use Rattle.std.proofs.lemmas.List.Folds.{list_any_more}
use Rattle.net_names.specs.Numbers.{occurs}
use Rattle.net_names.proofs.Shared.{or_assoc}
use Rattle.path_pool.specs.declared.pool.PathPool.{PathPool}
use Rattle.stability_laws.specs.declared.entry.Seed.{Seed}
use Rattle.route_choice.specs.declared.held.SeedHeld.{SeedHeld}
use Rattle.route_choice.specs.Routings.{seed_of, seeds_of}
use Rattle.route_choice.specs.Tables.{seed_at}
use Rattle.route_choice.specs.AsnSets.{is_among}
use Rattle.route_choice.specs.NamedSets.{is_named}
use Rattle.route_choice.specs.Naming.{is_on_seed, is_on_seed_from}
use Rattle.route_choice.proofs.Numbers.{any_of, found}
use Rattle.route_choice.proofs.named.named_by.Goals as goal

pub loop-asn-preserved : goal.loop-asn-preserved
loop-asn-preserved c =
    let xs = c.ases-ases.result.now in
    let i = c.loop-asn.asn-index in
    let asn = c.asn-item.result in
    let seeds = seeds_of c.args.pool.now c.args.seeds.now in
    let before = c.loop-asn.named in
    let more : (p : ℕ → Bool) → list_any p (take (i + 1) xs) ≡ (list_any p (take i xs) || p asn) = λ p. list_any_more p xs i asn c.loop-asn-test.true ∙ ap (λ b. list_any p (take i xs) || p b) (sym c.asn-item.is) in
    record {
      asns = λ x.
          let on = is_on_seed seeds asn x in
          let is : ℕ → Bool = λ b. (b == x) || is_on_seed seeds b x in
          c.in_ok-add_seed.ensures.asns x ∙ ap (λ t. t || on) (c.in_ok-add.ensures.asns x ∙ ap (λ t. t || (asn == x)) (c.loop-asn.invariant.asns x))
          ∙ or_assoc (list_any is (take i xs)) (asn == x) on ∙ sym (more is);
      ends = λ x e.
          let on = is_on_seed_from seeds asn x e in
          let is : ℕ → Bool = λ b. is_on_seed_from seeds b x e in
          c.in_ok-add_seed.ensures.ends x e ∙ ap (λ t. t || on) (c.in_ok-add.ensures.ends x e ∙ ap (λ t. t || false) (c.loop-asn.invariant.ends x e))
          ∙ or_assoc (list_any is (take i xs)) false on ∙ sym (more is);
    }

same_some : (pool : PathPool) (o : Option SeedHeld) → is_some o ≡ is_some (option_map (seed_of pool) o)
same_some pool None = refl
same_some pool (Some h) = refl

-- who has what passes a test has a seed
tested : (test : Seed → Bool) (o : Option Seed) → option_map_or test o false ≡ true → is_some o ≡ true
tested test None is = is
tested test (Some s) is = refl

pub returns-clause-asns : goal.returns-clause-asns
returns-clause-asns c = λ x.
    let xs = c.ases-ases.result.now in
    let seeds = seeds_of c.args.pool.now c.args.seeds.now in
    let has : (a : ℕ) → occurs a xs ≡ is_some (seeds a) = λ a. c.ases-ases.ensures a ∙ same_some c.args.pool.now (seed_at c.args.seeds.now a) in
    let is : ℕ → Bool = λ b. (b == x) || is_on_seed seeds b x in
    let among : is_among c.loop-asn.named.asns x ≡ list_any is xs = c.loop-asn.invariant.asns x ∙ ap (list_any is) (take_all c.loop-asn.asn-index xs c.loop-asn-test.false) in (
      λ there.
          let (b, on, passes) = found is xs (sym among ∙ there) in
          elim (or_cases (b == x) (is_on_seed seeds b x) passes) [
            | inl same ↦ inl (sym (has x) ∙ sym (ap (λ t. occurs t xs) (eqb-true b x same)) ∙ on)
            | inr through ↦ inr (b, through)
          ],
      λ part. among ∙ elim part [
        | inl seeded ↦ any_of is xs x (has x ∙ seeded) (or_left (x == x) (is_on_seed seeds x x) (eq-eqb x x refl))
        | inr (a, on) ↦ any_of is xs a (has a ∙ tested (λ s. occurs x s.path) (seeds a) on) (or_right (a == x) (is_on_seed seeds a x) on)
      ],
    )

pub returns-clause-ends : goal.returns-clause-ends
returns-clause-ends c = λ x e.
    let xs = c.ases-ases.result.now in
    let seeds = seeds_of c.args.pool.now c.args.seeds.now in
    let is : ℕ → Bool = λ b. is_on_seed_from seeds b x e in
    let named : is_named c.loop-asn.named x e ≡ list_any is xs = c.loop-asn.invariant.ends x e ∙ ap (list_any is) (take_all c.loop-asn.asn-index xs c.loop-asn-test.false) in (
      λ there. (let (b, on, passes) = found is xs (sym named ∙ there) in (b, passes)),
      λ (a, on). named ∙ any_of is xs a (c.ases-ases.ensures a ∙ same_some c.args.pool.now (seed_at c.args.seeds.now a) ∙ tested _ (seeds a) on) on,
    )
