use Rattle.std.proofs.Common.{arith, ◌≡◌, Some, None, inl, inr, sym, ap, subst, ◌∙◌}
use Rattle.std.proofs.lemmas.Bool.{cases_eq}
use Rattle.path_pool.specs.Pool.{IsLive, count_of}
use Rattle.path_pool.proofs.RegionLemmas.{zero_or}
use Rattle.route_choice.specs.declared.held.SeedHeld.{SeedHeld}
use Rattle.route_choice.specs.Tables.{seed_at}
use Rattle.worked_cases.proofs.tests.steps.set_up.Goals as goal

pub returns : goal.returns
returns c = record {
  changes = record {
    held = λ k. omega (arith, c.new-table.ensures.uses k, c.in_ok-room.ensures.uses k, c.new-overlay.ensures.uses k);
    seeds_live = λ a s e. elim (cases_eq a c.args.four) [
      | inl same ↦
          let mine : SeedHeld = record { path = c.cons-path.result; otc = None } in
          let there : seed_at c.put.new.self a ≡ Some mine = ap (seed_at c.put.new.self) same ∙ c.in_ok-put.ensures.this in
          let is : mine ≡ s = (let both : Some mine ≡ Some s = sym there ∙ e in cc) in
          subst (λ (t : SeedHeld). IsLive c.cons-path.new.self t.path.0) is c.cons-path.ensures.made.live
      | inr other ↦
          let none : seed_at c.put.new.self a ≡ None = c.in_ok-put.ensures.others a other ∙ c.new-seeds.ensures a in
          let clash : None ≡ Some s = sym none ∙ e in
          absurd (cc)
    ];
    spare = omega (arith, c.cons-path.ensures.spare, c.in_ok-reserve.ensures.room);
    counts = λ k.
        let none : count_of c.new-pool.result k ≡ 0 = zero_or (count_of c.new-pool.result k) (c.new-pool.ensures.none k) in
        omega (arith, none, c.in_ok-reserve.ensures.kept.counts k, c.cons-path.ensures.made.counts k);
  };
  room = c.in_ok-room.ensures.room;
}
