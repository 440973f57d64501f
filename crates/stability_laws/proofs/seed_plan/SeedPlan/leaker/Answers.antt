use Rattle.std.proofs.Common.{◌≡◌, ◌∙◌, ℕ, Bool, true, if◌then◌else◌, List, map, sym, ap, subst, arith}
use Rattle.std.specs.Prelude.{is_ok}
use Rattle.std.specs.List.{insert}
use Rattle.std.specs.FinMap as fin
use Rattle.indexmap.proofs.SetLemmas.{map-insert}
use Rattle.net_names.specs.Links.{pair_cmp}
use Rattle.net_names.proofs.Pairs.{exact_pair, pairs_total}
use Rattle.stability_laws.specs.PlanLists.{set_of, IsRising}
use Rattle.stability_laws.proofs.KeyLists.{kept_there, put_new}
use Rattle.stability_laws.proofs.PlanReads.{plan_kept, plan_leaking, are_leaking}
use Rattle.stability_laws.proofs.seed_plan.SeedPlan.leaker.Goals as goal

module _ (c : goal.After-insert-2) where
  rises : IsRising pair_cmp c.insert.new.self.items × (set_of pair_cmp c.insert.new.self.items ≡ fin.insert (set_of pair_cmp c.self.inside.leakers.items) (c.args.round, c.args.asn) tt)
  rises =
      let P : List (ℕ × ℕ) → Type 0 = λ ks. IsRising pair_cmp ks × (set_of pair_cmp ks ≡ fin.insert (set_of pair_cmp c.self.inside.leakers.items) (c.args.round, c.args.asn) tt) in
      subst P (sym c.in_ok-insert.ensures.items) (put_new pairs_total exact_pair c.self.inside.leakers.items c.as_slice.result.now c.as_slice.ensures.value c.self.invariant.leakers_rise (c.args.round, c.args.asn) c.in-Err.at c.in-Err.ensures.bound c.in-Err.ensures.position)

  leaking : c.insert-2.new.self.items ≡ map (λ x. x.1) c.insert.new.self.items
  leaking =
      let second : ℕ × ℕ → ℕ = λ x. x.1 in
      let room = c.in_ok-reserve.ensures.ok in
      let ok : is_ok c.insert-2.result ≡ true = c.insert-2.ensures.succeeds (omega (arith, room)) in
      c.insert-2.ensures.items
      ∙ ap (λ (b : Bool). if b then insert c.reserve.new.self.items c.in-Err.at c.args.asn else c.reserve.new.self.items) ok
      ∙ ap (λ (xs : List ℕ). insert xs c.in-Err.at c.args.asn) (c.reserve.ensures.items ∙ c.self.invariant.leaking_are)
      ∙ sym (ap (map second) c.in_ok-insert.ensures.items ∙ map-insert second c.self.inside.leakers.items c.in-Err.at (c.args.round, c.args.asn))

pub returns-in_default-clause-ok : goal.returns-in_default-clause-ok
returns-in_default-clause-ok c =
    plan_kept c.self.inside.prefixes.items c.self.inside.announced.items c.self.inside.announcers.items c.self.inside.leakers.items c.self.inside.leaking.items c.self.invariant c.args.self.now c.self.view_is c.args.round c.args.asn
    (kept_there pairs_total exact_pair c.self.inside.leakers.items c.as_slice.result.now c.as_slice.ensures.value c.self.invariant.leakers_rise (c.args.round, c.args.asn) c.in_default.field-0 c.in_default.ensures.bound c.in_default.ensures.position)

pub invariant_of-self-2 : goal.invariant_of-self-2
invariant_of-self-2 c =
    are_leaking c.self.inside.prefixes.items c.self.inside.announced.items c.self.inside.announcers.items c.self.inside.leakers.items c.self.inside.leaking.items c.self.invariant c.args.self.now c.self.view_is
    c.args.round c.args.asn c.requires c.insert.new.self.items (rises c).0 (rises c).1 c.insert-2.new.self.items (leaking c)

pub returns-clause-ok : goal.returns-clause-ok
returns-clause-ok c =
    plan_leaking c.self.inside.prefixes.items c.self.inside.announced.items c.self.inside.announcers.items c.self.inside.leakers.items c.self.inside.leaking.items c.self.invariant c.args.self.now c.self.view_is
    c.args.round c.args.asn c.requires c.insert.new.self.items (rises c).0 (rises c).1 c.insert-2.new.self.items (leaking c)
