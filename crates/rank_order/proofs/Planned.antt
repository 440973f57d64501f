-- What a plan makes of the ranks.
use Rattle.std.proofs.Common.{◌≡◌, inl, inr, ℕ, ◌≤◌, true, false, cond, Some, None, is_some, unwrap_or, List, [], length, sym, ap, arith, ◌∙◌}
use Rattle.std.proofs.lemmas.Bool.{cases_Bool}
use Rattle.std.specs.FinMap as map_of
use Rattle.net_names.specs.Numbers.{occurs}
use Rattle.as_graph.proofs.Chains.{distinct_le}
use Rattle.cycle_check.specs.declared.ranking.RankedAs.{RankedAs}
use Rattle.cycle_check.specs.Providers.{rank_by as rank_by_place}
use Rattle.cycle_check.specs.Rankings.{numbers_of, ranks_of, rank_told, rank_in}
use Rattle.rank_order.specs.declared.plan.RankPlan.{RankPlan}
use Rattle.rank_order.specs.Ranks.{KeptRanks, RankMap, rank_at}
use Rattle.rank_order.specs.Plans.{is_numbered, entry_after, rank_after, ComesBy, IsLastPlan}
use Rattle.rank_order.proofs.Kept.{told, told_is}

module _ (ranks : KeptRanks) (p : RankPlan) where
  pub after_numbered : (a : ℕ) → is_numbered p a ≡ true → entry_after ranks p a ≡ Some (rank_by_place p.ases.items p.ranks.items a)
  after_numbered a t = ap (λ b. cond b (Some (rank_by_place p.ases.items p.ranks.items a)) (cond (occurs a p.ends.items) None (map_of.get ranks.by_as a))) t

  after_other : (a : ℕ) → is_numbered p a ≡ false → entry_after ranks p a ≡ cond (occurs a p.ends.items) None (map_of.get ranks.by_as a)
  after_other a f = ap (λ b. cond b (Some (rank_by_place p.ases.items p.ranks.items a)) (cond (occurs a p.ends.items) None (map_of.get ranks.by_as a))) f

  after_gone : (a : ℕ) → is_numbered p a ≡ false → occurs a p.ends.items ≡ true → entry_after ranks p a ≡ None
  after_gone a f o = after_other a f ∙ ap (λ b. cond b None (map_of.get ranks.by_as a)) o

  after_kept : (a : ℕ) → is_numbered p a ≡ false → occurs a p.ends.items ≡ false → entry_after ranks p a ≡ map_of.get ranks.by_as a
  after_kept a f o = after_other a f ∙ ap (λ b. cond b None (map_of.get ranks.by_as a)) o

  pub rank_kept : (a : ℕ) → is_numbered p a ≡ false → occurs a p.ends.items ≡ false → rank_after ranks p a ≡ rank_at ranks a
  rank_kept a f o = ap (λ r. unwrap_or r 0) (after_kept a f o)

  -- who is not numbered and had no rank above 0 outside the ends has none
  pub rank_none : (a : ℕ) → is_numbered p a ≡ false → (occurs a p.ends.items ≡ false → rank_at ranks a ≡ 0) → rank_after ranks p a ≡ 0
  rank_none a f only = elim (cases_Bool (occurs a p.ends.items)) [
    | inl o ↦ ap (λ r. unwrap_or r 0) (after_gone a f o)
    | inr o ↦ rank_kept a f o ∙ only o
  ]

  comes_numbered : (a : ℕ) → ComesBy ranks p a → is_numbered p a ≡ true
  comes_numbered a comes = elim (cases_Bool (is_numbered p a)) [
    | inl t ↦ t
    | inr f ↦ elim (cases_Bool (occurs a p.ends.items)) [
      | inl o ↦ (let e = ap is_some (after_gone a f o) in let l = comes.later in cc)
      | inr o ↦ (let e = ap is_some (after_kept a f o) in let l = comes.later in let m = comes.before in cc)
    ]
  ]

  pub last_plan : length p.ases.items ≤ ranks.spare → IsLastPlan ranks p
  last_plan enough = record {
    room = λ xs apart comes.
        let few : length xs ≤ length p.ases.items = distinct_le xs p.ases.items apart (λ x o. comes_numbered x (comes x o)) in
        omega (arith, few, enough);
  }

  -- a plan that numbers nobody and has no ends changes nothing
  pub none_last : p.ases.items ≡ [] → IsLastPlan ranks p
  none_last none = last_plan (rw none (omega arith))

  pub none_same : p.ases.items ≡ [] → p.ends.items ≡ [] → (a : ℕ) → rank_after ranks p a ≡ rank_at ranks a
  none_same none no_ends a = rank_kept a (ap (occurs a) none) (ap (occurs a) no_ends)

  -- a plan that numbers the ASes of a list tells what the list tells
  pub rank_listed : (xs : List RankedAs) → p.ases.items ≡ numbers_of xs → p.ranks.items ≡ ranks_of xs → (a : ℕ) → (is_numbered p a ≡ false → occurs a p.ends.items ≡ false → rank_at ranks a ≡ 0) → rank_after ranks p a ≡ rank_in xs a
  rank_listed xs asns own a only =
      let tell : rank_told xs a ≡ told p.ases.items p.ranks.items a = told_is xs a ∙ ap (λ ys. told ys (ranks_of xs) a) (sym asns) ∙ ap (λ rs. told p.ases.items rs a) (sym own) in
      elim (cases_Bool (is_numbered p a)) [
        | inl t ↦ ap (λ r. unwrap_or r 0) (after_numbered a t ∙ sym (tell ∙ ap (λ b. cond b (Some (rank_by_place p.ases.items p.ranks.items a)) None) t))
        | inr f ↦ rank_none a f (only f) ∙ sym (ap (λ r. unwrap_or r 0) (tell ∙ ap (λ b. cond b (Some (rank_by_place p.ases.items p.ranks.items a)) None) f))
      ]

-- only the first map counts
pub rank_same : (ranks others : KeptRanks) (p : RankPlan) (a : ℕ) → others.by_as ≡ ranks.by_as → rank_after ranks p a ≡ rank_after others p a
rank_same ranks others p a same = ap (λ (m : RankMap). unwrap_or (cond (is_numbered p a) (Some (rank_by_place p.ases.items p.ranks.items a)) (cond (occurs a p.ends.items) None (map_of.get m a))) 0) (sym same)
