-- Rounds that are made anew.
use Rattle.std.proofs.Common.{◌≡◌, inl, inr, ℕ, zero, suc, ◌<◌, ◌≤◌, false, ◌==◌, Option, Some, None, List, [], ◌∷◌, length, refl, sym, ap, subst, ◌∙◌, arith}
use Rattle.std.specs.Prelude.{IsSome, IsTrue, is_some, slice_get, option_and_then}
use Rattle.std.proofs.lemmas.Bool.{cases_Bool, cases_lt, eq-eqb, or_left}
use Rattle.net_names.specs.Numbers.{occurs}
use Rattle.net_names.specs.Prefixes.{PrefixValue}
use Rattle.path_pool.specs.declared.pool.PathPool.{PathPool}
use Rattle.stability_laws.specs.Plans.{Plan, has_prefix}
use Rattle.route_choice.specs.declared.round_tables.RoundTables.{RoundTables}
use Rattle.route_choice.specs.declared.table.Table.{Table}
use Rattle.route_choice.specs.Routings.{table_routing}
use Rattle.route_choice.specs.RoundTables.{table_at, round_routing}
use Rattle.leak_round.specs.Overlays.{AreFew}
use Rattle.leak_round.specs.Tables.{tables_in, kept_in, AreRoundsFull}
use Rattle.leak_round.proofs.Counting.{none_some}

-- nothing is kept of a prefix that the plan has not
kept_unknown : (plan : Plan) (pool : PathPool) (rounds : List RoundTables) → AreRoundsFull pool plan rounds → (round : ℕ) (prefix : PrefixValue) (a : ℕ) → has_prefix plan prefix ≡ false → kept_in pool rounds round prefix a ≡ None
kept_unknown plan pool rounds full round prefix a unknown = by (tables_in rounds round) refl
  where
    at_table : (t : RoundTables) (o : Option Table) → table_at t prefix ≡ o → is_some o ≡ false → option_and_then (λ table. table_routing pool table a) o ≡ None
    at_table t None at none = refl
    at_table t (Some table) at none = cc

    by : (o : Option RoundTables) → tables_in rounds round ≡ o → option_and_then (λ t. round_routing pool t prefix a) o ≡ None
    by None at = refl
    by (Some t) at = at_table t (table_at t prefix) refl ((full round t at).there prefix ∙ unknown)

got_none : {X : Type 0} (xs : List X) (i : ℕ) → length xs ≤ i → slice_get xs i ≡ None
got_none [] i less = refl
got_none (x ∷ xs) zero less = absurd (omega (arith, less))
got_none (x ∷ xs) (suc i) less = got_none xs i (omega (arith, less))

-- nothing is kept in a round that is not there
kept_past : (pool : PathPool) (rounds : List RoundTables) (before : ℕ) (prefix : PrefixValue) (a : ℕ) → length rounds ≤ before → kept_in pool rounds (suc before) prefix a ≡ None
kept_past pool rounds before prefix a past = ap (option_and_then (λ (t : RoundTables). round_routing pool t prefix a)) (got_none rounds before past)

module _ (plan : Plan) (pool : PathPool) (rounds : List RoundTables) (full : AreRoundsFull pool plan rounds) where
  -- something is kept only in a round that is there, of a prefix of the plan
  pub kept_there : (round : ℕ) (prefix : PrefixValue) (a : ℕ) → IsSome (kept_in pool rounds round prefix a) → (before : ℕ) × (round ≡ suc before) × (before < length rounds) × IsTrue (has_prefix plan prefix)
  kept_there zero prefix a h = cc
  kept_there (suc before) prefix a h = elim (cases_lt before (length rounds)) [
    | inr past ↦ absurd (none_some (kept_in pool rounds (suc before) prefix a) (kept_past pool rounds before prefix a past) h)
    | inl less ↦ elim (cases_Bool (has_prefix plan prefix)) [
      | inl known ↦ (before, refl, less, known)
      | inr unknown ↦ absurd (none_some (kept_in pool rounds (suc before) prefix a) (kept_unknown plan pool rounds full (suc before) prefix a unknown) h)
    ]
  ]

  -- so no more hold something of others
  pub few_anywhere : ((before : ℕ) (prefix : PrefixValue) → before < length rounds → IsTrue (has_prefix plan prefix) → AreFew (kept_in pool rounds (suc before) prefix)) → (round : ℕ) (prefix : PrefixValue) → AreFew (kept_in pool rounds round prefix)
  few_anywhere few round prefix [] apart all = omega arith
  few_anywhere few round prefix (x ∷ xs) apart all =
      let (before, same, less, known) = kept_there round prefix x (all x (or_left (x == x) (occurs x xs) (eq-eqb x x refl))) in
      subst (λ n. AreFew (kept_in pool rounds n prefix)) (sym same) (few before prefix less known) (x ∷ xs) apart all

abbrev AreSame : Plan → PathPool → PathPool → List RoundTables → List RoundTables → Type 0
AreSame plan old new xs ys = (before : ℕ) (prefix : PrefixValue) → before < length xs → IsTrue (has_prefix plan prefix) → (a : ℕ) → kept_in new ys (suc before) prefix a ≡ kept_in old xs (suc before) prefix a

module _ (plan : Plan) (old new : PathPool) (xs ys : List RoundTables) (full : AreRoundsFull old plan xs) (full' : AreRoundsFull new plan ys) where
  kept_same : length ys ≡ length xs → AreSame plan old new xs ys → (round : ℕ) (prefix : PrefixValue) (a : ℕ) → kept_in new ys round prefix a ≡ kept_in old xs round prefix a
  kept_same count same zero prefix a = refl
  kept_same count same (suc before) prefix a = elim (cases_lt before (length xs)) [
    | inr past ↦ kept_past new ys before prefix a (omega (arith, past, count)) ∙ sym (kept_past old xs before prefix a past)
    | inl less ↦ elim (cases_Bool (has_prefix plan prefix)) [
      | inl known ↦ same before prefix less known a
      | inr unknown ↦ kept_unknown plan new ys full' (suc before) prefix a unknown ∙ sym (kept_unknown plan old xs full (suc before) prefix a unknown)
    ]
  ]

  -- what is the same in each round of each prefix of the plan is the same
  pub kept_anew : (zs : List RoundTables) → zs ≡ xs → length ys ≡ length zs → AreSame plan old new zs ys → (round : ℕ) (prefix : PrefixValue) (a : ℕ) → kept_in new ys round prefix a ≡ kept_in old xs round prefix a
  kept_anew zs is count same = kept_same (count ∙ ap (λ (ts : List RoundTables). length ts) is) (subst (λ ts. AreSame plan old new ts ys) is same)
