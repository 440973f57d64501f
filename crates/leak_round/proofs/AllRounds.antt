-- The rounds, one by one.
use Rattle.std.proofs.Common.{◌≡◌, ◌⊎◌, inl, inr, ℕ, zero, suc, ◌+◌, ◌-◌, ◌*◌, ◌<◌, ◌≤◌, Option, Some, None, List, [], ◌∷◌, ◌++◌, length, refl, sym, ap, subst, ◌∙◌, arith}
use Rattle.std.specs.Prelude.{IsSome, IsTrue, slice_get, option_and_then}
use Rattle.std.proofs.lemmas.Bool.{cases_eq, cases_lt}
use Rattle.std.proofs.lemmas.List.{length-append}
use Rattle.std.proofs.lemmas.List.Sums.{sum_by_push}
use Rattle.net_names.specs.Prefixes.{PrefixValue}
use Rattle.path_pool.specs.declared.pool.PathPool.{PathPool}
use Rattle.path_pool.specs.Pool.{holds_of, live_count}
use Rattle.stability_laws.specs.declared.entry.Entry.{Entry}
use Rattle.stability_laws.specs.Plans.{Plan, has_prefix, prefixes_of}
use Rattle.route_choice.specs.declared.round_tables.RoundTables.{RoundTables}
use Rattle.route_choice.specs.RoundTables.{tables_uses, round_routing}
use Rattle.leak_round.specs.Entries.{HasEntries, of_round, of_rounds}
use Rattle.leak_round.specs.Growth.{GrowsBy, KeepsPaths}
use Rattle.leak_round.specs.Made.{AreRoundsMade, IsRoundMade}
use Rattle.leak_round.specs.Tables.{tables_in, kept_in, entry_uses, AreFull, AreRoundsFull}
use Rattle.leak_round.proofs.Counting.{more_entries, no_entries, none_some}
use Rattle.leak_round.proofs.Listing.{got_before, got_either, got_last}
use Rattle.leak_round.proofs.Keeping.{keeps_itself, keeps_on, grows_on, full_kept, all_kept}

got_past : {X : Type 0} (xs : List X) → slice_get xs (length xs) ≡ None
got_past [] = refl
got_past (x ∷ xs) = got_past xs

-- so many rounds, each of which fits the one before, are made since the pool was this one
pub record AreRoundsSoFar (Fits : ℕ → PrefixValue → (ℕ → Option Entry) → (ℕ → Option Entry) → Type 0) (plan : Plan) (first pool : PathPool) (number : ℕ) (rounds : List RoundTables) : Type 0 where
  pub count : length rounds ≡ number
  pub keeps : KeepsPaths first pool
  pub holds : (k : ℕ) → holds_of pool k ≡ holds_of first k + entry_uses rounds k
  pub fits : (before : ℕ) (p : PrefixValue) → before < length rounds → IsTrue (has_prefix plan p) → Fits before p (kept_in pool rounds before p) (kept_in pool rounds (suc before) p)
  pub full : AreRoundsFull pool plan rounds
  pub cells : HasEntries (of_rounds (kept_in pool rounds)) (live_count pool - live_count first)
  pub grows : GrowsBy first pool (150000 * (number * length (prefixes_of plan)))

module _ (Fits : ℕ → PrefixValue → (ℕ → Option Entry) → (ℕ → Option Entry) → Type 0) (plan : Plan) (first : PathPool) where
  -- no round yet
  pub rounds_start : (rounds : List RoundTables) → rounds ≡ [] → AreRoundsSoFar Fits plan first first 0 rounds
  rounds_start rounds is = subst (AreRoundsSoFar Fits plan first first 0) (sym is) (record {
    count = refl;
    keeps = keeps_itself first;
    holds = λ k. omega arith;
    fits = λ before p less known. absurd (omega (arith, less));
    full = λ round tables at. absurd (none_some (tables_in [] round) (nothing round) (subst IsSome (sym at) refl));
    cells = no_entries (of_rounds (kept_in first [])) (live_count first - live_count first) (omega arith);
    grows = record { cells = omega arith; counts = λ k. omega arith; limit = refl };
  })
    where
      nothing : (round : ℕ) → tables_in [] round ≡ None
      nothing zero = refl
      nothing (suc i) = refl

  module _ (pool next : PathPool) (number : ℕ) (rounds : List RoundTables) (t : RoundTables) (so_far : AreRoundsSoFar Fits plan first pool number rounds) (made : IsRoundMade pool next plan t) where
    earlier_round : (round : ℕ) → round ≤ length rounds → tables_in (rounds ++ t ∷ []) round ≡ tables_in rounds round
    earlier_round zero within = refl
    earlier_round (suc i) within = got_before rounds t i (omega arith)

    -- what was kept is kept
    kept_still : (round : ℕ) → round ≤ length rounds → (p : PrefixValue) (a : ℕ) → kept_in next (rounds ++ t ∷ []) round p a ≡ kept_in pool rounds round p a
    kept_still round within p a = ap (option_and_then (λ (x : RoundTables). round_routing next x p a)) (earlier_round round within) ∙ all_kept pool next made.keeps plan rounds so_far.full round p a

    kept_new : (p : PrefixValue) (a : ℕ) → kept_in next (rounds ++ t ∷ []) (suc (length rounds)) p a ≡ round_routing next t p a
    kept_new p a = ap (option_and_then (λ (x : RoundTables). round_routing next x p a)) (got_last rounds t)

    module _ (fits : (p : PrefixValue) → IsTrue (has_prefix plan p) → Fits (length rounds) p (kept_in pool rounds (length rounds) p) (round_routing next t p)) where
      fits_at : (before : ℕ) (p : PrefixValue) → (before < length rounds) ⊎ (before ≡ length rounds) → IsTrue (has_prefix plan p) → Fits before p (kept_in next (rounds ++ t ∷ []) before p) (kept_in next (rounds ++ t ∷ []) (suc before) p)
      fits_at before p (inl less) known =
          let one = kept_still before (omega (arith, less)) p in
          let two = kept_still (suc before) (omega (arith, less)) p in
          coe 1 0 (i. Fits before p (λ a. one a i) (λ a. two a i)) (so_far.fits before p less known)
      fits_at before p (inr e) known =
          let one = kept_still (length rounds) (omega arith) p in
          let two = kept_new p in
          let last = coe 1 0 (i. Fits (length rounds) p (λ a. one a i) (λ a. two a i)) (fits p known) in
          subst (λ n. Fits n p (kept_in next (rounds ++ t ∷ []) n p) (kept_in next (rounds ++ t ∷ []) (suc n) p)) (sym e) last

      full_at : (round : ℕ) (tables : RoundTables) → tables_in (rounds ++ t ∷ []) round ≡ Some tables → AreFull next plan tables
      full_at zero tables e = cc
      full_at (suc i) tables e = elim (got_either rounds t i tables e) [
        | inl before ↦ full_kept pool next made.keeps plan tables (so_far.full (suc i) tables before)
        | inr same ↦ subst (AreFull next plan) same made.full
      ]

      entry_still : (x : ℕ × (PrefixValue × ℕ)) → IsSome (of_rounds (kept_in pool rounds) x) → IsSome (of_rounds (kept_in next (rounds ++ t ∷ [])) x)
      entry_still x h = elim (cases_lt (length rounds) x.0) [
        | inl past ↦ absurd (none_some (kept_in pool rounds x.0 x.1.0 x.1.1) (ap (option_and_then (λ (y : RoundTables). round_routing pool y x.1.0 x.1.1)) (none_past x.0 past)) h)
        | inr within ↦ subst IsSome (sym (kept_still x.0 within x.1.0 x.1.1)) h
      ]
        where
          none_at : (xs : List RoundTables) (i : ℕ) → length xs ≤ i → slice_get xs i ≡ None
          none_at [] i less = refl
          none_at (y ∷ xs) zero less = absurd (omega arith)
          none_at (y ∷ xs) (suc i) less = none_at xs i (omega arith)

          none_past : (round : ℕ) → length rounds < round → tables_in rounds round ≡ None
          none_past zero past = refl
          none_past (suc i) past = none_at rounds i (omega arith)

      -- one round more
      pub rounds_more : (new : List RoundTables) → new ≡ rounds ++ t ∷ [] → AreRoundsSoFar Fits plan first next (number + 1) new
      rounds_more new is = subst (AreRoundsSoFar Fits plan first next (number + 1)) (sym is) (record {
        count = omega (arith, length-append rounds (t ∷ []), so_far.count);
        keeps = keeps_on first pool next so_far.keeps made.keeps;
        holds = λ k. omega (arith, sum_by_push (λ (x : RoundTables). tables_uses x k) rounds t, made.holds k, so_far.holds k);
        fits = λ before p less known. fits_at before p (which before less) known;
        full = full_at;
        cells = more_entries (of_rounds (kept_in pool rounds)) (of_rounds (kept_in next (rounds ++ t ∷ []))) (of_round (round_routing next t)) (λ x. (suc (length rounds), x)) (λ x y e. ap (λ (z : ℕ × (PrefixValue × ℕ)). z.1) e)
            (λ x. ap (option_and_then (λ (y : RoundTables). round_routing pool y x.0 x.1)) (got_past rounds)) entry_still (λ x h. subst IsSome (sym (kept_new x.0 x.1)) h)
            (live_count pool - live_count first) (live_count next - live_count pool) so_far.cells made.cells (live_count next - live_count first) (omega arith);
        grows = (let size = length (prefixes_of plan) in grows_on first pool next (150000 * (number * size)) (150000 * size) (150000 * ((number + 1) * size)) so_far.grows made.grows (omega arith));
      })
        where
          which : (before : ℕ) → before < length (rounds ++ t ∷ []) → (before < length rounds) ⊎ (before ≡ length rounds)
          which before less = elim (cases_eq before (length rounds)) [ inl e ↦ inr e | inr ne ↦ inl (omega (arith, less, length-append rounds (t ∷ []))) ]

  -- the tables of the rounds so far are made
  pub rounds_made : (pool : PathPool) (rounds : List RoundTables) (number all : ℕ) → AreRoundsSoFar Fits plan first pool number rounds → number ≡ all → AreRoundsMade first pool plan all rounds
  rounds_made pool rounds number all so_far whole = record {
    count = so_far.count ∙ whole;
    full = so_far.full;
    holds = so_far.holds;
    cells = so_far.cells;
    keeps = so_far.keeps;
    grows = subst (λ (n : ℕ). GrowsBy first pool (150000 * (n * length (prefixes_of plan)))) whole so_far.grows;
  }
