-- The tables of a round, one by one.
use Rattle.std.proofs.Common.{◌≡◌, ◌≢◌, ◌⊎◌, inl, inr, ℕ, ◌+◌, ◌-◌, ◌*◌, ◌<◌, ◌≤◌, Bool, true, false, Option, Some, None, option_map, unwrap_or, length, refl, sym, ap, subst, ◌∙◌, arith}
use Rattle.std.specs.Prelude.{IsSome, IsTrue, is_some, slice_get, option_and_then}
use Rattle.std.proofs.lemmas.Bool.{cases_Bool, cases_lt}
use Rattle.std.specs.Ordering.{eq_by_cmp}
use Rattle.net_names.specs.Prefixes.{PrefixValue, prefix_cmp}
use Rattle.path_pool.specs.declared.pool.PathPool.{PathPool}
use Rattle.path_pool.specs.Pool.{holds_of, live_count}
use Rattle.stability_laws.specs.declared.entry.Entry.{Entry}
use Rattle.stability_laws.specs.Plans.{Plan, ListsRising, has_prefix, prefixes_of}
use Rattle.stability_laws.proofs.KeyLists.{eq_is, eq_same, apart_later, seen_before_end}
use Rattle.net_names.specs.Orders.{exact_prefix, prefix_total}
use Rattle.route_choice.specs.declared.round_tables.RoundTables.{RoundTables}
use Rattle.route_choice.specs.declared.table.Table.{Table}
use Rattle.route_choice.specs.Resources.{AreEntriesLive}
use Rattle.route_choice.specs.Routings.{table_routing}
use Rattle.route_choice.specs.RoundTables.{table_at, tables_uses, uses_at, round_routing, AreAllLive, AreByPrefix, PutsTable}
use Rattle.route_choice.specs.Tables.{table_uses}
use Rattle.leak_round.specs.Entries.{HasEntries}
use Rattle.leak_round.specs.Growth.{KeepsPaths, GrowsBy}
use Rattle.leak_round.specs.Made.{IsRoundMade}
use Rattle.leak_round.specs.Tables.{AreFull, AreOfSize}
use Rattle.leak_round.proofs.Counting.{more_entries, no_entries, none_some}
use Rattle.leak_round.proofs.Keeping.{keeps_itself, keeps_on, grows_on, round_kept, live_kept}
use Rattle.stability_laws.proofs.Listing.{at_next}
use Rattle.leak_round.proofs.Sums.{sum_by-zero, sum_by-change}

pub same_or_not : (p q : PrefixValue) → (p ≡ q) ⊎ (p ≢ q)
same_or_not p q = elim (cases_Bool (eq_by_cmp prefix_cmp p q)) [
  | inl e ↦ inl (eq_is prefix_total exact_prefix p q e)
  | inr e ↦ inr (λ same. (let t = eq_same prefix_total exact_prefix p q same in cc))
]

-- one table more, or another one, of at most so many entries with one path
pub sized : (plan : Plan) → ListsRising prefix_cmp (λ p. IsTrue (has_prefix plan p)) (prefixes_of plan) → (old new : RoundTables) (prefix : PrefixValue) (t : Table) (place : ℕ) → slice_get (prefixes_of plan) place ≡ Some prefix
    → PutsTable old new prefix t → AreOfSize plan old → ((k : ℕ) → table_uses t k ≤ 150000) → AreOfSize plan new
sized plan listed old new prefix t place at puts size small = record {
  sums = λ k. (let sum = sum_by-change (λ p. uses_at old p k) (λ p. uses_at new p k) (prefixes_of plan) place prefix at (λ j q is ne. other q k (apart j q is ne)) in omega (arith, puts.uses k, size.sums k, this k, sum));
  small = λ p k. elim (same_or_not p prefix) [
    | inl e ↦ subst (λ q. uses_at new q k ≤ 150000) (sym e) (omega (arith, this k, small k))
    | inr ne ↦ omega (arith, other p k ne, size.small p k)
  ];
}
  where
    this : (k : ℕ) → uses_at new prefix k ≡ table_uses t k
    this k = ap (λ o. unwrap_or (option_map (λ (x : Table). table_uses x k) o) 0) puts.this

    other : (p : PrefixValue) (k : ℕ) → p ≢ prefix → uses_at new p k ≡ uses_at old p k
    other p k ne = ap (λ o. unwrap_or (option_map (λ (x : Table). table_uses x k) o) 0) (puts.others p ne)

    apart : (j : ℕ) (q : PrefixValue) → slice_get (prefixes_of plan) j ≡ Some q → j ≢ place → q ≢ prefix
    apart j q is ne = elim (cases_lt j place) [
      | inl less ↦ apart_later prefix_cmp prefix_total (λ p. IsTrue (has_prefix plan p)) (prefixes_of plan) listed j place q prefix less is at
      | inr more ↦ λ e. apart_later prefix_cmp prefix_total (λ p. IsTrue (has_prefix plan p)) (prefixes_of plan) listed place j prefix q (omega (arith, more, ne)) at is (sym e)
    ]

-- the tables of the prefixes before a place, each of which fits: since the round began, the pool keeps its paths and grows by so many tables
pub record IsRoundSoFar (Fits : PrefixValue → (ℕ → Option Entry) → Type 0) (plan : Plan) (first pool : PathPool) (tables : RoundTables) (place : ℕ) : Type 0 where
  pub keeps : KeepsPaths first pool
  pub grows : GrowsBy first pool (150000 * place)
  pub holds : (k : ℕ) → holds_of pool k ≡ holds_of first k + tables_uses tables k
  pub fits : (p : PrefixValue) → IsSome (table_at tables p) → Fits p (round_routing pool tables p)
  pub live : AreAllLive pool tables
  pub by_prefix : AreByPrefix tables
  pub only : (p : PrefixValue) → IsSome (table_at tables p) → (i : ℕ) × (i < place) × (slice_get (prefixes_of plan) i ≡ Some p)
  pub put : (i : ℕ) (p : PrefixValue) → i < place → slice_get (prefixes_of plan) i ≡ Some p → IsSome (table_at tables p)
  pub cells : HasEntries (λ (x : PrefixValue × ℕ). round_routing pool tables x.0 x.1) (live_count pool - live_count first)
  pub size : AreOfSize plan tables

module _ (Fits : PrefixValue → (ℕ → Option Entry) → Type 0) (plan : Plan) (first : PathPool) where
  -- no table yet
  pub round_start : (tables : RoundTables) → ((p : PrefixValue) → table_at tables p ≡ None) → ((k : ℕ) → tables_uses tables k ≡ 0) → IsRoundSoFar Fits plan first first tables 0
  round_start tables none unused = record {
    keeps = keeps_itself first;
    grows = record { cells = omega arith; counts = λ k. omega arith; limit = refl };
    holds = λ k. omega (arith, unused k);
    fits = λ p h. absurd (none_some (table_at tables p) (none p) h);
    live = λ p t at. absurd (none_some (table_at tables p) (none p) (subst IsSome (sym at) refl));
    by_prefix = λ p t at. absurd (none_some (table_at tables p) (none p) (subst IsSome (sym at) refl));
    only = λ p h. absurd (none_some (table_at tables p) (none p) h);
    put = λ i p less at. absurd (omega (arith, less));
    cells = no_entries (λ (x : PrefixValue × ℕ). round_routing first tables x.0 x.1) (live_count first - live_count first) (omega arith);
    size = record {
      sums = λ k. unused k ∙ sym (sum_by-zero (λ p. uses_at tables p k) (prefixes_of plan) (λ p. unused_at p k));
      small = λ p k. omega (arith, unused_at p k);
    };
  }
    where
      unused_at : (p : PrefixValue) (k : ℕ) → uses_at tables p k ≡ 0
      unused_at p k = ap (λ o. unwrap_or (option_map (λ (x : Table). table_uses x k) o) 0) (none p)

  module _ (pool next : PathPool) (tables more : RoundTables) (place : ℕ) (prefix : PrefixValue) (t : Table) (so_far : IsRoundSoFar Fits plan first pool tables place) (listed : ListsRising prefix_cmp (λ p. IsTrue (has_prefix plan p)) (prefixes_of plan)) (at : slice_get (prefixes_of plan) place ≡ Some prefix) where
    -- a prefix has no table before its turn
    pub none_yet : table_at tables prefix ≡ None
    none_yet = by (table_at tables prefix) refl
      where
        by : (o : Option Table) → table_at tables prefix ≡ o → o ≡ None
        by None e = refl
        by (Some x) e =
            let (i, less, is) = so_far.only prefix (subst IsSome (sym e) refl) in
            absurd (apart_later prefix_cmp prefix_total (λ p. IsTrue (has_prefix plan p)) (prefixes_of plan) listed i place prefix prefix less is at refl)

    module _ (keeps : KeepsPaths pool next) (grows : GrowsBy pool next 150000) (holds : (k : ℕ) → holds_of next k ≡ holds_of pool k + table_uses t k) (live : AreEntriesLive next t)
        (fits : Fits prefix (table_routing next t)) (cells : HasEntries (table_routing next t) (live_count next - live_count pool)) (puts : PutsTable tables more prefix t) (by_prefix : AreByPrefix tables → AreByPrefix more) (small : (k : ℕ) → table_uses t k ≤ 150000) where
      here : (p : PrefixValue) → p ≡ prefix → (a : ℕ) → round_routing next more p a ≡ table_routing next t a
      here p e a = ap (λ q. round_routing next more q a) e ∙ ap (option_and_then (λ (x : Table). table_routing next x a)) puts.this

      there : (p : PrefixValue) → p ≢ prefix → (a : ℕ) → round_routing next more p a ≡ round_routing pool tables p a
      there p ne a = ap (option_and_then (λ (x : Table). table_routing next x a)) (puts.others p ne) ∙ round_kept pool next keeps tables so_far.live p a

      fits_at : (p : PrefixValue) → (p ≡ prefix) ⊎ (p ≢ prefix) → IsSome (table_at more p) → Fits p (round_routing next more p)
      fits_at p (inl e) h = coe 1 0 (i. Fits (e i) (λ a. here p e a i)) fits
      fits_at p (inr ne) h = coe 1 0 (i. Fits p (λ a. there p ne a i)) (so_far.fits p (subst IsSome (puts.others p ne) h))

      live_at : (p : PrefixValue) (x : Table) → (p ≡ prefix) ⊎ (p ≢ prefix) → table_at more p ≡ Some x → AreEntriesLive next x
      live_at p x (inl e) is =
          let both : Some t ≡ Some x = sym puts.this ∙ ap (table_at more) (sym e) ∙ is in
          let one : t ≡ x = cc in
          subst (AreEntriesLive next) one live
      live_at p x (inr ne) is = live_kept pool next keeps tables so_far.live p x (sym (puts.others p ne) ∙ is)

      only_at : (p : PrefixValue) → (p ≡ prefix) ⊎ (p ≢ prefix) → IsSome (table_at more p) → (i : ℕ) × (i < place + 1) × (slice_get (prefixes_of plan) i ≡ Some p)
      only_at p (inl e) h = (place, omega arith, at ∙ ap (λ q. Some q) (sym e))
      only_at p (inr ne) h = let (i, less, is) = so_far.only p (subst IsSome (puts.others p ne) h) in (i, omega arith, is)

      still : (p : PrefixValue) → (p ≡ prefix) ⊎ (p ≢ prefix) → IsSome (table_at tables p) → IsSome (table_at more p)
      still p (inl e) h = absurd (none_some (table_at tables p) (ap (table_at tables) e ∙ none_yet) h)
      still p (inr ne) h = subst IsSome (sym (puts.others p ne)) h

      entry_still : (x : PrefixValue × ℕ) → (x.0 ≡ prefix) ⊎ (x.0 ≢ prefix) → IsSome (round_routing pool tables x.0 x.1) → IsSome (round_routing next more x.0 x.1)
      entry_still x (inl e) h = absurd (none_some (round_routing pool tables x.0 x.1) (ap (λ p. round_routing pool tables p x.1) e ∙ ap (option_and_then (λ (y : Table). table_routing pool y x.1)) none_yet) h)
      entry_still x (inr ne) h = subst IsSome (sym (there x.0 ne x.1)) h

      -- one table more
      pub round_more : IsRoundSoFar Fits plan first next more (place + 1)
      round_more = record {
        keeps = keeps_on first pool next so_far.keeps keeps;
        grows = grows_on first pool next (150000 * place) 150000 (150000 * (place + 1)) so_far.grows grows (omega arith);
        holds = λ k. (let none : uses_at tables prefix k ≡ 0 = ap (λ o. unwrap_or (option_map (λ (x : Table). table_uses x k) o) 0) none_yet in omega (arith, holds k, so_far.holds k, puts.uses k, none));
        fits = λ p h. fits_at p (same_or_not p prefix) h;
        live = λ p x is. live_at p x (same_or_not p prefix) is;
        by_prefix = by_prefix so_far.by_prefix;
        only = λ p h. only_at p (same_or_not p prefix) h;
        put = at_next (prefixes_of plan) place prefix (λ p. IsSome (table_at more p)) at (subst IsSome (sym puts.this) refl) (λ i p less is. still p (same_or_not p prefix) (so_far.put i p less is));
        cells = more_entries (λ (x : PrefixValue × ℕ). round_routing pool tables x.0 x.1) (λ (x : PrefixValue × ℕ). round_routing next more x.0 x.1) (table_routing next t) (λ a. (prefix, a)) (λ a b e. ap (λ (x : PrefixValue × ℕ). x.1) e)
            (λ a. ap (option_and_then (λ (y : Table). table_routing pool y a)) none_yet) (λ x h. entry_still x (same_or_not x.0 prefix) h) (λ a h. subst IsSome (sym (here prefix refl a)) h)
            (live_count pool - live_count first) (live_count next - live_count pool) so_far.cells cells (live_count next - live_count first) (omega arith);
        size = sized plan listed tables more prefix t place at puts so_far.size small;
      }

  module _ (pool : PathPool) (tables : RoundTables) (end : ℕ) (so_far : IsRoundSoFar Fits plan first pool tables end) (listed : ListsRising prefix_cmp (λ p. IsTrue (has_prefix plan p)) (prefixes_of plan)) (past : slice_get (prefixes_of plan) end ≡ None) where
    all_put : (p : PrefixValue) → IsTrue (has_prefix plan p) → IsSome (table_at tables p)
    all_put p known = let (i, less, is) = seen_before_end prefix_cmp (λ q. IsTrue (has_prefix plan q)) (prefixes_of plan) listed end past p known in so_far.put i p less is

    -- all tables of the round are there
    pub round_full : AreFull pool plan tables
    round_full = record { there = λ p. by p (has_prefix plan p) refl (is_some (table_at tables p)) refl; by_prefix = so_far.by_prefix; live = so_far.live; size = so_far.size }
      where
        by : (p : PrefixValue) (b : Bool) → has_prefix plan p ≡ b → (d : Bool) → is_some (table_at tables p) ≡ d → d ≡ b
        by p true known true is = refl
        by p true known false is = let there : is_some (table_at tables p) ≡ true = all_put p known in cc
        by p false known false is = refl
        by p false known true is = let (i, less, e) = so_far.only p is in let known' : has_prefix plan p ≡ true = listed.only i p e in cc

    -- and each fits
    pub round_fits : (p : PrefixValue) → IsTrue (has_prefix plan p) → Fits p (round_routing pool tables p)
    round_fits p known = so_far.fits p (all_put p known)

    -- so the round is made
    pub round_made : end ≤ length (prefixes_of plan) → IsRoundMade first pool plan tables
    round_made within = record {
      full = round_full;
      holds = so_far.holds;
      cells = so_far.cells;
      keeps = so_far.keeps;
      grows = (let h = so_far.grows in record { cells = omega (arith, h.cells, within); counts = λ k. omega (arith, h.counts k, within); limit = h.limit });
    }
