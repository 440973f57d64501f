-- Changes of tables, one put in place after the other.
use Rattle.std.proofs.Common.{◌≡◌, ◌≢◌, ◌⊎◌, inl, inr, ℕ, zero, suc, ◌+◌, ◌-◌, ◌<◌, ◌≤◌, Bool, true, false, ◌==◌, cond, Option, Some, None, option_map, unwrap_or, List, [], ◌∷◌, ◌++◌, length, get_or, set, refl, sym, ap, ◌∙◌, arith}
use Rattle.std.specs.Prelude.{slice_get, option_and_then}
use Rattle.std.proofs.lemmas.Bool.{true≢false, and_parts, cases_eq, eq-eqb, eqb-true}
use Rattle.std.proofs.lemmas.List.{length-set}
use Rattle.std.proofs.lemmas.List.Sums.{sum_by-set}
use Rattle.std.proofs.lemmas.Option.{slice_get_within, get_or_from_slice_get}
use Rattle.std.proofs.lemmas.Grind.{common_steps}
use Rattle.net_names.specs.declared.addresses.Family.{Family}
use Rattle.net_names.specs.declared.addresses.Family.TheVariants.{V4, V6}
use Rattle.net_names.specs.Prefixes.{PrefixValue}
use Rattle.net_names.specs.contracts.prefixes.PrefixPartialEq.TheImpl as same_prefix
use Rattle.path_pool.specs.declared.pool.PathPool.{PathPool}
use Rattle.path_pool.specs.Pool.{holds_of}
use Rattle.route_choice.specs.declared.round_tables.RoundTables.{RoundTables}
use Rattle.route_choice.specs.declared.table.Table.{Table}
use Rattle.route_choice.specs.Routings.{entry_of, table_routing}
use Rattle.route_choice.specs.RoundTables.{table_at, tables_uses, uses_at, round_routing}
use Rattle.route_choice.specs.Slots.{over}
use Rattle.route_choice.specs.Tables.{held_at, change_at, overlay_uses, table_uses}
use Rattle.route_choice.proofs.RoundLemmas.{same_prefixes, uses_at-le}
use Rattle.dirty_recompute.proofs.CrowdLemmas.{set_get, set_keeps}
use Rattle.leak_round.specs.declared.changes.Change.{Change}
use Rattle.leak_round.specs.Tables.{tables_in, kept_in, entry_uses}
use Rattle.leak_round.specs.Overlays.{table_in, held_of, is_at, change_in, held_with, FitsIn, CanPut, IsPut, AreChangesOf, IsCommitted}
use Rattle.leak_round.proofs.Listing.{got_first, got_last}
use Rattle.leak_round.proofs.Sums.{sum_by-one-le}

-- the tables of a round that has one of the prefix
module _ (rounds : List RoundTables) (round : ℕ) (prefix : PrefixValue) (t : Table) (at : table_in rounds round prefix ≡ Some t) where
  pub positive : 0 < round
  positive = by round at
    where
      by : (n : ℕ) → table_in rounds n prefix ≡ Some t → 0 < n
      by zero e = cc
      by (suc n) e = omega arith

  pub tables_there : (r : RoundTables) × (tables_in rounds round ≡ Some r) × (table_at r prefix ≡ Some t)
  tables_there = by (tables_in rounds round) refl at
    where
      by : (o : Option RoundTables) → tables_in rounds round ≡ o → option_and_then (λ tables. table_at tables prefix) o ≡ Some t → (r : RoundTables) × (tables_in rounds round ≡ Some r) × (table_at r prefix ≡ Some t)
      by None is e = cc
      by (Some r) is e = (r, is, e)

-- where the tables of a round stand
pub round_place : (rounds : List RoundTables) (round : ℕ) (r : RoundTables) → tables_in rounds round ≡ Some r → (0 < round) × (slice_get rounds (round - 1) ≡ Some r)
round_place rounds zero r at = cc
round_place rounds (suc n) r at = (omega arith, ap (slice_get rounds) (let same : suc n - 1 ≡ n = omega arith in same) ∙ at)

pub place_round : (rounds : List RoundTables) (round : ℕ) → 0 < round → tables_in rounds round ≡ slice_get rounds (round - 1)
place_round rounds zero some = absurd (omega arith)
place_round rounds (suc n) some = ap (slice_get rounds) (let same : n ≡ suc n - 1 = omega arith in same)

pub uses_in : (rounds : List RoundTables) (round : ℕ) (r : RoundTables) → tables_in rounds round ≡ Some r → (k : ℕ) → tables_uses r k ≤ entry_uses rounds k
uses_in rounds round r at k = sum_by-one-le (λ (t : RoundTables). tables_uses t k) rounds (round - 1) r (round_place rounds round r at).1

pub uses_there : (r : RoundTables) (prefix : PrefixValue) (t : Table) → table_at r prefix ≡ Some t → (k : ℕ) → uses_at r prefix k ≡ table_uses t k
uses_there r prefix t at k = ap (λ o. unwrap_or (option_map (λ (x : Table). table_uses x k) o) 0) at

pub table_uses_in : (rounds : List RoundTables) (round : ℕ) (prefix : PrefixValue) (t : Table) → table_in rounds round prefix ≡ Some t → (k : ℕ) → table_uses t k ≤ entry_uses rounds k
table_uses_in rounds round prefix t at k =
    let (r, is, here) = tables_there rounds round prefix t at in
    omega (arith, uses_in rounds round r is k, uses_at-le r prefix k, uses_there r prefix t here k)

-- the place of the tables of a change
pub place_within : (rounds : List RoundTables) (x : Change) → FitsIn rounds x → x.round - 1 < length rounds
place_within rounds x fits =
    let (r, is, here) = tables_there rounds x.round x.prefix fits.table fits.at in
    slice_get_within rounds (x.round - 1) r (round_place rounds x.round r is).1

-- one change is put in place
module _ (old : List RoundTables) (x : Change) (fits : FitsIn old x) (before : RoundTables) (read : before ≡ get_or old (x.round - 1) before) where
  before_is : tables_in old x.round ≡ Some before
  before_is =
      let (r, is, here) = tables_there old x.round x.prefix fits.table fits.at in
      let place = round_place old x.round r is in
      is ∙ ap (λ t. Some t) (sym (get_or_from_slice_get old (x.round - 1) r before place.1) ∙ sym read)

  was_is : table_at before x.prefix ≡ Some fits.table
  was_is = sym (ap (option_and_then (λ tables. table_at tables x.prefix)) before_is) ∙ fits.at

  pub can_put : (pool : PathPool) → ((k : ℕ) → entry_uses old k + overlay_uses x.overlay k ≤ holds_of pool k) → CanPut before x.prefix x.overlay pool
  can_put pool held = record {
    was = fits.table;
    at = was_is;
    room = fits.room;
    held = λ k. omega (arith, held k, table_uses_in old x.round x.prefix fits.table fits.at k);
  }

  pub uses_put : (pool pool' : PathPool) (after : RoundTables) (p : IsPut before after x.prefix x.overlay pool pool') (k : ℕ) → entry_uses (set old (x.round - 1) after) k + table_uses p.was k ≡ entry_uses old k + table_uses p.now k
  uses_put pool pool' after p k =
      let place = round_place old x.round before before_is in
      let sum = sum_by-set (λ (t : RoundTables). tables_uses t k) old (x.round - 1) after before (slice_get_within old (x.round - 1) before place.1) in
      let here : tables_uses (get_or old (x.round - 1) before) k ≡ tables_uses before k = ap (λ t. tables_uses t k) (sym read) in
      omega (arith, sum, here, p.puts.uses k, uses_there before x.prefix p.was p.was_at k)

  pub committed : (pool pool' : PathPool) (after : RoundTables) → IsPut before after x.prefix x.overlay pool pool' → IsCommitted old (set old (x.round - 1) after) x
  committed pool pool' after p =
      let place = round_place old x.round before before_is in
      record {
        before = before;
        after = after;
        was = p.was;
        now = p.now;
        count = length-set old (x.round - 1) after;
        before_at = before_is;
        after_at = place_round (set old (x.round - 1) after) x.round place.0 ∙ set_get old (x.round - 1) before after place.1;
        others = other;
        was_at = p.was_at;
        puts = p.puts;
        entries = p.entries;
        prefix = p.prefix_is;
        counted = p.counted;
        uses = uses_put pool pool' after p;
      }
    where
      other : (round : ℕ) → round ≢ x.round → tables_in (set old (x.round - 1) after) round ≡ tables_in old round
      other zero ne = refl
      other (suc n) ne = set_keeps old (x.round - 1) n after (λ e. (let some = (round_place old x.round before before_is).0 in ne (omega (arith, e, some))))

  pub holds_put : (pool pool' : PathPool) (after : RoundTables) → IsPut before after x.prefix x.overlay pool pool' → (k : ℕ) → entry_uses (set old (x.round - 1) after) k + holds_of pool k ≡ entry_uses old k + overlay_uses x.overlay k + holds_of pool' k
  holds_put pool pool' after p k = omega (arith, uses_put pool pool' after p k, p.holds k)

-- what is kept is what is held, with its path
pub kept_is : (pool : PathPool) (rounds : List RoundTables) (round : ℕ) (prefix : PrefixValue) (a : ℕ) → kept_in pool rounds round prefix a ≡ option_map (entry_of pool) (held_of rounds round prefix a)
kept_is pool rounds round prefix a = by (tables_in rounds round)
  where
    at_table : (o : Option Table) → option_and_then (λ t. table_routing pool t a) o ≡ option_map (entry_of pool) (option_and_then (λ t. held_at t a) o)
    at_table None = refl
    at_table (Some t) = refl

    by : (o : Option RoundTables) → option_and_then (λ tables. round_routing pool tables prefix a) o ≡ option_map (entry_of pool) (option_and_then (λ t. held_at t a) (option_and_then (λ tables. table_at tables prefix) o))
    by None = refl
    by (Some r) = at_table (table_at r prefix)

pub itself_at : (f : Family) (b l : ℕ) → (let p : PrefixValue = record { family = f; addr = b; len = l } in (same_prefix.ghosts).eq p p ≡ true)
itself_at V4 b l = grind (arith, common_steps)
itself_at V6 b l = grind (arith, common_steps)

pub here_true : (x : Change) → is_at x.round x.prefix x ≡ true
here_true x = rw (eq-eqb x.round x.round refl, itself_at x.prefix.family x.prefix.addr x.prefix.len) refl

pub is_at-true : (round : ℕ) (prefix : PrefixValue) (x : Change) → is_at round prefix x ≡ true → (x.round ≡ round) × (x.prefix ≡ prefix)
is_at-true round prefix x e = let parts = and_parts (x.round == round) ((same_prefix.ghosts).eq x.prefix prefix) e in (eqb-true x.round round parts.0, same_prefixes x.prefix prefix parts.1)

pub apart_false : (round : ℕ) (prefix : PrefixValue) (x : Change) → (x.round ≢ round) ⊎ (x.prefix ≢ prefix) → is_at round prefix x ≡ false
apart_false round prefix x apart = by (is_at round prefix x) refl
  where
    by : (b : Bool) → is_at round prefix x ≡ b → b ≡ false
    by false e = refl
    by true e = (let (r, p) = is_at-true round prefix x e in elim apart [ inl ne ↦ absurd (ne r) | inr ne ↦ absurd (ne p) ])

-- where no change is of the table there is none
pub change_in-none : (xs : List Change) (round : ℕ) (prefix : PrefixValue) → ((i : ℕ) (y : Change) → slice_get xs i ≡ Some y → is_at round prefix y ≡ false) → (a : ℕ) → change_in xs round prefix a ≡ None
change_in-none [] round prefix none a = refl
change_in-none (y ∷ xs) round prefix none a =
    ap (λ b. cond b (change_at y.overlay a) (change_in xs round prefix a)) (none 0 y refl) ∙ change_in-none xs round prefix (λ i z at. none (suc i) z at) a

pub change_in-last : (xs : List Change) (x : Change) (round : ℕ) (prefix : PrefixValue) → ((i : ℕ) (y : Change) → slice_get xs i ≡ Some y → is_at round prefix y ≡ false) → (a : ℕ) → change_in (xs ++ x ∷ []) round prefix a ≡ cond (is_at round prefix x) (change_at x.overlay a) None
change_in-last [] x round prefix none a = refl
change_in-last (y ∷ xs) x round prefix none a =
    ap (λ b. cond b (change_at y.overlay a) (change_in (xs ++ x ∷ []) round prefix a)) (none 0 y refl) ∙ change_in-last xs x round prefix (λ i z at. none (suc i) z at) a

pub change_in-first : (xs : List Change) (x : Change) (round : ℕ) (prefix : PrefixValue) (a : ℕ) → is_at round prefix x ≡ false → change_in (xs ++ x ∷ []) round prefix a ≡ change_in xs round prefix a
change_in-first [] x round prefix a other = ap (λ b. cond b (change_at x.overlay a) None) other
change_in-first (y ∷ xs) x round prefix a other = ap (λ o. cond (is_at round prefix y) (change_at y.overlay a) o) (change_in-first xs x round prefix a other)

-- a change after which all others are left
module _ (old new : List RoundTables) (xs : List Change) (x : Change) (w : AreChangesOf old (xs ++ x ∷ [])) (c : IsCommitted old new x) where
  -- no other change is of the same table
  pub others_apart : (round : ℕ) (prefix : PrefixValue) → is_at round prefix x ≡ true → (i : ℕ) (y : Change) → slice_get xs i ≡ Some y → is_at round prefix y ≡ false
  others_apart round prefix here i y at =
      let (r, p) = is_at-true round prefix x here in
      let apart = w.apart i (length xs) y x (slice_get_within xs i y at) (got_first xs x i y at) (got_last xs x) in
      apart_false round prefix y (elim apart [ inl ne ↦ inl (λ e. ne (e ∙ sym r)) | inr ne ↦ inr (λ e. ne (e ∙ sym p)) ])

  pub table_other : (round : ℕ) (prefix : PrefixValue) → (round ≢ x.round) ⊎ (prefix ≢ x.prefix) → table_in new round prefix ≡ table_in old round prefix
  table_other round prefix apart = elim (cases_eq round x.round) [
    | inr ne ↦ ap (option_and_then (λ (r : RoundTables). table_at r prefix)) (c.others round ne)
    | inl e ↦ elim apart [
      | inl ne ↦ absurd (ne e)
      | inr ne ↦
          ap (λ n. table_in new n prefix) e ∙ ap (option_and_then (λ (r : RoundTables). table_at r prefix)) c.after_at ∙ c.puts.others prefix ne
          ∙ sym (ap (λ n. table_in old n prefix) e ∙ ap (option_and_then (λ (r : RoundTables). table_at r prefix)) c.before_at)
    ]
  ]

  pub table_now : table_in new x.round x.prefix ≡ Some c.now
  table_now = ap (option_and_then (λ (r : RoundTables). table_at r x.prefix)) c.after_at ∙ c.puts.this

  pub table_was : table_in old x.round x.prefix ≡ Some c.was
  table_was = ap (option_and_then (λ (r : RoundTables). table_at r x.prefix)) c.before_at ∙ c.was_at

  -- what is held with all changes in place is as before
  pub held_same : (round : ℕ) (prefix : PrefixValue) (a : ℕ) → held_with new xs round prefix a ≡ held_with old (xs ++ x ∷ []) round prefix a
  held_same round prefix a = by (is_at round prefix x) refl
    where
      by : (b : Bool) → is_at round prefix x ≡ b → held_with new xs round prefix a ≡ held_with old (xs ++ x ∷ []) round prefix a
      by true here =
          let (r, p) = is_at-true round prefix x here in
          let none = others_apart round prefix here in
          let now : table_in new round prefix ≡ Some c.now = sym (λ i. table_in new (r i) (p i)) ∙ table_now in
          let was : table_in old round prefix ≡ Some c.was = sym (λ i. table_in old (r i) (p i)) ∙ table_was in
          ap (λ o. over o (held_of new round prefix a)) (change_in-none xs round prefix none a)
          ∙ ap (option_and_then (λ (t : Table). held_at t a)) now
          ∙ c.entries a
          ∙ sym (ap (λ o. over o (held_of old round prefix a)) (change_in-last xs x round prefix none a ∙ ap (λ b. cond b (change_at x.overlay a) None) here) ∙ ap (λ o. over (change_at x.overlay a) (option_and_then (λ (t : Table). held_at t a) o)) was)
      by false other =
          let same : table_in new round prefix ≡ table_in old round prefix = table_other round prefix (elim (cases_eq round x.round) [
            | inr ne ↦ inl ne
            | inl e ↦ inr (λ q. true≢false (sym (here_true x) ∙ sym (λ i. is_at (e i) (q i) x) ∙ other))
          ]) in
          ap (λ o. over (change_in xs round prefix a) (option_and_then (λ (t : Table). held_at t a) o)) same
          ∙ ap (λ o. over o (held_of old round prefix a)) (sym (change_in-first xs x round prefix a other))

  -- the others have their tables still
  pub left_changes : AreChangesOf new xs
  left_changes = record {
    fits = λ i y at.
        (let f = w.fits i y (got_first xs x i y at) in
        let apart = w.apart i (length xs) y x (slice_get_within xs i y at) (got_first xs x i y at) (got_last xs x) in
        record { table = f.table; at = table_other y.round y.prefix apart ∙ f.at; room = f.room });
    apart = λ i j y z less at at'. w.apart i j y z less (got_first xs x i y at) (got_first xs x j z at');
    listed = λ i y at. w.listed i y (got_first xs x i y at);
  }
