-- Prefixes as keys, and how often the tables of a round use a path.
use Rattle.std.proofs.Common.{◌≡◌, ◌≢◌, ℕ, zero, suc, ◌+◌, ◌≤◌, Bool, true, false, List, Option, Some, None, option_map, unwrap_or, slice_get, ◌∷◌, [], refl, ap, sym, ◌∙◌, arith, rules, true≢false}
use Rattle.std.specs.Prelude.{is_some}
use Rattle.std.specs.List.{sum_by}
use Rattle.std.specs.Map.{keys_of, values_of, set_value}
use Rattle.std.proofs.lemmas.Grind.{common_steps}
use Rattle.std.proofs.lemmas.List.{map-append}
use Rattle.std.proofs.lemmas.List.Sums.{sum_by-cons, sum_by_push}
use Rattle.std.proofs.lemmas.Option.{slice_get-map}
use Rattle.std.proofs.lemmas.Map.Entries.{lookup_from_place, sum_by-set_value, sum_by-remove_entry}
use Rattle.indexmap.specs.IndexMap.{get, insert_entry, set_value_at, with_value_at, IsUnique, Updates, UpdatesBy, WritesThrough}
use Rattle.indexmap.proofs.CallerLemmas.{insert_entry-new, updates-with_value_at}
use Rattle.net_names.specs.declared.addresses.Family.{Family}
use Rattle.net_names.specs.declared.addresses.Family.TheVariants.{V4, V6}
use Rattle.net_names.specs.Prefixes.{PrefixValue as Prefix}
use Rattle.net_names.specs.contracts.prefixes.PrefixPartialEq.TheImpl as same_prefix
use Rattle.net_names.specs.contracts.prefixes.PrefixEq.TheImpl.Laws.{laws-law}
use Rattle.path_pool.specs.declared.pool.PathPool.{PathPool}
use Rattle.path_pool.specs.Pool.{holds_of}
use Rattle.route_choice.specs.declared.table.Table.{Table}
use Rattle.route_choice.specs.declared.round_tables.RoundTables.{RoundTables}
use Rattle.route_choice.specs.Tables.{table_uses}
use Rattle.route_choice.specs.RoundTables.{table_at, tables_uses, uses_at, AreAllLive, PutsTable}
use Rattle.route_choice.proofs.Lists.{entry_live}

prefix_of : Family → ℕ → ℕ → Prefix
prefix_of f a l = record { family = f; addr = a; len = l }

same_at : (f g : Family) (a b l m : ℕ) → (same_prefix.ghosts).eq (prefix_of f a l) (prefix_of g b m) ≡ true → prefix_of f a l ≡ prefix_of g b m
unfolding prefix_of
same_at V4 V4 a b l m e = grind (arith, common_steps)
same_at V4 V6 a b l m e = grind (arith, common_steps)
same_at V6 V4 a b l m e = grind (arith, common_steps)
same_at V6 V6 a b l m e = grind (arith, common_steps)

-- prefixes that are equal as keys are the same
pub same_prefixes : (p q : Prefix) → (same_prefix.ghosts).eq p q ≡ true → p ≡ q
unfolding prefix_of
same_prefixes p q e = same_at p.family q.family p.addr q.addr p.len q.len e

-- prefixes that are apart differ as keys
pub apart_prefixes : (p q : Prefix) → q ≢ p → (same_prefix.ghosts).eq p q ≡ false
apart_prefixes p q apart = by ((same_prefix.ghosts).eq p q) refl
  where
    by : (b : Bool) → (same_prefix.ghosts).eq p q ≡ b → b ≡ false
    by false e = refl
    by true e = absurd (apart (sym (same_prefixes p q e)))

-- the key of an entry is the one that stands at its index
pub key_is : (es : List (Prefix × Table)) (i : ℕ) (k p : Prefix) (t : Table) → slice_get (keys_of es) i ≡ Some p → Some (k, t) ≡ slice_get es i → k ≡ p
key_is es i k p t at entry = ap (λ o. unwrap_or o k) (ap (option_map (λ (e : Prefix × Table). e.0)) entry ∙ sym (slice_get-map (λ (e : Prefix × Table). e.0) es i) ∙ at)

-- the key and the value at an index are the entry there
pair_at : (es : List (Prefix × Table)) (i : ℕ) (p : Prefix) (t : Table) → slice_get (keys_of es) i ≡ Some p → slice_get (values_of es) i ≡ Some t → slice_get es i ≡ Some (p, t)
pair_at [] i p t key value = absurd (true≢false (sym (ap is_some key)))
pair_at (e ∷ es) zero p t key value = ap (λ o. Some (unwrap_or o p, e.1)) key ∙ ap (λ o. Some (p, unwrap_or o t)) value
pair_at (e ∷ es) (suc i) p t key value = pair_at es i p t key value

-- there is no key without a value
both_at : (es : List (Prefix × Table)) (i : ℕ) (p : Prefix) → slice_get (keys_of es) i ≡ Some p → slice_get (values_of es) i ≡ None → ⊥
both_at [] i p key none = true≢false (sym (ap is_some key))
both_at (e ∷ es) zero p key none = true≢false (ap is_some none)
both_at (e ∷ es) (suc i) p key none = both_at es i p key none

-- the value at the index of a prefix is its table
pub value_at : (r : RoundTables) (i : ℕ) (p : Prefix) (o : Option Table) → IsUnique (same_prefix.ghosts).eq r.tables → slice_get (keys_of r.tables.entries) i ≡ Some p → o ≡ slice_get (values_of r.tables.entries) i → o ≡ table_at r p
value_at r i p None unique key value = absurd (both_at r.tables.entries i p key (sym value))
value_at r i p (Some t) unique key value = sym (lookup_from_place laws-law r.tables.entries i p t unique (pair_at r.tables.entries i p t key (sym value)))

-- a sum after a value is written at an index
sum_at : (f : Table → ℕ) (es : List (Prefix × Table)) (i : ℕ) (v w : Table) → slice_get (values_of es) i ≡ Some v → sum_by f (values_of (set_value_at es i w)) + f v ≡ sum_by f (values_of es) + f w
sum_at f [] i v w at = absurd (true≢false (sym (ap is_some at)))
sum_at f (e ∷ es) zero v w at = omega (arith, sum_by-cons f w (values_of es), sum_by-cons f e.1 (values_of es), ap (λ o. f (unwrap_or o v)) at)
sum_at f (e ∷ es) (suc i) v w at = omega (arith, sum_at f es i v w at, sum_by-cons f e.1 (values_of (set_value_at es i w)), sum_by-cons f e.1 (values_of es))

-- one table uses a path no more often than all
pub uses_at-le : (r : RoundTables) (p : Prefix) (k : ℕ) → uses_at r p k ≤ tables_uses r k
uses_at-le r p k = omega (arith, sum_by-remove_entry (λ (t : Table). table_uses t k) ((same_prefix.ghosts).eq p) r.tables.entries)

-- where all tables are held, all their entries' paths are live
pub tables_live : (pool : PathPool) (r : RoundTables) → ((k : ℕ) → tables_uses r k ≤ holds_of pool k) → AreAllLive pool r
tables_live pool r held p t at a h e =
    entry_live pool t.slots (λ k. omega (arith, ap (λ o. unwrap_or (option_map (λ (x : Table). table_uses x k) o) 0) at, uses_at-le r p k, held k)) a h e

module _ (r : RoundTables) (p : Prefix) (w : Table) where
  -- a new table is one more
  push_uses : (k : ℕ) → table_at r p ≡ None → sum_by (λ x. table_uses x k) (values_of (insert_entry (same_prefix.ghosts).eq r.tables.entries p w)) + uses_at r p k ≡ tables_uses r k + table_uses w k
  push_uses k none =
      let f : Table → ℕ = λ x. table_uses x k in
      let all : sum_by f (values_of (insert_entry (same_prefix.ghosts).eq r.tables.entries p w)) ≡ tables_uses r k + table_uses w k =
      ap (λ es. sum_by f (values_of es)) (insert_entry-new (same_prefix.ghosts).eq r.tables p w none)
      ∙ ap (sum_by f) (map-append _ r.tables.entries ((p, w) ∷ []))
      ∙ sum_by_push f (values_of r.tables.entries) w in
      let nothing : uses_at r p k ≡ 0 = ap (λ o. unwrap_or (option_map f o) 0) none in
      omega (arith, all, nothing)

  -- a table that is written takes the place of the one that stood there
  write_uses : (v : Table) (k : ℕ) → table_at r p ≡ Some v → sum_by (λ x. table_uses x k) (values_of (set_value ((same_prefix.ghosts).eq p) r.tables.entries w)) + uses_at r p k ≡ tables_uses r k + table_uses w k
  write_uses v k there =
      let f : Table → ℕ = λ x. table_uses x k in
      let all = sum_by-set_value f ((same_prefix.ghosts).eq p) r.tables.entries v w there in
      let one : uses_at r p k ≡ table_uses v k = ap (λ o. unwrap_or (option_map f o) 0) there in
      omega (arith, all, one)

  -- what an insertion leaves
  pub pushed : (new : RoundTables) → table_at r p ≡ None → Updates (same_prefix.ghosts).eq r.tables new.tables p (Some w) → new.tables.entries ≡ insert_entry (same_prefix.ghosts).eq r.tables.entries p w → PutsTable r new p w
  pushed new none updates entries = record {
    this = updates.1;
    others = λ q ne. updates.2 q (apart_prefixes p q ne);
    uses = λ k. ap (λ es. sum_by (λ x. table_uses x k) (values_of es) + uses_at r p k) entries ∙ push_uses k none;
  }

  -- what a write in place leaves
  pub written : (new : RoundTables) (v : Table) → table_at r p ≡ Some v → WritesThrough (same_prefix.ghosts).eq ((same_prefix.ghosts).eq p) r.tables w new.tables → PutsTable r new p w
  written new v there writes = let updates : UpdatesBy (same_prefix.ghosts).eq ((same_prefix.ghosts).eq p) r.tables new.tables (Some w) = writes.3 (search (rules, ap is_some there)) in record {
    this = updates.1;
    others = λ q ne. updates.2 q (apart_prefixes p q ne);
    uses = λ k. ap (λ es. sum_by (λ x. table_uses x k) (values_of es) + uses_at r p k) writes.0 ∙ write_uses v k there;
  }

  -- what a write by index leaves
  pub written_at : (new : RoundTables) (i : ℕ) (v : Table) → IsUnique (same_prefix.ghosts).eq r.tables → slice_get (keys_of r.tables.entries) i ≡ Some p → slice_get (values_of r.tables.entries) i ≡ Some v → new.tables ≡ with_value_at r.tables i w → PutsTable r new p w
  written_at new i v unique key value is =
      let at : slice_get r.tables.entries i ≡ Some (p, v) = pair_at r.tables.entries i p v key value in
      let updates : Updates (same_prefix.ghosts).eq r.tables (with_value_at r.tables i w) p (Some w) = updates-with_value_at r.tables i w laws-law unique p v at in
      let there : table_at r p ≡ Some v = lookup_from_place laws-law r.tables.entries i p v unique at in
      record {
        this = ap (λ m. get (same_prefix.ghosts).eq m p) is ∙ updates.1;
        others = λ q ne. ap (λ m. get (same_prefix.ghosts).eq m q) is ∙ updates.2 q (apart_prefixes p q ne);
        uses = λ k.
            let f : Table → ℕ = λ x. table_uses x k in
            let one : uses_at r p k ≡ table_uses v k = ap (λ o. unwrap_or (option_map f o) 0) there in
            omega (arith, sum_at f r.tables.entries i v w value, one, ap (λ m. sum_by f (values_of m.entries)) is);
      }
