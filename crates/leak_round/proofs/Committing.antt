-- Changes are put in place, the last of those that are left first.
use Rattle.std.proofs.Common.{◌≡◌, ◌≢◌, ◌⊎◌, inl, inr, ℕ, suc, ◌+◌, ◌≤◌, Bool, true, false, cond, Option, Some, None, option_map, List, [], ◌∷◌, ◌++◌, refl, sym, ap, subst, ◌∙◌, arith}
use Rattle.std.specs.Prelude.{IsSome, IsTrue, is_some, slice_get, option_and_then}
use Rattle.std.proofs.lemmas.Bool.{cases_eq}
use Rattle.std.proofs.lemmas.List.Sums.{sum_by_push}
use Rattle.net_names.specs.Prefixes.{PrefixValue, prefix_cmp}
use Rattle.path_pool.specs.declared.pool.PathPool.{PathPool}
use Rattle.path_pool.specs.Pool.{IsLive, holds_of}
use Rattle.stability_laws.specs.declared.entry.Entry.{Entry}
use Rattle.stability_laws.specs.Plans.{Plan, ListsRising, has_prefix, prefixes_of}
use Rattle.route_choice.specs.declared.held.Held.{Held}
use Rattle.route_choice.specs.declared.round_tables.RoundTables.{RoundTables}
use Rattle.route_choice.specs.declared.table.Table.{Table}
use Rattle.route_choice.specs.Holds.{GivesBack}
use Rattle.route_choice.specs.Routings.{entry_of}
use Rattle.route_choice.specs.RoundTables.{table_at, AreAllLive}
use Rattle.route_choice.specs.Slots.{over}
use Rattle.route_choice.specs.Tables.{held_at, change_at, overlay_uses, table_uses, prefix_of}
use Rattle.route_choice.proofs.Counted.{held_is_live, change_is_live}
use Rattle.route_choice.proofs.Lists.{entries_same}
use Rattle.route_choice.proofs.RoundLemmas.{tables_live}
use Rattle.leak_round.specs.declared.changes.Change.{Change}
use Rattle.leak_round.specs.Tables.{tables_in, entry_uses, AreFull, AreRoundsFull}
use Rattle.leak_round.specs.Overlays.{table_in, held_of, is_at, change_in, held_with, laid_in, changes_uses, IsCommitted, AreFew, IsLaid}
use Rattle.leak_round.proofs.Laying.{uses_in, table_uses_in, change_in-none, others_apart, table_now, held_same, left_changes, here_true}
use Rattle.leak_round.proofs.Rounding.{same_or_not, sized}
use Rattle.leak_round.proofs.Sums.{sum_by-one-le}

-- a change is one of some changes of the table
pub change_from : (xs : List Change) (round : ℕ) (prefix : PrefixValue) (a : ℕ) (o : Option Held) → change_in xs round prefix a ≡ Some o → (i : ℕ) × (y : Change) × (slice_get xs i ≡ Some y) × (is_at round prefix y ≡ true) × (change_at y.overlay a ≡ Some o)
change_from [] round prefix a o e = cc
change_from (y ∷ xs) round prefix a o e = by (is_at round prefix y) refl (change_from xs round prefix a o) e
  where
    From : List Change → Type 0
    From zs = (i : ℕ) × (z : Change) × (slice_get zs i ≡ Some z) × (is_at round prefix z ≡ true) × (change_at z.overlay a ≡ Some o)

    by : (b : Bool) → is_at round prefix y ≡ b → (change_in xs round prefix a ≡ Some o → From xs) → cond b (change_at y.overlay a) (change_in xs round prefix a) ≡ Some o → From (y ∷ xs)
    by true here rest e = (0, y, refl, here, e)
    by false other rest e = let (i, z, at, is, c) = rest e in (suc i, z, at, is, c)

-- the paths of all entries that are held with the changes in place are live
pub held_with-live : (pool : PathPool) (rounds : List RoundTables) (xs : List Change) → ((k : ℕ) → entry_uses rounds k + changes_uses xs k ≤ holds_of pool k) → (round : ℕ) (prefix : PrefixValue) (a : ℕ) (h : Held) → held_with rounds xs round prefix a ≡ Some h → IsLive pool h.path.0
held_with-live pool rounds xs held round prefix a h e = by (change_in xs round prefix a) refl e
  where
    in_table : (o : Option Table) → table_in rounds round prefix ≡ o → option_and_then (λ t. held_at t a) o ≡ Some h → IsLive pool h.path.0
    in_table None at e = cc
    in_table (Some t) at e = held_is_live pool t (λ k. omega (arith, held k, table_uses_in rounds round prefix t at k)) a h e

    by : (o : Option (Option Held)) → change_in xs round prefix a ≡ o → over o (held_of rounds round prefix a) ≡ Some h → IsLive pool h.path.0
    by None is e = in_table (table_in rounds round prefix) refl e
    by (Some c) is e =
        let (i, y, at, here, change) = change_from xs round prefix a c is in
        change_is_live pool y.overlay (λ k. omega (arith, held k, sum_by-one-le (λ (z : Change). overlay_uses z.overlay k) xs i y at)) a h (change ∙ ap (λ (o : Option Held). Some o) e)

module _ (plan : Plan) (listed : ListsRising prefix_cmp (λ p. IsTrue (has_prefix plan p)) (prefixes_of plan)) (routings : ℕ → PrefixValue → ℕ → Option Entry) (few : (round : ℕ) (prefix : PrefixValue) → AreFew (routings round prefix)) (others : ℕ → ℕ)
    (pool pool' : PathPool) (old new : List RoundTables) (xs : List Change) (x : Change) (h : IsLaid plan routings others pool old (xs ++ x ∷ [])) (c : IsCommitted old new x)
    (holds : (k : ℕ) → entry_uses new k + holds_of pool k ≡ entry_uses old k + overlay_uses x.overlay k + holds_of pool' k) (back : GivesBack pool pool') where
  holds_left : (k : ℕ) → holds_of pool' k ≡ entry_uses new k + changes_uses xs k + others k
  holds_left k = omega (arith, holds k, h.holds k, sum_by_push (λ (y : Change). overlay_uses y.overlay k) xs x)

  enough : (k : ℕ) → entry_uses new k + changes_uses xs k ≤ holds_of pool' k
  enough k = omega (arith, holds_left k)

  same_left : (round : ℕ) (prefix : PrefixValue) (a : ℕ) → laid_in pool' new xs round prefix a ≡ routings round prefix a
  same_left round prefix a =
      entries_same pool pool' (held_with new xs round prefix a) (λ d e. back.lists d.path.0 (held_with-live pool' new xs enough round prefix a d e))
      ∙ ap (option_map (entry_of pool)) (held_same old new xs x h.changes c round prefix a) ∙ h.same round prefix a

  live_left : (round : ℕ) (tables : RoundTables) → tables_in new round ≡ Some tables → AreAllLive pool' tables
  live_left round tables at = tables_live pool' tables (λ k. omega (arith, enough k, uses_in new round tables at k))

  before_full : AreFull pool plan c.before
  before_full = h.full x.round c.before c.before_at

  known : IsTrue (has_prefix plan x.prefix)
  known = sym (before_full.there x.prefix) ∙ ap is_some c.was_at

  here : (a : ℕ) → held_with new xs x.round x.prefix a ≡ held_at c.now a
  here a =
      ap (λ o. over o (held_of new x.round x.prefix a)) (change_in-none xs x.round x.prefix (others_apart old new xs x h.changes c x.round x.prefix (here_true x)) a)
      ∙ ap (option_and_then (λ (t : Table). held_at t a)) (table_now old new xs x h.changes c)

  small : (k : ℕ) → table_uses c.now k ≤ 150000
  small k =
      let u = c.counted k in
      let most = few x.round x.prefix u.ases u.distinct (λ a o. subst IsSome (sym (ap (option_map (entry_of pool')) (here a)) ∙ same_left x.round x.prefix a) (shown (held_at c.now a) (u.entries a o))) in
      omega (arith, most, u.enough)
    where
      shown : (o : Option Held) → IsSome o → IsSome (option_map (entry_of pool') o)
      shown None s = s
      shown (Some d) s = refl

  there_now : (p : PrefixValue) → (p ≡ x.prefix) ⊎ (p ≢ x.prefix) → is_some (table_at c.after p) ≡ has_prefix plan p
  there_now p (inl e) = ap (λ q. is_some (table_at c.after q)) e ∙ ap is_some c.puts.this ∙ sym known ∙ ap (has_prefix plan) (sym e)
  there_now p (inr ne) = ap is_some (c.puts.others p ne) ∙ before_full.there p

  by_prefix_now : (p : PrefixValue) (t : Table) → (p ≡ x.prefix) ⊎ (p ≢ x.prefix) → table_at c.after p ≡ Some t → prefix_of t ≡ p
  by_prefix_now p t (inl e) at =
      let both : Some c.now ≡ Some t = sym c.puts.this ∙ ap (table_at c.after) (sym e) ∙ at in
      let one : c.now ≡ t = cc in
      ap prefix_of (sym one) ∙ c.prefix ∙ before_full.by_prefix x.prefix c.was c.was_at ∙ sym e
  by_prefix_now p t (inr ne) at = before_full.by_prefix p t (sym (c.puts.others p ne) ∙ at)

  full_left : AreRoundsFull pool' plan new
  full_left round tables at = elim (cases_eq round x.round) [
    | inr ne ↦
        let was = h.full round tables (sym (c.others round ne) ∙ at) in
        record { there = was.there; by_prefix = was.by_prefix; live = live_left round tables at; size = was.size }
    | inl e ↦
        let both : Some c.after ≡ Some tables = sym c.after_at ∙ ap (tables_in new) (sym e) ∙ at in
        let one : c.after ≡ tables = cc in
        let (place, stands) = listed.whole x.prefix known in
        subst (AreFull pool' plan) one (record {
          there = λ p. there_now p (same_or_not p x.prefix);
          by_prefix = λ p t is. by_prefix_now p t (same_or_not p x.prefix) is;
          live = live_left x.round c.after c.after_at;
          size = sized plan listed c.before c.after x.prefix c.now place stands c.puts before_full.size small;
        })
  ]

  -- one change less is left
  pub laid_left : IsLaid plan routings others pool' new xs
  laid_left = record { changes = left_changes old new xs x h.changes c; full = full_left; holds = holds_left; same = same_left }
