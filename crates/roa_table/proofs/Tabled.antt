-- A table of chunks and the set that it stands for.
use Rattle.std.proofs.Common.{◌≡◌, ℕ, zero, suc, ◌+◌, ◌-◌, ◌≤◌, ◌<◌, Bool, true, false, cond, not, List, [], refl, sym, ap, subst, ◌∙◌, arith, ◌⊎◌, inl, inr}
use Rattle.std.specs.Ordering.{eq_by_cmp}
use Rattle.std.specs.FinMap as fin
use Rattle.net_names.specs.Prefixes.{PrefixValue}
use Rattle.net_names.specs.Payloads.{VrpValue, vrp_cmp}
use Rattle.net_names.specs.Orders.{vrp_total, exact_vrp}
use Rattle.net_names.proofs.Shortening.{IsWhole, both}
use Rattle.roa_table.specs.declared.chunk.Chunk.{Chunk}
use Rattle.roa_table.specs.Sets.{IsSound, AreSound, Payloads, no_payloads, has, added, taken, items, count, set_of}
use Rattle.roa_table.specs.Lists.{row_in, stands_in}
use Rattle.roa_table.specs.Cover.{of_prefix}
use Rattle.roa_table.specs.Chunks.{all_of, IsInOrder, IsTable}
use Rattle.roa_table.proofs.Booleans.{either_true}
use Rattle.roa_table.proofs.Rising.{eq_is, contains_insert, contains_remove}
use Rattle.roa_table.proofs.Placed.{has_set_of, items_set_of, count_set_of}
use Rattle.roa_table.proofs.Chunking.{rising_all}

pub empty_table : (ss : List Chunk) → ss ≡ [] → IsTable ss 0
empty_table ss e = subst (λ l. IsTable l 0) (sym e) (record { order = tt; sound = λ v h. cc h; counted = refl; bound = omega arith })

-- chunks of so many payloads, which are sound
pub table_of : (ss : List Chunk) (n : ℕ) → IsInOrder ss → AreSound (set_of (all_of ss)) → n ≡ count (set_of (all_of ss)) → n ≤ 2000000 → IsTable ss n
table_of ss n order sound counted bound = record {
  order = order;
  sound = λ v h. sound v (has_set_of (all_of ss) v ∙ h);
  counted = counted ∙ count_set_of (all_of ss) (rising_all ss order);
  bound = bound;
}

module _ (ss : List Chunk) (n : ℕ) (t : IsTable ss n) (s : Payloads) (seen : set_of (all_of ss) ≡ s) where
  pub has_is : (v : VrpValue) → stands_in (all_of ss) v ≡ has s v
  has_is v = sym (has_set_of (all_of ss) v) ∙ ap (λ x. has x v) seen

  pub count_is : n ≡ count s
  count_is = t.counted ∙ sym (count_set_of (all_of ss) (rising_all ss t.order)) ∙ ap count seen

  -- the payloads of all chunks are those of the set, in their order
  pub items_is : all_of ss ≡ items s
  items_is = sym (items_set_of (all_of ss) (rising_all ss t.order)) ∙ ap items seen

  pub row_is : (p : PrefixValue) → row_in p (all_of ss) ≡ of_prefix s p
  row_is p = ap (row_in p) items_is

  pub sound_is : AreSound s
  sound_is v h = t.sound v (has_is v ∙ h)

  pub whole_is : (v : VrpValue) → has s v ≡ true → IsWhole v.prefix
  whole_is v h = (sound_is v h).prefix

  module _ (new : List Chunk) (order : IsInOrder new) (v : VrpValue) where
    -- after a payload was put in
    module _ (sound : IsSound v) (set : set_of (all_of new) ≡ added (set_of (all_of ss)) v) (absent : has s v ≡ false) where
      sound_added : (q : VrpValue) → has (set_of (all_of new)) q ≡ true → IsSound q
      sound_added q h = by (either_true (eq_by_cmp vrp_cmp q v) (has s q) (sym (contains_insert vrp_total exact_vrp s v q) ∙ ap (λ x. has (added x v) q) (sym seen) ∙ ap (λ x. has x q) (sym set) ∙ h))
        where
          by : (eq_by_cmp vrp_cmp q v ≡ true) ⊎ (has s q ≡ true) → IsSound q
          by (inl e) = subst IsSound (sym (eq_is vrp_total exact_vrp q v e)) sound
          by (inr e) = sound_is q e

      pub count_added : count (set_of (all_of new)) ≡ n + 1
      count_added = ap count set ∙ ap (λ x. count (added x v)) seen ∙ fin.len-insert vrp_total s v tt ∙ ap (λ b. cond b (count s) (count s + 1)) absent ∙ ap (λ k. k + 1) (sym count_is)

      pub added_table : n < 2000000 → IsTable new (n + 1)
      added_table lt = table_of new (n + 1) order sound_added (sym count_added) (omega (arith, lt))

    -- after one was taken out
    module _ (set : set_of (all_of new) ≡ taken (set_of (all_of ss)) v) where
      sound_taken : (q : VrpValue) → has (set_of (all_of new)) q ≡ true → IsSound q
      sound_taken q h = sound_is q (both (not (eq_by_cmp vrp_cmp q v)) (has s q) (sym (contains_remove vrp_total exact_vrp s v q) ∙ ap (λ x. has (taken x v) q) (sym seen) ∙ ap (λ x. has x q) (sym set) ∙ h)).right

      count_taken : count (set_of (all_of new)) ≡ cond (has s v) (n - 1) n
      count_taken = ap count set ∙ ap (λ x. count (taken x v)) seen ∙ fin.len-remove vrp_total s v ∙ (λ i. cond (has s v) (sym count_is i - 1) (sym count_is i))

      pub taken_table : (k : ℕ) → k ≡ cond (has s v) (n - 1) n → IsTable new k
      taken_table k e = table_of new k order sound_taken (e ∙ sym count_taken) (less (has s v) e)
        where
          less : (b : Bool) → k ≡ cond b (n - 1) n → k ≤ 2000000
          less true f = omega (arith, f, t.bound)
          less false f = omega (arith, f, t.bound)

  none : (q : VrpValue) → has no_payloads q ≡ false
  none q = has_set_of [] q

  -- where a payload is there, there is one at least
  pub some_there : (v : VrpValue) → has s v ≡ true → 1 ≤ n
  some_there v h = by n count_is (none v)
    where
      by : (k : ℕ) → k ≡ count s → has no_payloads v ≡ false → 1 ≤ k
      by zero e f = cc (h, ap (λ x. has x v) (fin.empty_of_len s (sym e)), f)
      by (suc k) e f = omega arith
