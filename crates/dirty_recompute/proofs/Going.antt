-- What turns leave of the pool, the table and the overlay.
use Rattle.std.proofs.Common.{◌≡◌, ◌≢◌, ◌⊎◌, inl, inr, ℕ, ◌+◌, ◌≤◌, true, false, ◌==◌, true≢false, IsSome, is_some, Option, Some, None, option_map, List, [], ◌∷◌, length, refl, sym, ◌∙◌, subst, arith}
use Rattle.std.proofs.lemmas.Bool.{cases_eq, cases_Bool, or_cases, eqb-true}
use Rattle.net_names.specs.Numbers.{occurs, IsDistinct}
use Rattle.net_names.proofs.Distinct.{apart_from_distinct}
use Rattle.as_graph.specs.Topology.{Topology, has, as_count}
use Rattle.as_graph.proofs.RowAses.{length-le-as_count}
use Rattle.path_pool.specs.declared.pool.PathPool.{PathPool}
use Rattle.path_pool.specs.Pool.{IsLive, count_of, holds_of, live_count}
use Rattle.stability_laws.specs.declared.entry.Entry.{Entry}
use Rattle.route_choice.specs.declared.counts.TheConstants.{MOST_COUNTED}
use Rattle.route_choice.specs.declared.held.Held.{Held}
use Rattle.route_choice.specs.declared.overlay.Overlay.{Overlay}
use Rattle.route_choice.specs.declared.seeds.SeedIds.{SeedIds}
use Rattle.route_choice.specs.declared.table.Table.{Table}
use Rattle.route_choice.specs.Holds.{GivesBack}
use Rattle.route_choice.specs.Resources.{AreEntriesLive, AreSeedsLive, Keeps}
use Rattle.route_choice.specs.Routings.{entry_of, routing_of, seeds_of, table_routing}
use Rattle.route_choice.specs.Tables.{change_at, held_at, overlay_uses, table_uses}
use Rattle.route_choice.specs.Slots.{over}
use Rattle.route_choice.proofs.Lists.{entries_same, held_live}
use Rattle.route_choice.proofs.Room.{keeps_itself, keeps_more, seeds_kept}
use Rattle.dirty_recompute.specs.Resources.{has_change, CanTurn, FewNewCells, IsKept, IsPaidFor, IsUndone}
use Rattle.dirty_recompute.specs.Steps.{ChangesOnly}
use Rattle.dirty_recompute.specs.Work.{CanGoOn, GoesOn}

pub kept_itself : (p : PathPool) (seeds : SeedIds) (o : Overlay) → IsKept p p seeds o o
kept_itself p seeds o = record {
  keeps = keeps_itself p seeds;
  holds = λ k. refl;
  limit = refl;
}

pub kept_more : (p q r : PathPool) (seeds : SeedIds) (x y z : Overlay) → IsKept p q seeds x y → IsKept q r seeds y z → IsKept p r seeds x z
kept_more p q r seeds x y z h k = record {
  keeps = keeps_more p q r seeds h.keeps k.keeps;
  holds = λ i. omega (arith, h.holds i, k.holds i);
  limit = k.limit ∙ h.limit;
}

-- what the table stands for stays
pub table_same : (p q : PathPool) (seeds : SeedIds) (t : Table) → Keeps p q seeds → ((a : ℕ) (h : Held) → held_at t a ≡ Some h → IsLive p h.path.0) → table_routing p t ≡ table_routing q t
table_same p q seeds t keeps live i a = sym (entries_same p q (held_at t a) (λ h e. keeps.lists h.path.0 (live a h e))) i

-- and with changes in place, where the table has the same entries
pub same_routing : (p : PathPool) (t t' : Table) (o : Overlay) → ((a : ℕ) → held_at t' a ≡ held_at t a) → routing_of p t o ≡ routing_of p t' o
same_routing p t t' o same i a = option_map (entry_of p) (over (change_at o a) (sym (same a) i))

-- a change that gives an entry
pub gives_entry : (p : PathPool) (t : Table) (o : Overlay) (a : ℕ) → has_change o a ≡ true → IsSome (routing_of p t o a) → (h : Held) × (change_at o a ≡ Some (Some h))
gives_entry p t o a put some = by (change_at o a) refl put some
  where
    by : (x : Option (Option Held)) → change_at o a ≡ x → is_some x ≡ true → IsSome (option_map (entry_of p) (over x (held_at t a))) → (h : Held) × (change_at o a ≡ Some (Some h))
    by None e put some = absurd (true≢false (sym put))
    by (Some None) e put some = (let x : false ≡ true = some in absurd (true≢false (sym x)))
    by (Some (Some h)) e put some = (h, e)

pub seeds_same : (p q : PathPool) (seeds : SeedIds) → Keeps p q seeds → seeds_of p seeds ≡ seeds_of q seeds
seeds_same p q seeds keeps i a = sym (keeps.same_seeds a) i

module _ (g : Topology) (seeds : SeedIds) (table : Table) where
  -- a turn can be taken
  pub can_turn : (p0 pool : PathPool) (o0 overlay : Overlay) → as_count g ≤ 150000 → (first : PathPool) × CanGoOn (has g) first p0 seeds table o0 → GoesOn (has g) p0 pool seeds table o0 overlay → CanTurn pool seeds table overlay
  can_turn p0 pool o0 overlay few (first, could) goes = let can : CanGoOn (has g) first pool seeds table overlay = goes first could in record {
    held = can.held;
    seeds_live = can.seeds_live;
    counts = λ k. omega (arith, can.counts k, can.few k, length-le-as_count g can.ases (apart_from_distinct can.ases can.distinct) (λ x there. (can.are x there).0), few);
  }

  module _ (first p q : PathPool) (o o' : Overlay) (a : ℕ)
      (only : ChangesOnly a (routing_of p table o) (routing_of q table o') (has_change o) (has_change o'))
      (paid : IsPaidFor p q (routing_of p table o) (routing_of q table o') a) (kept : IsKept p q seeds o o')
      (an_as : routing_of q table o' a ≢ routing_of p table o a → IsSome (routing_of q table o' a) → has g a ≡ true)
      (once : has_change o a ≡ true → (routing_of p table o a ≡ None) ⊎ (routing_of q table o' a ≡ routing_of p table o a)) where
    abbrev f : ℕ → Option Entry
    f = routing_of p table o

    abbrev h : ℕ → Option Entry
    h = routing_of q table o'

    abbrev Is : Overlay → (ℕ → Option Entry) → ℕ → Type 0
    Is x e b = (has g b ≡ true) × (has_change x b ≡ true) × IsSome (e b)

    some_none : (x : Option Entry) → x ≡ None → IsSome x → ⊥
    some_none None e s = (let x : false ≡ true = s in cc)
    some_none (Some y) e s = (let x : Some y ≡ None = e in cc)

    stays_put : Is o f a → h a ≡ f a
    stays_put (here, put, some) = elim (once put) [ inl none ↦ absurd (some_none (f a) none some) | inr same ↦ same ]

    on : (b : ℕ) → Is o f b → Is o' h b
    on b (here, put, some) = elim (cases_eq b a) [
      | inl e ↦
          let at : Is o f a = subst (Is o f) e (here, put, some) in
          let same : h a ≡ f a = stays_put at in
          let put' : has_change o' a ≡ true = elim only.settled [ inl s ↦ s.1 ∙ at.1 | inr s ↦ s.1 ] in
          subst (Is o' h) (sym e) (at.0, put', subst IsSome (sym same) at.2)
      | inr ne ↦ (here, only.changed_others b ne ∙ put, subst IsSome (sym (only.others b ne)) some)
    ]

    -- and then it can go on
    pub goes_on : CanGoOn (has g) first p seeds table o → CanGoOn (has g) first q seeds table o'
    goes_on can = by paid
      where
        entries_live : (b : ℕ) (e : Held) → held_at table b ≡ Some e → IsLive q e.path.0
        entries_live b e is = kept.keeps.live e.path.0 (can.entries_live b e is)

        not_yet : h a ≢ f a → occurs a can.ases ≡ false
        not_yet ne = elim (cases_Bool (occurs a can.ases)) [
          | inl there ↦ absurd (ne (stays_put (can.are a there)))
          | inr away ↦ away
        ]

        among : (b : ℕ) → h a ≢ f a → IsSome (h a) → (a ≡ b) ⊎ (occurs b can.ases ≡ true) → Is o' h b
        among b ne some (inl e) =
            let put : has_change o' a ≡ true = elim only.settled [ inl s ↦ absurd (ne s.0) | inr s ↦ s.1 ] in
            subst (Is o' h) e (an_as ne some, put, some)
        among b ne some (inr there) = on b (can.are b there)

        cases : (b : ℕ) → occurs b (a ∷ can.ases) ≡ true → (a ≡ b) ⊎ (occurs b can.ases ≡ true)
        cases b there = elim (or_cases (a == b) (occurs b can.ases) there) [ inl e ↦ inl (eqb-true a b e) | inr e ↦ inr e ]

        with_ases : (ases : List ℕ) → IsDistinct ases → ((b : ℕ) → occurs b ases ≡ true → Is o' h b) → live_count q ≤ live_count first + length ases → ((k : ℕ) → count_of q k ≤ count_of first k + length ases) → CanGoOn (has g) first q seeds table o'
        with_ases ases distinct are live counts = record {
          ases = ases;
          distinct = distinct;
          are = are;
          live = live;
          counts = counts;
          few = can.few;
          held = λ k. omega (arith, can.held k, kept.holds k);
          entries_live = entries_live;
          seeds_live = seeds_kept p q seeds kept.keeps can.seeds_live;
        }

        by : IsPaidFor p q f h a → CanGoOn (has g) first q seeds table o'
        by (inl (live, counts)) = with_ases can.ases can.distinct (λ b there. on b (can.are b there)) (omega (arith, can.live, live)) (λ k. omega (arith, can.counts k, counts k))
        by (inr (ne, some, live, counts)) = with_ases (a ∷ can.ases) (not_yet ne, can.distinct) (λ b there. among b ne some (cases b there)) (omega (arith, can.live, live)) (λ k. omega (arith, can.counts k, counts k))

-- the cells that the changes need
pub few_new_cells : (g : Topology) (seeds : SeedIds) (table : Table) (p q : PathPool) (o : Overlay) → CanGoOn (has g) p q seeds table o → FewNewCells p q o
few_new_cells g seeds table p q o can = record {
  ases = can.ases;
  distinct = can.distinct;
  entries = λ a there. (let is = can.are a there in gives_entry q table o a is.1 is.2);
  few = can.live;
  counts = can.counts;
}

-- nothing was done yet
pub can_start : (g : Topology) (seeds : SeedIds) (table : Table) (pool : PathPool) (o : Overlay) → ((k : ℕ) → count_of pool k ≤ MOST_COUNTED) → ((k : ℕ) → table_uses table k ≤ holds_of pool k) → ((k : ℕ) → overlay_uses o k ≡ 0) → AreEntriesLive pool table → AreSeedsLive pool seeds → CanGoOn (has g) pool pool seeds table o
can_start g seeds table pool o few held none entries_live seeds_live = record {
  ases = [];
  distinct = tt;
  are = λ b there. absurd (true≢false (sym there));
  live = omega arith;
  counts = λ k. omega arith;
  few = few;
  held = λ k. omega (arith, held k, none k);
  entries_live = entries_live;
  seeds_live = seeds_live;
}

-- when the changes are undone
pub undone : (p q r : PathPool) (seeds : SeedIds) (before o : Overlay) → ((k : ℕ) → overlay_uses before k ≡ 0) → IsKept p q seeds before o → ((k : ℕ) → holds_of r k + overlay_uses o k ≡ holds_of q k) → GivesBack q r → IsUndone p r
undone p q r seeds before o none kept back gives = record {
  holds = holds;
  held_live = λ k h. held_live r k (omega (arith, h, holds k));
  lists = λ k was is. gives.lists k is ∙ kept.keeps.lists k was;
}
  where
    holds : (k : ℕ) → holds_of r k ≡ holds_of p k
    holds k = omega (arith, none k, kept.holds k, back k)
