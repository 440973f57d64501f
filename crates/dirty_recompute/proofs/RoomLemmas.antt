-- Room that is made, and what an AS is given after it.
use Rattle.std.proofs.Common.{◌≡◌, ◌≢◌, ◌⊎◌, inl, inr, ℕ, ◌↔◌, Bool, true, false, IsTrue, Option, Some, None, option_map, List, refl, sym, ◌∙◌, ap, subst, arith}
use Rattle.std.specs.Prelude.{is_some, IsSome}
use Rattle.std.proofs.lemmas.Bool.{cases_Bool}
use Rattle.policy_laws.specs.Policy.{Policy}
use Rattle.route_choice.specs.declared.choice.Choice.{Choice}
use Rattle.route_choice.specs.declared.choice.Choice.TheVariants as choice
use Rattle.route_choice.specs.Choices.{named_by}
use Rattle.path_pool.specs.declared.pool.PathPool.{PathPool}
use Rattle.path_pool.specs.Pool.{SamePaths, list_of, count_of, live_count, limit_of}
use Rattle.stability_laws.specs.declared.entry.Entry.{Entry}
use Rattle.stability_laws.specs.declared.entry.Seed.{Seed}
use Rattle.route_choice.specs.declared.held.Held.{Held}
use Rattle.route_choice.specs.declared.held.SeedHeld.{SeedHeld}
use Rattle.route_choice.specs.declared.table.Table.{Table}
use Rattle.route_choice.specs.declared.overlay.Overlay.{Overlay}
use Rattle.route_choice.specs.declared.seeds.SeedIds.{SeedIds}
use Rattle.route_choice.specs.Slots.{over}
use Rattle.route_choice.specs.Tables.{held_at, change_at, joined, overlay_uses, seed_at}
use Rattle.route_choice.specs.Routings.{entry_of, seed_of, routing_of, seeds_of}
use Rattle.route_choice.specs.Resources.{AreHeld, AreSeedsLive, Keeps, Spends, GivesUpNothing, IsNameable}
use Rattle.route_choice.proofs.Lists.{entries_same, joined_live}
use Rattle.dirty_recompute.specs.Resources.{IsKept, IsBefore}
use Rattle.dirty_recompute.specs.Giving.{SameHeld, IsGiven, GivesUpNone}
use Rattle.dirty_recompute.proofs.Going.{kept_more}

seed_same : (p q : PathPool) (o : Option SeedHeld) → ((s : SeedHeld) → o ≡ Some s → list_of q s.path.0 ≡ list_of p s.path.0) → option_map (seed_of q) o ≡ option_map (seed_of p) o
seed_same p q None same = refl
seed_same p q (Some s) same =
    let with : List ℕ → Seed = λ l. record { path = l; otc = s.otc } in
    ap Some (ap with (same s refl))

-- the ASes hold what they held, where the changes are the same and the paths stay
pub same_held : (p q : PathPool) (t : Table) (o o' : Overlay) → AreHeld p t o → SamePaths p q → ((a : ℕ) → change_at o' a ≡ change_at o a) → SameHeld p q t o o'
same_held p q t o o' held same changes = record {
  routing = λ n.
      let here : joined t o' n ≡ joined t o n = ap (λ (x : Option (Option Held)). over x (held_at t n)) (changes n) in
      ap (option_map (entry_of q)) here ∙ entries_same p q (joined t o n) (λ h e. same.lists h.path.0 (joined_live p t o held n h e));
  changes = changes;
}

-- paths, holds and uses that are the same are kept
pub same_kept : (p q : PathPool) (seeds : SeedIds) (o o' : Overlay) → AreSeedsLive p seeds → SamePaths p q → limit_of q ≡ limit_of p → ((k : ℕ) → overlay_uses o' k ≡ overlay_uses o k) → IsKept p q seeds o o'
same_kept p q seeds o o' live same limit uses = record {
  keeps = record {
    live = same.stays_live;
    lists = same.lists;
    same_seeds = λ a. seed_same p q (seed_at seeds a) (λ s e. same.lists s.path.0 (live a s e));
  };
  holds = λ k. omega (arith, same.holds k, uses k);
  limit = limit;
}

some_is : {X : Type 0} (o : Option X) → IsSome o → is_some o ≡ true
some_is None h = cc
some_is (Some x) h = refl

-- a choice can be settled after the room is made if it could before
pub still_nameable : (seeds : SeedIds) (t : Table) (o o' : Overlay) (a : ℕ) (c : Choice) → ((n : ℕ) → change_at o' n ≡ change_at o n) → IsNameable seeds t o a c → IsNameable seeds t o' a c
still_nameable seeds t o o' a choice.Nothing same h = h
still_nameable seeds t o o' a choice.Seed same h = h
still_nameable seeds t o o' a (choice.Via n r) same h = subst IsSome (ap (λ (x : Option (Option Held)). over x (held_at t n)) (sym (same n))) h

-- what an AS is given once there is room
module _ (p q r : PathPool) (seeds : SeedIds) (t : Table) (x y z : Overlay) (a : ℕ) (room : SameHeld p q t x y) (paths : SamePaths p q) (kept : IsKept p q seeds x y) where
  pub given_after : (new : Option Entry) (answer : Bool) → IsSome new →
      routing_of r t z a ≡ new → ((n : ℕ) → n ≢ a → routing_of r t z n ≡ routing_of q t y n) → (IsTrue answer ↔ (routing_of r t z a ≢ routing_of q t y a)) →
      (answer ≡ false → (r ≡ q) × (z ≡ y)) → (IsTrue answer → IsSome (change_at z a)) → Spends q r y z a → IsGiven p r t x z a new answer
  given_after new answer some at others changed unchanged put spent = record {
    at = at;
    only = record {
      others = λ n ne. others n ne ∙ room.routing n;
      changed_others = λ n ne. ap is_some (spent.others n ne ∙ room.changes n);
      settled = elim (cases_Bool answer) [
        | inl t ↦ inr (differs (changed.0 t), some_is (change_at z a) (put t))
        | inr u ↦ inl (same_at (unchanged u).0 (unchanged u).1, ap (λ o. is_some (change_at o a)) (unchanged u).1 ∙ ap is_some (room.changes a))
      ];
    };
    changed = (λ t. differs (changed.0 t), λ ne. changed.1 (λ e. ne (e ∙ room.routing a)));
    paid = elim (cases_Bool answer) [
      | inl t ↦ inr (differs (changed.0 t), subst IsSome (sym at) some, omega (arith, spent.live, paths.live), λ k. omega (arith, spent.counts k, paths.counts k))
      | inr u ↦ inl (omega (arith, ap live_count (unchanged u).0, paths.live), λ k. omega (arith, ap (λ s. count_of s k) (unchanged u).0, paths.counts k))
    ];
  }
    where
      differs : routing_of r t z a ≢ routing_of q t y a → routing_of r t z a ≢ routing_of p t x a
      differs ne e = ne (e ∙ sym (room.routing a))

      same_at : r ≡ q → z ≡ y → routing_of r t z a ≡ routing_of p t x a
      same_at is_pool is_overlay = (λ i. routing_of (is_pool i) t (is_overlay i) a) ∙ room.routing a

  pub kept_after : (new : Option Entry) → GivesUpNone p t x a new → routing_of r t z a ≡ new → Spends q r y z a →
      (GivesUpNothing y (routing_of q t y) (routing_of r t z) a → Keeps q r seeds) → IsKept p r seeds x z
  kept_after new gives at spent keeps = kept_more p q r seeds x y z kept (record { keeps = keeps (up gives); holds = spent.holds; limit = spent.limit })
    where
      up : GivesUpNone p t x a new → GivesUpNothing y (routing_of q t y) (routing_of r t z) a
      up (inl none) = inl (room.changes a ∙ none)
      up (inr (inl none)) = inr (inl (room.routing a ∙ none))
      up (inr (inr same)) = inr (inr (at ∙ same ∙ sym (room.routing a)))

  -- a choice names the same entry before and after
  pub same_named : (policy : ℕ → Policy) (c : Choice) → routing_of r t z a ≡ named_by policy (seeds_of q seeds a) (routing_of q t y) a c → routing_of r t z a ≡ named_by policy (seeds_of p seeds a) (routing_of p t x) a c
  same_named policy c at = at ∙ (λ i. named_by policy (kept.keeps.same_seeds a i) (λ n. room.routing n i) a c)

-- where the overlay has a change, an AS that is right with what it holds, or holds nothing, gives nothing up
pub gives_none : (p : PathPool) (t : Table) (o : Overlay) (a : ℕ) (new : Option Entry) → (is_some (change_at o a) ≡ true → (routing_of p t o a ≡ None) ⊎ (new ≡ routing_of p t o a)) → GivesUpNone p t o a new
gives_none p t o a new settled = by (change_at o a) refl
  where
    by : (c : Option (Option Held)) → change_at o a ≡ c → GivesUpNone p t o a new
    by None e = inl e
    by (Some c) e = inr (settled (ap is_some e))

-- what was held before
pub before_is : (p q : PathPool) (seeds : SeedIds) (t : Table) (x z : Overlay) (a : ℕ) (before : Option Held) → AreHeld p t x → Keeps p q seeds → before ≡ joined t x a →
    ((n : ℕ) → n ≢ a → routing_of q t z n ≡ routing_of p t x n) → IsBefore q t z a before (routing_of p t x)
before_is p q seeds t x z a before held keeps is others = record {
  this = sym (ap (option_map (entry_of q)) is ∙ entries_same p q (joined t x a) (λ h e. keeps.lists h.path.0 (joined_live p t x held a h e)));
  others = λ n ne. sym (others n ne);
  live = λ h e. keeps.live h.path.0 (joined_live p t x held a h (sym is ∙ e));
}

-- an AS that holds already what it is to get is given nothing
pub given_already : (p : PathPool) (t : Table) (x : Overlay) (a : ℕ) (new : Option Entry) → new ≡ routing_of p t x a → IsGiven p p t x x a new false
given_already p t x a new same = record {
  at = sym same;
  only = record { others = λ n ne. refl; changed_others = λ n ne. refl; settled = inl (refl, refl) };
  changed = (λ t. cc, λ ne. absurd (ne refl));
  paid = inl (omega arith, λ k. omega arith);
}
