-- Entries whose paths stay.
use Rattle.std.specs.Prelude.{is_some}
use Rattle.std.proofs.lemmas.Bool.{cases_eq, ne_eqb}
use Rattle.std.proofs.Common.{true, false, cond, inl, inr, subst, ◌≢◌, unwrap_or, ◌≡◌, ℕ, ◌<◌, ◌≤◌, Option, Some, None, option_map, List, refl, ap, arith, ◌∙◌}
use Rattle.path_pool.specs.declared.pool.PathPool.{PathPool}
use Rattle.path_pool.specs.Pool.{IsLive, holds_of, list_of}
use Rattle.stability_laws.specs.declared.entry.Entry.{Entry}
use Rattle.stability_laws.specs.declared.entry.Seed.{Seed}
use Rattle.route_choice.specs.declared.held.Held.{Held}
use Rattle.route_choice.specs.declared.held.SeedHeld.{SeedHeld}
use Rattle.route_choice.specs.Slots.{Slots, entry_at, over, use_of, uses_of}
use Rattle.route_choice.specs.Holds.{GivesBack}
use Rattle.route_choice.specs.Routings.{entry_of, seed_of, routing_of}
use Rattle.route_choice.specs.Tables.{held_at, change_at, joined, seed_at}
use Rattle.route_choice.specs.Resources.{AreHeld, AreLive, AreSeedsLive, Spends, GivesUpNothing, Keeps}
use Rattle.route_choice.specs.declared.table.Table.{Table}
use Rattle.route_choice.specs.declared.overlay.Overlay.{Overlay}
use Rattle.route_choice.specs.declared.seeds.SeedIds.{SeedIds}
use Rattle.route_choice.proofs.Uses.{use_of-le, use_of-itself}

-- a path that is held is live
pub held_live : (p : PathPool) (k : ℕ) → 0 < holds_of p k → IsLive p k
held_live p k h = omega arith

-- the path of an entry is live, where there are as many holds as uses
pub entry_live : (p : PathPool) (m : Slots) → ((k : ℕ) → uses_of m k ≤ holds_of p k) → (a : ℕ) (h : Held) → entry_at m a ≡ Some h → IsLive p h.path.0
entry_live p m held a h e =
    held_live p h.path.0 (omega (arith, use_of-le m a h.path.0, ap (use_of h.path.0) e, use_of-itself h, held h.path.0))

-- an entry stays where its path does
pub entry_of-same : (p q : PathPool) (h : Held) → list_of q h.path.0 ≡ list_of p h.path.0 → entry_of q h ≡ entry_of p h
entry_of-same p q h e =
    let with : List ℕ → Entry = λ l. record { class = h.class; path = l; otc = h.otc } in
    ap with e

pub entries_same : (p q : PathPool) (o : Option Held) → ((h : Held) → o ≡ Some h → list_of q h.path.0 ≡ list_of p h.path.0) → option_map (entry_of q) o ≡ option_map (entry_of p) o
entries_same p q None same = refl
entries_same p q (Some h) same = ap Some (entry_of-same p q h (same h refl))

-- entries that are held keep their paths when other holds are given back
pub back_same : (p q : PathPool) (m : Slots) → GivesBack p q → ((k : ℕ) → uses_of m k ≤ holds_of q k) → (a : ℕ) → option_map (entry_of q) (entry_at m a) ≡ option_map (entry_of p) (entry_at m a)
back_same p q m back held a = entries_same p q (entry_at m a) (λ h e. back.lists h.path.0 (entry_live q m held a h e))

-- a seed that is there stands for one
pub seed_there : (p : PathPool) (o : Option SeedHeld) → is_some o ≡ true → (s : Seed) × (option_map (seed_of p) o ≡ Some s)
seed_there p None e = cc
seed_there p (Some s) e = (seed_of p s, refl)

-- the path of each entry that is held is live
pub joined_live : (p : PathPool) (t : Table) (o : Overlay) → AreHeld p t o → AreLive p t o
joined_live p t o held a h e = by (change_at o a) refl e
  where
    by : (x : Option (Option Held)) → change_at o a ≡ x → over x (held_at t a) ≡ Some h → IsLive p h.path.0
    by None at is = entry_live p t.slots (λ k. omega (arith, held k)) a h is
    by (Some c) at is = entry_live p o.changes (λ k. omega (arith, held k)) a h (ap (λ (x : Option (Option Held)). unwrap_or x None) at ∙ is)

-- after a change the entries are held as before
pub spent_held : (p p' : PathPool) (t : Table) (o o' : Overlay) (a : ℕ) → AreHeld p t o → Spends p p' o o' a → AreHeld p' t o'
spent_held p p' t o o' a held s = λ k. omega (arith, held k, s.holds k)

-- and those of the other ASes are as before
pub spent_same : (p p' : PathPool) (t : Table) (o o' : Overlay) (a : ℕ) → AreHeld p t o → Spends p p' o o' a → (n : ℕ) → n ≢ a → routing_of p' t o' n ≡ routing_of p t o n
spent_same p p' t o o' a held s n ne =
    let same : joined t o' n ≡ joined t o n = ap (λ (x : Option (Option Held)). over x (held_at t n)) (s.others n ne) in
    ap (option_map (entry_of p')) same
    ∙ entries_same p p' (joined t o n) (λ h e. s.lists h.path.0 (joined_live p t o held n h e) (joined_live p' t o' (spent_held p p' t o o' a held s) n h (same ∙ e)))

pub nothing_there : {X : Type 0} (o : Option X) → is_some o ≡ false → o ≡ None
nothing_there None e = refl
nothing_there (Some x) e = cc

-- one entry uses no more than there are holds, where its path has one
pub one_use : (p : PathPool) (h : Held) (k : ℕ) → 1 ≤ holds_of p h.path.0 → use_of k (Some h) ≤ holds_of p k
one_use p h k held = elim (cases_eq h.path.0 k) [
  | inl same ↦ subst (λ i. use_of i (Some h) ≤ holds_of p i) same (omega (arith, held, use_of-itself h))
  | inr apart ↦ (let none : use_of k (Some h) ≡ 0 = ap {B = ℕ} (λ b. cond b 1 0) (ne_eqb h.path.0 k apart) in omega (arith, none))
]

-- seeds are as before where their paths are
pub seeds_same : (p q : PathPool) (o : Option SeedHeld) → ((s : SeedHeld) → o ≡ Some s → list_of q s.path.0 ≡ list_of p s.path.0) → option_map (seed_of q) o ≡ option_map (seed_of p) o
seeds_same p q None same = refl
seeds_same p q (Some s) same =
    let with : List ℕ → Seed = λ l. record { path = l; otc = s.otc } in
    ap Some (ap with (same s refl))

-- who holds nothing has no entry among the changes
pub none_among : (p : PathPool) (x : Option (Option Held)) (below : Option Held) → option_map (entry_of p) (over x below) ≡ None → unwrap_or x None ≡ None
none_among p None below none = refl
none_among p (Some None) below none = refl
none_among p (Some (Some h)) below none = cc

-- a change that gives nothing up keeps all that was live
pub keeps_entry : (p q : PathPool) (s : SeedIds) (t : Table) (o o' : Overlay) (a : ℕ) → AreSeedsLive p s →
    ((k : ℕ) → IsLive p k → IsLive q k → list_of q k ≡ list_of p k) → (unwrap_or (change_at o a) None ≡ None → (k : ℕ) → IsLive p k → IsLive q k) →
    routing_of q t o' a ≢ routing_of p t o a → GivesUpNothing o (routing_of p t o) (routing_of q t o') a → Keeps p q s
keeps_entry p q s t o o' a seeds lists kept changed up =
    let none : unwrap_or (change_at o a) None ≡ None = elim up [
      | inl absent ↦ ap (λ (x : Option (Option Held)). unwrap_or x None) absent
      | inr held ↦ elim held [ inl nothing ↦ none_among p (change_at o a) (held_at t a) nothing | inr same ↦ absurd (changed same) ]
    ] in
    record {
      live = kept none;
      lists = λ k l. lists k l (kept none k l);
      same_seeds = λ b. seeds_same p q (seed_at s b) (λ x e. lists x.path.0 (seeds b x e) (kept none x.path.0 (seeds b x e)));
    }
