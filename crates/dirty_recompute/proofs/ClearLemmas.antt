-- What a cleared table stands for.
use Rattle.std.proofs.Common.{◌≡◌, ◌≢◌, inl, inr, ℕ, ◌+◌, ◌<◌, ◌≤◌, Bool, true, false, true≢false, Option, Some, None, option_map, is_some, List, [], length, refl, sym, ◌∙◌, ap, subst, arith}
use Rattle.std.specs.List.{slice_get}
use Rattle.std.proofs.lemmas.Bool.{cases_eq, cases_Bool}
use Rattle.std.proofs.lemmas.Option.{slice_get_within}
use Rattle.net_names.specs.declared.routes.Rel.{Rel}
use Rattle.net_names.specs.declared.routes.State.{State}
use Rattle.net_names.specs.Numbers.{occurs}
use Rattle.net_names.proofs.Shared.{none_from}
use Rattle.policy_laws.specs.Policy.{Policy}
use Rattle.as_graph.specs.Hierarchy.{HasNoProviderCycle}
use Rattle.as_graph.specs.Topology.{Topology, relation, has}
use Rattle.path_pool.specs.declared.pool.PathPool.{PathPool}
use Rattle.stability_laws.specs.declared.entry.Entry.{Entry}
use Rattle.stability_laws.specs.declared.entry.Seed.{Seed}
use Rattle.stability_laws.specs.Book.{PolicyBook}
use Rattle.stability_laws.specs.Laws.{OneStableRouting}
use Rattle.stability_laws.specs.Offers.{offer, offer_given}
use Rattle.stability_laws.specs.Stable.{IsRight, IsRightGiven, IsStable}
use Rattle.stability_laws.specs.World.{setting}
use Rattle.route_choice.specs.declared.held.Held.{Held}
use Rattle.route_choice.specs.declared.overlay.Overlay.{Overlay}
use Rattle.route_choice.specs.declared.seeds.SeedIds.{SeedIds}
use Rattle.route_choice.specs.declared.table.Table.{Table}
use Rattle.route_choice.specs.Routings.{entry_of, routing_of, seed_of, seeds_of, table_routing}
use Rattle.route_choice.specs.Slots.{over}
use Rattle.route_choice.specs.Tables.{change_at, held_at, joined, overlay_uses, seed_at}
use Rattle.dirty_recompute.specs.Clearing.{AreCleared, IsCleared, TakesAway}
use Rattle.dirty_recompute.specs.Exact.{IsExact, AreEnough}
use Rattle.dirty_recompute.specs.Queues.{IsIn}
use Rattle.dirty_recompute.specs.Resources.{has_change, FewNewCells}
use Rattle.dirty_recompute.proofs.Loops.{occurs_in}
use Rattle.dirty_recompute.proofs.QueueLemmas.{IsInBelow}

-- without changes nothing is taken away
pub takes_none : (t : Table) (o : Overlay) → ((a : ℕ) → change_at o a ≡ None) → ((k : ℕ) → overlay_uses o k ≡ 0) → TakesAway t o
takes_none t o none uses = record { changes = λ a put. absurd (true≢false (sym put ∙ ap is_some (none a))); uses = uses }

module _ (t : Table) (o : Overlay) (takes : TakesAway t o) where
  -- who holds nothing in the table is given nothing
  pub joined_none : (a : ℕ) → held_at t a ≡ None → joined t o a ≡ None
  joined_none a held = elim (cases_Bool (has_change o a)) [
    | inl put ↦ (takes.changes a put).0
    | inr not ↦ ap (λ (c : Option (Option Held)). over c (held_at t a)) (none_from (change_at o a) not) ∙ held
  ]

  pub cleared_already : (a : ℕ) → held_at t a ≡ None → AreCleared t o o (λ b. b ≡ a)
  cleared_already a held = record { takes = takes; none = λ b is. subst (λ (x : ℕ). joined t o x ≡ None) (sym is) (joined_none a held); kept = λ b e. e }

  pub cleared_now : (o' : Overlay) (a : ℕ) → held_at t a ≢ None → change_at o' a ≡ Some None → ((b : ℕ) → b ≢ a → change_at o' b ≡ change_at o b) → ((k : ℕ) → overlay_uses o' k ≡ 0) → AreCleared t o o' (λ b. b ≡ a)
  cleared_now o' a held this others uses = record {
    takes = record {
      changes = λ b put. elim (cases_eq b a) [
        | inl is ↦ (gone b is, λ e. held (subst (λ (x : ℕ). held_at t x ≡ None) is e))
        | inr ne ↦ (let was = takes.changes b (ap is_some (sym (others b ne)) ∙ put) in (same b ne ∙ was.0, was.1))
      ];
      uses = uses;
    };
    none = gone;
    kept = λ b e. elim (cases_eq b a) [ inl is ↦ gone b is | inr ne ↦ same b ne ∙ e ];
  }
    where
      gone : (b : ℕ) → b ≡ a → joined t o' b ≡ None
      gone b is = subst (λ (x : ℕ). joined t o' x ≡ None) (sym is) (ap (λ (c : Option (Option Held)). over c (held_at t a)) this)

      same : (b : ℕ) → b ≢ a → joined t o' b ≡ joined t o b
      same b ne = ap (λ (c : Option (Option Held)). over c (held_at t b)) (others b ne)

-- nobody is cleared yet
pub cleared_none : (t : Table) (o : Overlay) (xs : List ℕ) → TakesAway t o → AreCleared t o o (IsInBelow 0 xs)
cleared_none t o xs takes = record { takes = takes; none = λ a x. (let (i, less, at) = x in absurd (omega (arith, less))); kept = λ a e. e }

-- one more is
pub cleared_next : (t : Table) (o0 o1 o2 : Overlay) (k : ℕ) (xs : List ℕ) (n : ℕ) → slice_get xs k ≡ Some n → AreCleared t o0 o1 (IsInBelow k xs) → AreCleared t o1 o2 (λ a. a ≡ n) → AreCleared t o0 o2 (IsInBelow (k + 1) xs)
cleared_next t o0 o1 o2 k xs n at first then = record {
  takes = then.takes;
  none = λ a x. (let (i, less, got) = x in elim (cases_eq i k) [
    | inl is ↦ (let both : Some a ≡ Some n = sym got ∙ ap (slice_get xs) is ∙ at in let same : a ≡ n = cc in then.none a same)
    | inr ne ↦ then.kept a (first.none a (i, (let apart : i ≢ k = ne in omega (arith, less, apart)), got))
  ]);
  kept = λ a e. then.kept a (first.kept a e);
}

-- and all are
pub cleared_whole : (t : Table) (o0 o1 : Overlay) (k : ℕ) (xs : List ℕ) → length xs ≤ k → AreCleared t o0 o1 (IsInBelow k xs) → AreCleared t o0 o1 (IsIn xs)
cleared_whole t o0 o1 k xs past all = record { takes = all.takes; none = λ a x. (let (i, got) = x in all.none a (i, (let within : i < length xs = slice_get_within xs i a got in omega (arith, within, past)), got)); kept = all.kept }

-- all ASes of two lists are cleared, and no other AS held anything
pub cleared_all : (t : Table) (o0 o1 o2 : Overlay) (rows touched : List ℕ) (g : Topology) → ((a : ℕ) → has g a ≡ true → occurs a rows ≡ true) → ((a : ℕ) → has g a ≡ false → occurs a touched ≡ false → held_at t a ≡ None) →
    AreCleared t o0 o1 (IsIn rows) → AreCleared t o1 o2 (IsIn touched) → IsCleared t o2
cleared_all t o0 o1 o2 rows touched g complete only first then = record {
  takes = then.takes;
  none = λ a. elim (cases_Bool (has g a)) [
    | inl here ↦ then.kept a (first.none a (occurs_in rows a (complete a here)))
    | inr out ↦ elim (cases_Bool (occurs a touched)) [
      | inl there ↦ then.none a (occurs_in touched a there)
      | inr away ↦ joined_none t o2 then.takes a (only a out away)
    ]
  ];
}

none_held : {A B : Type 0} (f : A → B) (o : Option A) → option_map f o ≡ None → o ≡ None
none_held f None e = refl
none_held f (Some x) e = cc

none_given : (s r : Policy) (state : ℕ → State) (n a : ℕ) (from : Option Rel) → offer_given s r state n a from None ≡ None
none_given s r state n a None = refl
none_given s r state n a (Some from) = refl

-- without seeds a routing without entries is the one stable one
module _ {P : Type 0} (meaning : P → Policy) (one : OneStableRouting meaning) (g : Topology) (book : PolicyBook P) (state : ℕ → State) (seeds : ℕ → Option Seed) (no_cycle : HasNoProviderCycle (relation g)) (unseeded : (a : ℕ) → seeds a ≡ None) where
  pub nothing_exact : (before f : ℕ → Option Entry) (changed : ℕ → Bool) → ((a : ℕ) → f a ≡ None) → ((a : ℕ) → changed a ≡ true → before a ≢ None) → ((a : ℕ) → changed a ≡ false → before a ≡ None) → IsExact (setting meaning g book state) seeds before f changed
  nothing_exact before f changed all was stayed = record {
    stable = stable;
    only = λ other is b. one g book state seeds other f no_cycle is stable b;
    differs = λ b put e. was b put (sym e ∙ all b);
    same = λ b not. all b ∙ sym (stayed b not);
  }
    where
      no_offer : (n a : ℕ) → offer (setting meaning g book state) f n a ≡ None
      no_offer n a =
          let w = setting meaning g book state in
          ap (offer_given (w.policy n) (w.policy a) w.state n a (w.relation a n)) (all n) ∙ none_given (w.policy n) (w.policy a) w.state n a (w.relation a n)

      right : (a : ℕ) → IsRight (setting meaning g book state) seeds f a
      right a =
          let w = setting meaning g book state in
          coe 1 0 (i. IsRightGiven (w.policy a) (unseeded a i) (λ n. offer w f n a) (all a i)) (λ n. no_offer n a)

      stable : IsStable (setting meaning g book state) seeds f
      stable = record { only_ases = λ a _. all a; right = λ a _. right a }

  pub cleared_exact : (pool : PathPool) (t t' : Table) (o : Overlay) → IsCleared t o → ((a : ℕ) → held_at t' a ≡ held_at t a) → IsExact (setting meaning g book state) seeds (table_routing pool t) (routing_of pool t' o) (has_change o)
  cleared_exact pool t t' o cleared same =
      nothing_exact (table_routing pool t) (routing_of pool t' o) (has_change o)
      (λ a. ap (λ (h : Option Held). option_map (entry_of pool) (over (change_at o a) h)) (same a) ∙ ap (option_map (entry_of pool)) (cleared.none a))
      (λ a put e. (cleared.takes.changes a put).1 (none_held (entry_of pool) (held_at t a) e))
      (λ a not. ap (option_map (entry_of pool)) (sym (ap (λ (c : Option (Option Held)). over c (held_at t a)) (none_from (change_at o a) not)) ∙ cleared.none a))

-- no step is taken
pub no_steps : (relation : ℕ → ℕ → Option Rel) (touched changed : ℕ → Bool) (first : ℕ) → AreEnough relation touched changed first first
no_steps relation touched changed first = record { ases = []; distinct = tt; counted = λ b there. absurd (true≢false (sym there)); enough = omega arith }

-- and no cell is needed
pub no_cells : (pool : PathPool) (o : Overlay) → FewNewCells pool pool o
no_cells pool o = record { ases = []; distinct = tt; entries = λ a there. absurd (true≢false (sym there)); few = omega arith; counts = λ k. omega arith }

-- where no AS is listed that has a seed, nobody has one
pub seeds_none : (pool : PathPool) (seeds : SeedIds) (ases : List ℕ) → ((a : ℕ) → occurs a ases ≡ is_some (seed_at seeds a)) → ases ≡ [] → (a : ℕ) → seeds_of pool seeds a ≡ None
seeds_none pool seeds ases listed empty a = ap (option_map (seed_of pool)) (none_from (seed_at seeds a) (sym (listed a) ∙ ap (occurs a) empty))
