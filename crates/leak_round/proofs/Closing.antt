-- What stands once a plan for rounds is put in place or given up.
use Rattle.std.proofs.Common.{◌≡◌, ◌≢◌, ◌⊎◌, inl, inr, ℕ, suc, ◌+◌, ◌-◌, ◌≤◌, Bool, true, false, ◌==◌, cond, Option, Some, None, option_map, List, [], ◌∷◌, refl, sym, ap, subst, ◌∙◌, arith}
use Rattle.std.specs.Prelude.{IsTrue, is_some, slice_get, fold}
use Rattle.std.specs.Option.{option_map_or}
use Rattle.std.specs.FinMap as fin
use Rattle.std.proofs.lemmas.Option.{slice_get_within}
use Rattle.net_names.specs.Prefixes.{PrefixValue}
use Rattle.path_pool.specs.declared.path_id.PathId.{PathId}
use Rattle.path_pool.specs.declared.pool.PathPool.{PathPool}
use Rattle.path_pool.specs.Pool.{IsLive, holds_of, list_of}
use Rattle.stability_laws.specs.Plans.{Plan, has_prefix}
use Rattle.route_choice.specs.declared.held.Held.{Held}
use Rattle.route_choice.specs.declared.round_tables.RoundTables.{RoundTables}
use Rattle.route_choice.specs.Holds.{GivesBack}
use Rattle.route_choice.specs.Routings.{entry_of}
use Rattle.route_choice.specs.RoundTables.{uses_at}
use Rattle.route_choice.specs.Slots.{over}
use Rattle.std.specs.List.{sum_by}
use Rattle.route_choice.proofs.Lists.{entries_same, held_live}
use Rattle.route_choice.proofs.Uses.{back_more}
use Rattle.route_choice.proofs.RoundLemmas.{tables_live}
use Rattle.leak_round.specs.declared.announced.Announced.{Announced}
use Rattle.leak_round.specs.declared.changes.Change.{Change}
use Rattle.leak_round.specs.declared.edited.EditedSeeds.{EditedSeeds}
use Rattle.leak_round.specs.declared.plans.RoundsPlan.{RoundsPlan}
use Rattle.leak_round.specs.declared.rounds.Rounds.{Rounds}
use Rattle.leak_round.specs.Announced.{is_of, own_path, announced_uses, AreAnnounced}
use Rattle.leak_round.specs.Changes.{Family, HasChanges}
use Rattle.leak_round.specs.Limits.{IsWithinLimits}
use Rattle.leak_round.specs.Overlays.{change_in, held_of, held_with, laid_in, changes_uses, IsLaid}
use Rattle.leak_round.specs.Edited.{announced_after, edited_uses, given_up, AreEdited}
use Rattle.leak_round.specs.Plans.{kept_with, plan_after, count_told, IsOpenPlan}
use Rattle.leak_round.specs.Rounds.{plan_of, kept, round_count}
use Rattle.leak_round.specs.Tables.{kept_in, entry_uses, AreRoundsFull}
use Rattle.leak_round.proofs.Committing.{change_from, held_with-live}
use Rattle.leak_round.proofs.Holding.{one_of_itself}
use Rattle.leak_round.proofs.Laying.{kept_is, uses_in, tables_there, round_place, is_at-true}
use Rattle.leak_round.proofs.Sums.{sum_by-one-le}
use Rattle.leak_round.proofs.Counting.{apart_pairs, from_stands, to_stands}
use Rattle.leak_round.proofs.Telling.{all_changed, length-all_changed, stands_changed, changed_stands, apart-all_changed}

-- who is found among the announcements is one of them
found_among : (prefix : PrefixValue) (a : ℕ) (id : PathId) (xs : List Announced) (before : Option PathId) → fold (λ found x. cond (is_of prefix a x) (Some x.path) found) before xs ≡ Some id → (before ≡ Some id) ⊎ ((i : ℕ) × (x : Announced) × (slice_get xs i ≡ Some x) × (x.path ≡ id))
found_among prefix a id [] before e = inl e
found_among prefix a id (y ∷ xs) before e = by (is_of prefix a y) refl (found_among prefix a id xs (cond (is_of prefix a y) (Some y.path) before) e)
  where
    Among : List Announced → Type 0
    Among zs = (i : ℕ) × (x : Announced) × (slice_get zs i ≡ Some x) × (x.path ≡ id)

    by : (b : Bool) → is_of prefix a y ≡ b → (cond (is_of prefix a y) (Some y.path) before ≡ Some id) ⊎ Among xs → (before ≡ Some id) ⊎ Among (y ∷ xs)
    by b is (inr (i, x, at, e)) = inr (suc i, x, at, e)
    by true is (inl e) = inr (0, y, refl, (let both : Some y.path ≡ Some id = sym (ap (λ c. cond c (Some y.path) before) is) ∙ e in cc))
    by false is (inl e) = inl (sym (ap (λ c. cond c (Some y.path) before) is) ∙ e)

module _ (old new : PathPool) (plan : Plan) (xs : List Announced) (h : AreAnnounced old plan xs) (lists : (k : ℕ) → IsLive old k → IsLive new k → list_of new k ≡ list_of old k) (held : (k : ℕ) → announced_uses xs k ≤ holds_of new k) where
  one_live : (i : ℕ) (x : Announced) → slice_get xs i ≡ Some x → IsLive new x.path.0
  one_live i x at = held_live new x.path.0 (omega (arith, held x.path.0, sum_by-one-le (λ (y : Announced). cond (y.path.0 == x.path.0) 1 0) xs i x at, one_of_itself x.path.0))

  own_live : (prefix : PrefixValue) (a : ℕ) (id : PathId) → own_path xs prefix a ≡ Some id → IsLive new id.0
  own_live prefix a id e = elim (found_among prefix a id xs None e) [
    | inl nothing ↦ absurd (let n : None ≡ Some id = nothing in cc)
    | inr there ↦ (let (i, x, at, is) = there in subst (λ (k : PathId). IsLive new k.0) is (one_live i x at))
  ]

  -- the announcements stand in a pool that kept their holds
  pub announced_back : AreAnnounced new plan xs
  announced_back = record {
    live = own_live;
    each = λ i x at. (let (alive, own) = h.each i x at in (one_live i x at, own ∙ ap (λ (l : List ℕ). Some l) (sym (lists x.path.0 alive (one_live i x at)))));
    paths = λ prefix a known. by prefix a (own_path xs prefix a) refl ∙ h.paths prefix a known;
    few = h.few;
  }
    where
      by : (prefix : PrefixValue) (a : ℕ) (o : Option PathId) → own_path xs prefix a ≡ o → option_map (λ id. list_of new id.0) o ≡ option_map (λ id. list_of old id.0) o
      by prefix a None e = refl
      by prefix a (Some id) e = ap (λ (l : List ℕ). Some l) (lists id.0 (h.live prefix a id e) (own_live prefix a id e))

-- what is kept is the same in a pool that kept the holds
pub laid_back : (old new : PathPool) (rounds : List RoundTables) (xs : List Change) → GivesBack old new → ((k : ℕ) → entry_uses rounds k + changes_uses xs k ≤ holds_of new k) → (round : ℕ) (prefix : PrefixValue) (a : ℕ) → laid_in new rounds xs round prefix a ≡ laid_in old rounds xs round prefix a
laid_back old new rounds xs back held round prefix a = entries_same old new (held_with rounds xs round prefix a) (λ d e. back.lists d.path.0 (held_with-live new rounds xs held round prefix a d e))

pub kept_back : (old new : PathPool) (rounds : List RoundTables) → GivesBack old new → ((k : ℕ) → entry_uses rounds k ≤ holds_of new k) → (round : ℕ) (prefix : PrefixValue) (a : ℕ) → kept_in new rounds round prefix a ≡ kept_in old rounds round prefix a
kept_back old new rounds back held round prefix a = kept_is new rounds round prefix a ∙ laid_back old new rounds [] back (λ k. omega (arith, held k)) round prefix a ∙ sym (kept_is old rounds round prefix a)

pub full_back : (old new : PathPool) (plan after : Plan) (rounds : List RoundTables) → after.prefixes ≡ plan.prefixes → ((k : ℕ) → entry_uses rounds k ≤ holds_of new k) → AreRoundsFull old plan rounds → AreRoundsFull new after rounds
full_back old new plan after rounds e held full round tables at =
    let was = full round tables at in
    record {
      there = λ p. was.there p ∙ ap (λ s. fin.contains_key s p) (sym e);
      by_prefix = was.by_prefix;
      live = tables_live new tables (λ k. omega (arith, held k, uses_in rounds round tables at k));
      size = record {
        sums = λ k. was.size.sums k ∙ ap (λ s. sum_by (λ p. uses_at tables p k) (fin.keys s)) (sym e);
        small = was.size.small;
      };
    }

-- the seeds after a plan
module _ (pool : PathPool) (plan : Plan) (xs : List Announced) (limits : IsWithinLimits plan) (here : AreAnnounced pool plan xs) (edited : Option EditedSeeds) (are : AreEdited pool plan edited) where
  pub uses_taken : (k : ℕ) → announced_uses (announced_after edited xs) k + given_up edited xs k ≡ announced_uses xs k + edited_uses edited k
  uses_taken k = by edited
    where
      by : (o : Option EditedSeeds) → announced_uses (announced_after o xs) k + given_up o xs k ≡ announced_uses xs k + edited_uses o k
      by None = omega arith
      by (Some e) = omega arith

  pub prefixes_taken : (option_map_or (λ e. e.plan) edited plan).prefixes ≡ plan.prefixes
  prefixes_taken = by edited are
    where
      by : (o : Option EditedSeeds) → AreEdited pool plan o → (option_map_or (λ e. e.plan) o plan).prefixes ≡ plan.prefixes
      by None w = refl
      by (Some e) w = (w e refl).prefixes

  pub limits_taken : IsWithinLimits (option_map_or (λ e. e.plan) edited plan)
  limits_taken = by edited are
    where
      by : (o : Option EditedSeeds) → AreEdited pool plan o → IsWithinLimits (option_map_or (λ e. e.plan) o plan)
      by None w = limits
      by (Some e) w = (w e refl).limits

  pub announced_taken : AreAnnounced pool (option_map_or (λ e. e.plan) edited plan) (announced_after edited xs)
  announced_taken = by edited are
    where
      by : (o : Option EditedSeeds) → AreEdited pool plan o → AreAnnounced pool (option_map_or (λ e. e.plan) o plan) (announced_after o xs)
      by None w = here
      by (Some e) w = (w e refl).announced

-- the changes of the open plan are those that are told
module _ (r : Rounds) (p : RoundsPlan) (open_plan : IsOpenPlan r p) where
  pub has_changes : (after : Plan) (count : ℕ) → after.prefixes ≡ (plan_of r).prefixes → count ≡ round_count r → (now : Family) → ((round : ℕ) (prefix : PrefixValue) (a : ℕ) → now round prefix a ≡ kept_with r p round prefix a)
      → HasChanges after count (kept r) now (count_told p.done)
  has_changes after count prefixes rounds now is = (
    all_changed p.changes.items,
    apart_pairs (all_changed p.changes.items) (apart-all_changed r.tables.items p.changes.items open_plan.changes),
    length-all_changed p.changes.items ∙ sym open_plan.count,
    λ round prefix a. (
      (λ c. changed (round, (prefix, a)) (stands_changed r.tables.items p.changes.items open_plan.changes (round, (prefix, a)) (to_stands (all_changed p.changes.items) (round, (prefix, a)) c))),
      (λ h. from_stands (all_changed p.changes.items) (round, (prefix, a)) (changed_stands r.tables.items p.changes.items open_plan.changes (round, (prefix, a)) (by (round, (prefix, a)) h (change_in p.changes.items round prefix a) refl))),
    ),
  )
    where
      Differs : ℕ × (PrefixValue × ℕ) → Type 0
      Differs t = (1 ≤ t.0) × (t.0 ≤ count) × IsTrue (has_prefix after t.1.0) × (now t.0 t.1.0 t.1.1 ≢ kept r t.0 t.1.0 t.1.1)

      by : (t : ℕ × (PrefixValue × ℕ)) → Differs t → (o : Option (Option Held)) → change_in p.changes.items t.0 t.1.0 t.1.1 ≡ o → is_some (change_in p.changes.items t.0 t.1.0 t.1.1) ≡ true
      by t h (Some c) e = ap is_some e
      by t h None e = absurd (h.3 (is t.0 t.1.0 t.1.1
          ∙ ap (λ (o : Option (Option Held)). option_map (entry_of r.pool) (over o (held_of r.tables.items t.0 t.1.0 t.1.1))) e
          ∙ sym (kept_is r.pool r.tables.items t.0 t.1.0 t.1.1)))

      some_of : {X : Type 0} (o : Option X) → is_some o ≡ true → (x : X) × (o ≡ Some x)
      some_of None e = cc
      some_of (Some x) e = (x, refl)

      changed : (t : ℕ × (PrefixValue × ℕ)) → is_some (change_in p.changes.items t.0 t.1.0 t.1.1) ≡ true → Differs t
      changed t s =
          let (o, e) = some_of (change_in p.changes.items t.0 t.1.0 t.1.1) s in
          let (i, x, at, here, c) = change_from p.changes.items t.0 t.1.0 t.1.1 o e in
          let (same_round, same_prefix) = is_at-true t.0 t.1.0 x here in
          let f = open_plan.changes.fits i x at in
          let (tables, in_round, in_tables) = tables_there r.tables.items x.round x.prefix f.table f.at in
          let (some, place) = round_place r.tables.items x.round tables in_round in
          let within = slice_get_within r.tables.items (x.round - 1) tables place in (
            omega (arith, some, same_round),
            omega (arith, within, same_round, rounds, some),
            ap (λ s. fin.contains_key s t.1.0) prefixes ∙ subst (λ q. IsTrue (has_prefix r.plan q)) same_prefix (sym ((r.full x.round tables in_round).there x.prefix) ∙ ap is_some in_tables),
            λ same. open_plan.differs t.0 t.1.0 t.1.1 s (sym (is t.0 t.1.0 t.1.1) ∙ same),
          )

  -- the holds of announced paths beside those of the tables and the changes
  pub others : ℕ → ℕ
  others k = announced_uses r.announced.items k + edited_uses p.edited k

  pub laid_first : IsLaid r.plan (kept_with r p) others r.pool r.tables.items p.changes.items
  unfolding others
  laid_first = record { changes = open_plan.changes; full = r.full; holds = λ k. omega (arith, open_plan.holds k); same = λ round prefix a. refl }

  pub enough_first : (first : PathPool) (tables : List RoundTables) → IsLaid r.plan (kept_with r p) others first tables [] → (k : ℕ) → announced_uses r.announced.items k ≤ holds_of first k
  unfolding others
  enough_first first tables done k = omega (arith, done.holds k)

  -- all changes are put in place, and then the seeds
  module _ (first second : PathPool) (tables : List RoundTables) (done : IsLaid r.plan (kept_with r p) others first tables []) (back : GivesBack r.pool first) (back' : GivesBack first second) (holds : (k : ℕ) → holds_of second k + given_up p.edited r.announced.items k ≡ holds_of first k) where
    pub holds_done : (k : ℕ) → holds_of second k ≡ entry_uses tables k + announced_uses (announced_after p.edited r.announced.items) k
    unfolding others
    holds_done k = omega (arith, holds k, done.holds k, uses_taken r.pool r.plan r.announced.items r.limits r.announcements p.edited open_plan.edited k)

    pub announced_done : AreAnnounced second (plan_after r p) (announced_after p.edited r.announced.items)
    announced_done = announced_back r.pool second (plan_after r p) (announced_after p.edited r.announced.items) (announced_taken r.pool r.plan r.announced.items r.limits r.announcements p.edited open_plan.edited) (λ k was is. (back_more r.pool first second back back').lists k is) (λ k. omega (arith, holds_done k))

    pub full_done : AreRoundsFull second (plan_after r p) tables
    full_done = full_back first second r.plan (plan_after r p) tables (prefixes_taken r.pool r.plan r.announced.items r.limits r.announcements p.edited open_plan.edited) (λ k. omega (arith, holds_done k)) done.full

    pub kept_done : (round : ℕ) (prefix : PrefixValue) (a : ℕ) → kept_in second tables round prefix a ≡ kept_with r p round prefix a
    kept_done round prefix a = kept_back first second tables back' (λ k. omega (arith, holds_done k)) round prefix a ∙ kept_is first tables round prefix a ∙ done.same round prefix a

  -- all changes are given up, and then the seeds
  module _ (first second : PathPool) (back : GivesBack r.pool first) (back' : GivesBack first second) (holds : (k : ℕ) → holds_of first k + changes_uses p.changes.items k ≡ holds_of r.pool k) (holds' : (k : ℕ) → holds_of second k + edited_uses p.edited k ≡ holds_of first k) where
    pub holds_undone : (k : ℕ) → holds_of second k ≡ entry_uses r.tables.items k + announced_uses r.announced.items k
    holds_undone k = omega (arith, holds k, holds' k, open_plan.holds k)

    pub announced_undone : AreAnnounced second r.plan r.announced.items
    announced_undone = announced_back r.pool second r.plan r.announced.items r.announcements (λ k was is. (back_more r.pool first second back back').lists k is) (λ k. omega (arith, holds_undone k))

    pub full_undone : AreRoundsFull second r.plan r.tables.items
    full_undone = full_back r.pool second r.plan r.plan r.tables.items refl (λ k. omega (arith, holds_undone k)) r.full

    pub kept_undone : (round : ℕ) (prefix : PrefixValue) (a : ℕ) → kept_in second r.tables.items round prefix a ≡ kept r round prefix a
    kept_undone round prefix a = kept_back r.pool second r.tables.items (back_more r.pool first second back back') (λ k. omega (arith, holds_undone k)) round prefix a
