-- The changes of one table more are found.
use Rattle.std.proofs.Common.{◌≡◌, ◌≢◌, ◌⊎◌, inl, inr, ℕ, zero, suc, ◌+◌, ◌-◌, ◌<◌, ◌≤◌, Bool, true, false, ◌||◌, cond, Option, Some, None, option_map, is_some, List, [], ◌∷◌, ◌++◌, map, length, refl, sym, ap, subst, ◌∙◌, arith}
use Rattle.std.specs.Prelude.{slice_get, option_and_then}
use Rattle.std.proofs.lemmas.Bool.{true≢false, cases_eq, or_cases, or_left, or_right}
use Rattle.std.proofs.lemmas.List.{length-append, length-map}
use Rattle.std.proofs.lemmas.List.Folds.{list_any-append}
use Rattle.std.proofs.lemmas.List.Sums.{sum_by_push}
use Rattle.std.proofs.lemmas.Option.{slice_get_within}
use Rattle.net_names.specs.Numbers.{occurs}
use Rattle.net_names.specs.Prefixes.{PrefixValue}
use Rattle.as_graph.specs.Topology.{Topology, relation}
use Rattle.path_pool.specs.declared.pool.PathPool.{PathPool}
use Rattle.path_pool.specs.Pool.{holds_of}
use Rattle.stability_laws.specs.declared.entry.Entry.{Entry}
use Rattle.stability_laws.specs.declared.entry.Seed.{Seed}
use Rattle.stability_laws.specs.Offers.{Setting}
use Rattle.stability_laws.specs.Stable.{IsStable}
use Rattle.stability_laws.specs.Plans.{Plan}
use Rattle.stability_laws.specs.Rounds.{seeds_of as seeds_in}
use Rattle.route_choice.specs.declared.held.Held.{Held}
use Rattle.route_choice.specs.declared.overlay.Overlay.{Overlay}
use Rattle.route_choice.specs.declared.round_tables.RoundTables.{RoundTables}
use Rattle.route_choice.specs.declared.seeds.SeedIds.{SeedIds}
use Rattle.route_choice.specs.declared.table.Table.{Table}
use Rattle.route_choice.specs.Routings.{entry_of, routing_of, seeds_of, table_routing}
use Rattle.route_choice.specs.Slots.{over}
use Rattle.route_choice.specs.Tables.{held_at, change_at, overlay_uses, places_of, HasRoomForChanges}
use Rattle.route_choice.proofs.Lists.{entries_same}
use Rattle.dirty_recompute.specs.Exact.{AreEnough}
use Rattle.dirty_recompute.specs.Resources.{has_change}
use Rattle.leak_round.specs.declared.announced.Announced.{Announced}
use Rattle.leak_round.specs.declared.changes.Change.{Change}
use Rattle.leak_round.specs.Bounds.{IsCountedAt, IsCountedIn}
use Rattle.leak_round.specs.Differing.{AreWrongIn}
use Rattle.leak_round.specs.Entries.{StandsIn}
use Rattle.leak_round.specs.Growth.{KeepsPaths}
use Rattle.leak_round.specs.Overlays.{is_at, change_in, held_of, held_with, laid_in, changes_uses, FitsIn, IsListed, AreChangesOf}
use Rattle.leak_round.specs.Found.{CanFind, AreFound, AreRoomed, AreSame, IsAdded, IsDone, IsPaid, IsTableAdded, AreTableChanges, IsTurn, is_changed_in, course_of, is_found}
use Rattle.leak_round.specs.Tables.{kept_in, entry_uses}
use Rattle.leak_round.proofs.Changing.{kept_here, now_are, was_are}
use Rattle.leak_round.proofs.Committing.{held_with-live}
use Rattle.leak_round.proofs.Counting.{apart_appended, apart_mapped, apart_numbers, from_appended, from_mapped, stands_occurs}
use Rattle.leak_round.proofs.Laying.{apart_false, change_in-first, change_in-last, here_true, is_at-true}
use Rattle.leak_round.proofs.Listing.{got_before, got_either}
use Rattle.leak_round.proofs.Roomed.{kept_same}

-- a change is of a table of which changes are found
pub found_from : (cs : List Change) (i : ℕ) (y : Change) → slice_get cs i ≡ Some y → (round : ℕ) (prefix : PrefixValue) → is_at round prefix y ≡ true → is_found cs round prefix ≡ true
found_from [] i y at round prefix here = cc
found_from (z ∷ cs) zero y at round prefix here = let same : z ≡ y = cc in or_left (is_at round prefix z) (is_found cs round prefix) (ap (is_at round prefix) same ∙ here)
found_from (z ∷ cs) (suc i) y at round prefix here = or_right (is_at round prefix z) (is_found cs round prefix) (found_from cs i y at round prefix here)

module _ (cs : List Change) (x : Change) where
  more_found : (r : ℕ) (p : PrefixValue) → is_found (cs ++ x ∷ []) r p ≡ (is_found cs r p || (is_at r p x || false))
  more_found r p = list_any-append (is_at r p) cs (x ∷ [])

  pub added : IsAdded cs (cs ++ x ∷ []) x.round x.prefix
  added = record {
    this = more_found x.round x.prefix ∙ or_right (is_found cs x.round x.prefix) (is_at x.round x.prefix x || false) (or_left (is_at x.round x.prefix x) false (here_true x));
    kept = λ r p h. more_found r p ∙ or_left (is_found cs r p) (is_at r p x || false) h;
    only = λ r p h. elim (or_cases (is_found cs r p) (is_at r p x || false) (sym (more_found r p) ∙ h)) [
      | inl before ↦ inl before
      | inr now ↦ elim (or_cases (is_at r p x) false now) [
        | inl here ↦ inr (let parts = is_at-true r p x here in (sym parts.0, sym parts.1))
        | inr never ↦ absurd (true≢false (sym never))
      ]
    ];
  }

-- the changes of one table, said of its seeds before and after the edit
pub record IsOneFound (w : Setting) (g : Topology) (touched : ℕ → Bool) (was seeds : ℕ → Option Seed) (pool pool' : PathPool) (t t' : Table) (last next : ℕ) (o : Overlay) : Type 0 where
  pub stable : IsStable w seeds (routing_of pool' t' o)
  pub differs : (a : ℕ) → has_change o a ≡ true → routing_of pool' t' o a ≢ table_routing pool t a
  pub ases : List ℕ
  pub only : (b : ℕ) → occurs b ases ≡ true → (touched b ≡ true) ⊎ (seeds b ≢ was b)
  pub enough : AreEnough (relation g) (λ b. occurs b ases) (has_change o) last next
  pub spare : HasRoomForChanges t' o
  pub listed : IsListed o
  pub keeps : KeepsPaths pool pool'

module _ (w : PrefixValue → Setting) (g : Topology) (touched : PrefixValue → ℕ → Bool) (plan after : Plan) (xs ys : List Announced) (pool : PathPool) (rounds : List RoundTables) (cs : List Change) (first last : ℕ)
    (can : CanFind w g touched plan after xs ys pool rounds) (held : (k : ℕ) → entry_uses rounds k + changes_uses cs k ≤ holds_of pool k) (so_far : AreFound w g touched plan after pool rounds cs first last)
    (x : Change) (turn : IsTurn plan (length rounds) cs x.round x.prefix) (was seeds : ℕ → Option Seed)
    (was_is : (a : ℕ) → was a ≡ seeds_in plan x.round x.prefix (kept_in pool rounds (x.round - 1) x.prefix) a) (now_is : (a : ℕ) → seeds a ≡ seeds_in after x.round x.prefix (laid_in pool rounds cs (x.round - 1) x.prefix) a)
    (pool' : PathPool) (rounds' : List RoundTables) (roomed : AreRoomed rounds rounds' x.round x.prefix) (same : AreSame rounds rounds') (next : ℕ)
    (found : IsOneFound (w x.prefix) g (touched x.prefix) was seeds pool pool' roomed.was roomed.now last next x.overlay) where
  -- no change so far is of this table
  fresh : (i : ℕ) (y : Change) → slice_get cs i ≡ Some y → is_at x.round x.prefix y ≡ false
  fresh i y at = by (is_at x.round x.prefix y) refl
    where
      by : (b : Bool) → is_at x.round x.prefix y ≡ b → b ≡ false
      by false e = refl
      by true e = absurd (true≢false (sym (found_from cs i y at x.round x.prefix e) ∙ turn.fresh))

  -- other tables
  module _ (r : ℕ) (p : PrefixValue) (apart : (r ≢ x.round) ⊎ (p ≢ x.prefix)) where
    other : is_at r p x ≡ false
    other = apart_false r p x (elim apart [ inl ne ↦ inl (λ e. ne (sym e)) | inr ne ↦ inr (λ e. ne (sym e)) ])

    change_other : (a : ℕ) → change_in (cs ++ x ∷ []) r p a ≡ change_in cs r p a
    change_other a = change_in-first cs x r p a other

    held_other : (a : ℕ) → held_with rounds' (cs ++ x ∷ []) r p a ≡ held_with rounds cs r p a
    held_other a = ap (λ (o : Option (Option Held)). over o (held_of rounds' r p a)) (change_other a) ∙ ap (over (change_in cs r p a)) (same.entries r p a)

    laid_other : (a : ℕ) → laid_in pool' rounds' (cs ++ x ∷ []) r p a ≡ laid_in pool rounds cs r p a
    laid_other a =
        entries_same pool pool' (held_with rounds' (cs ++ x ∷ []) r p a) (λ d e. found.keeps.lists d.path.0 (held_with-live pool rounds cs held r p a d (sym (held_other a) ∙ e)))
        ∙ ap (option_map (entry_of pool)) (held_other a)

  kept_still : (r : ℕ) (p : PrefixValue) (a : ℕ) → kept_in pool' rounds' r p a ≡ kept_in pool rounds r p a
  kept_still = kept_same plan pool pool' rounds rounds' found.keeps same can.full

  -- this table
  change_here : (a : ℕ) → change_in (cs ++ x ∷ []) x.round x.prefix a ≡ change_at x.overlay a
  change_here a = change_in-last cs x x.round x.prefix fresh a ∙ ap (λ b. cond b (change_at x.overlay a) None) (here_true x)

  laid_here : (a : ℕ) → laid_in pool' rounds' (cs ++ x ∷ []) x.round x.prefix a ≡ routing_of pool' roomed.now x.overlay a
  laid_here a = ap (option_map (entry_of pool')) (
      ap (λ (o : Option (Option Held)). over o (held_of rounds' x.round x.prefix a)) (change_here a)
      ∙ ap (λ (o : Option Table). over (change_at x.overlay a) (option_and_then (λ (t : Table). held_at t a) o)) roomed.now_at)

  was_here : (a : ℕ) → table_routing pool roomed.was a ≡ kept_in pool rounds x.round x.prefix a
  was_here a = kept_here pool rounds x.round x.prefix roomed.was roomed.was_at a

  before_apart : (x.round - 1 ≢ x.round) ⊎ (x.prefix ≢ x.prefix)
  before_apart = inl (λ e. (let from = turn.from in omega (arith, e, from)))

  now_seed : (a : ℕ) → seeds a ≡ seeds_in after x.round x.prefix (laid_in pool' rounds' (cs ++ x ∷ []) (x.round - 1) x.prefix) a
  now_seed a =
      let F : (ℕ → Option Entry) → Option Seed = λ f. seeds_in after x.round x.prefix f a in
      now_is a ∙ sym (ap F (λ i b. laid_other (x.round - 1) x.prefix before_apart b i))

  was_seed : (a : ℕ) → was a ≡ seeds_in plan x.round x.prefix (kept_in pool' rounds' (x.round - 1) x.prefix) a
  was_seed a =
      let F : (ℕ → Option Entry) → Option Seed = λ f. seeds_in plan x.round x.prefix f a in
      was_is a ∙ sym (ap F (λ i b. kept_still (x.round - 1) x.prefix b i))

  Done : ℕ → PrefixValue → Type 0
  Done r p = IsDone (w p) after r p (kept_in pool' rounds' r p) (laid_in pool' rounds' (cs ++ x ∷ []) (r - 1) p) (laid_in pool' rounds' (cs ++ x ∷ []) r p) (is_changed_in (cs ++ x ∷ []) r p)

  done_here : IsDone (w x.prefix) after x.round x.prefix (kept_in pool' rounds' x.round x.prefix) (laid_in pool' rounds' (cs ++ x ∷ []) (x.round - 1) x.prefix) (laid_in pool' rounds' (cs ++ x ∷ []) x.round x.prefix) (is_changed_in (cs ++ x ∷ []) x.round x.prefix)
  done_here = record {
    stable = (let F : (ℕ → Option Seed) → (ℕ → Option Entry) → Type 0 = λ s f. IsStable (w x.prefix) s f in coe 0 1 (i. F (λ a. now_seed a i) (λ a. sym (laid_here a) i)) found.stable);
    differs = λ a changed e. found.differs a (sym (ap is_some (change_here a)) ∙ changed) (sym (laid_here a) ∙ e ∙ kept_still x.round x.prefix a ∙ sym (was_here a));
  }

  -- a table of which changes were found is another one, and so is its table in the round before
  module _ (r : ℕ) (p : PrefixValue) (before : is_found cs r p ≡ true) where
    not_this : (r ≢ x.round) ⊎ (p ≢ x.prefix)
    not_this = elim (cases_eq r x.round) [
      | inr ne ↦ inl ne
      | inl e ↦ inr (λ q. true≢false (sym before ∙ (λ i. is_found cs (e i) (q i)) ∙ turn.fresh))
    ]

    not_next : (r - 1 ≢ x.round) ⊎ (p ≢ x.prefix)
    not_next = inl (λ e. (let from = turn.from in let latest = turn.latest r p before in omega (arith, e, from, latest)))

    done_other : Done r p
    unfolding Done
    done_other =
        let F : (ℕ → Option Entry) → (ℕ → Option Entry) → (ℕ → Option Entry) → (ℕ → Bool) → Type 0 = λ k b n c. IsDone (w p) after r p k b n c in
        coe 1 0 (i. F (λ a. kept_still r p a i) (λ a. laid_other (r - 1) p not_next a i) (λ a. laid_other r p not_this a i) (λ a. is_some (change_other r p not_this a i))) (so_far.done r p before)

  done_all : (r : ℕ) (p : PrefixValue) → is_found (cs ++ x ∷ []) r p ≡ true → Done r p
  unfolding Done
  done_all r p h = elim ((added cs x).only r p h) [
    | inl before ↦ done_other r p before
    | inr here ↦ coe 1 0 (i. Done (here.0 i) (here.1 i)) done_here
  ]

  abbrev triple : ℕ → ℕ × (PrefixValue × ℕ)
  triple b = (x.round, (x.prefix, b))

  one_triple : (b c : ℕ) → triple b ≡ triple c → b ≡ c
  one_triple b c e = ap (λ (t : ℕ × (PrefixValue × ℕ)). t.1.1) e

  counted_here : (b : ℕ) → occurs b found.enough.ases ≡ true → IsCountedIn (relation g) (course_of plan after touched pool' rounds' (cs ++ x ∷ [])) (triple b)
  counted_here b o = elim (found.enough.counted b o) [
    | inl listed ↦ elim (found.only b listed) [ inl t ↦ inl t | inr d ↦ inr (inl (λ e. d (now_seed b ∙ e ∙ sym (was_seed b)))) ]
    | inr near ↦ (let (c, r, is, changed) = near in inr (inr (c, r, is, ap is_some (change_here c) ∙ changed)))
  ]

  counted_other : (t : ℕ × (PrefixValue × ℕ)) → StandsIn t so_far.triples → IsCountedIn (relation g) (course_of plan after touched pool' rounds' (cs ++ x ∷ [])) t
  counted_other t s =
      let before = so_far.of_tables t s in
      let F : (ℕ → Option Entry) → (ℕ → Option Entry) → (ℕ → Bool) → Type 0 =
      λ k n c. IsCountedAt (relation g) (touched t.1.0) (seeds_in plan t.0 t.1.0 k) (seeds_in after t.0 t.1.0 n) c t.1.1 in
      coe 1 0 (i. F (λ a. kept_still (t.0 - 1) t.1.0 a i) (λ a. laid_other (t.0 - 1) t.1.0 (not_next t.0 t.1.0 before) a i) (λ a. is_some (change_other t.0 t.1.0 (not_this t.0 t.1.0 before) a i))) (so_far.counted t s)

  changes_more : AreChangesOf rounds' (cs ++ x ∷ [])
  changes_more = record {
    fits = λ i y at. elim (got_either cs x i y at) [
      | inl before ↦ fits_other i y before
      | inr it ↦ subst (FitsIn rounds') it (record { table = roomed.now; at = roomed.now_at; room = found.spare })
    ];
    apart = λ i j y z less at at'. elim (got_either cs x j z at') [
      | inl before ↦ so_far.changes.apart i j y z less (sym (got_before cs x i (let in_list = slice_get_within cs j z before in omega (arith, less, in_list))) ∙ at) before
      | inr it ↦ subst (λ (v : Change). (y.round ≢ v.round) ⊎ (y.prefix ≢ v.prefix)) it (apart_other i y (sym (got_before cs x i (early i j z less at')) ∙ at))
    ];
    listed = λ i y at. elim (got_either cs x i y at) [ inl before ↦ so_far.changes.listed i y before | inr it ↦ subst (λ (v : Change). IsListed v.overlay) it found.listed ];
  }
    where
      apart_other : (i : ℕ) (y : Change) → slice_get cs i ≡ Some y → (y.round ≢ x.round) ⊎ (y.prefix ≢ x.prefix)
      apart_other i y at = not_this y.round y.prefix (found_from cs i y at y.round y.prefix (here_true y))

      fits_other : (i : ℕ) (y : Change) → slice_get cs i ≡ Some y → FitsIn rounds' y
      fits_other i y at = let f = so_far.changes.fits i y at in record { table = f.table; at = roomed.others y.round y.prefix (apart_other i y at) ∙ f.at; room = f.room }

      early : (i j : ℕ) (z : Change) → i < j → slice_get (cs ++ x ∷ []) j ≡ Some z → i < length cs
      early i j z less at = let in_list = slice_get_within (cs ++ x ∷ []) j z at in omega (arith, less, in_list, length-append cs (x ∷ []))

  -- the changes with those of this table
  pub all_found : AreFound w g touched plan after pool' rounds' (cs ++ x ∷ []) first next
  unfolding Done
  all_found = record {
    changes = changes_more;
    done = done_all;
    triples = map triple found.enough.ases ++ so_far.triples;
    apart = apart_appended (map triple found.enough.ases) so_far.triples (apart_mapped triple one_triple found.enough.ases (apart_numbers found.enough.ases found.enough.distinct)) so_far.apart
        (λ t l r. let (b, s, e) = from_mapped triple one_triple found.enough.ases t l in
        true≢false (sym (so_far.of_tables t r) ∙ ap (λ (u : ℕ × (PrefixValue × ℕ)). is_found cs u.0 u.1.0) e ∙ turn.fresh));
    of_tables = λ t s. elim (from_appended (map triple found.enough.ases) so_far.triples t s) [
      | inl l ↦ (let (b, at, e) = from_mapped triple one_triple found.enough.ases t l in ap (λ (u : ℕ × (PrefixValue × ℕ)). is_found (cs ++ x ∷ []) u.0 u.1.0) e ∙ (added cs x).this)
      | inr r ↦ (added cs x).kept t.0 t.1.0 (so_far.of_tables t r)
    ];
    counted = λ t s. elim (from_appended (map triple found.enough.ases) so_far.triples t s) [
      | inl l ↦ (let (b, at, e) = from_mapped triple one_triple found.enough.ases t l in subst (IsCountedIn (relation g) (course_of plan after touched pool' rounds' (cs ++ x ∷ []))) (sym e) (counted_here b (stands_occurs found.enough.ases b at)))
      | inr r ↦ counted_other t r
    ];
    enough = omega (arith, found.enough.enough, so_far.enough, length-append (map triple found.enough.ases) so_far.triples, length-map found.enough.ases triple);
  }

-- so it is where the changes of the table stand behind the others
pub found_added : (w : PrefixValue → Setting) (g : Topology) (touched : PrefixValue → ℕ → Bool) (plan after : Plan) (xs ys : List Announced) (pool : PathPool) (rounds : List RoundTables) (cs : List Change) (first last : ℕ)
    → CanFind w g touched plan after xs ys pool rounds → ((k : ℕ) → entry_uses rounds k + changes_uses cs k ≤ holds_of pool k) → AreFound w g touched plan after pool rounds cs first last
    → (round : ℕ) (prefix : PrefixValue) → IsTurn plan (length rounds) cs round prefix → (seeds : SeedIds) (ases : List ℕ) → AreWrongIn plan after xs ys rounds cs round prefix (touched prefix) pool seeds ases
    → (pool' : PathPool) (rounds' : List RoundTables) (cs' : List Change) (next : ℕ) → AreSame rounds rounds' → IsTableAdded (w prefix) g seeds ases pool pool' rounds rounds' cs cs' round prefix last next → AreFound w g touched plan after pool' rounds' cs' first next
found_added w g touched plan after xs ys pool rounds cs first last can held so_far round prefix turn seeds ases wrong pool' rounds' cs' next same made =
    let x : Change = record { round = round; prefix = prefix; overlay = made.overlay } in
    let found = made.found in
    subst (λ (zs : List Change). AreFound w g touched plan after pool' rounds' zs first next) (sym made.items)
    (all_found w g touched plan after xs ys pool rounds cs first last can held so_far x turn (seeds_of pool wrong.was) (seeds_of pool seeds)
    (was_are w g touched plan after xs ys pool rounds cs first last can held so_far round prefix turn wrong.was seeds wrong.was_put wrong.put)
    (now_are w g touched plan after xs ys pool rounds cs first last can held so_far round prefix turn wrong.was seeds wrong.was_put wrong.put)
    pool' rounds' made.roomed same next
    (record { stable = found.exact.stable; differs = found.exact.differs; ases = ases; only = wrong.wrong.only; enough = found.enough; spare = found.spare; listed = found.listed; keeps = found.keeps }))

-- and what they cost
pub paid_more : (w : Setting) (g : Topology) (seeds : SeedIds) (ases : List ℕ) (pool pool' : PathPool) (t t' : Table) (first last : ℕ) (cs : List Change) (x : Change) → AreTableChanges w g seeds ases pool pool' t t' first last x.overlay → IsPaid pool pool' cs (cs ++ x ∷ []) 1
paid_more w g seeds ases pool pool' t t' first last cs x found = record {
  keeps = found.keeps;
  holds = λ k. (let push = sum_by_push (λ (y : Change). overlay_uses y.overlay k) cs x in omega (arith, found.holds k, push));
  grows = found.grows;
  cells = (let push = sum_by_push (λ (y : Change). length (places_of y.overlay)) cs x in omega (arith, found.cells, push));
}
