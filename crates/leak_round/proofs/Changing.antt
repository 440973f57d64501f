-- The changes of the table of a prefix in a round can be found.
use Rattle.std.proofs.Common.{◌≡◌, inl, inr, ℕ, ◌+◌, ◌-◌, ◌≤◌, Bool, true, false, ◌&&◌, nat_lt, Option, Some, None, option_map, is_some, List, [], length, refl, sym, ap, ◌∙◌, arith}
use Rattle.std.specs.Prelude.{IsTrue, option_and_then}
use Rattle.std.proofs.lemmas.Bool.{true≢false, cases_lt}
use Rattle.net_names.specs.Numbers.{occurs}
use Rattle.net_names.specs.Prefixes.{PrefixValue}
use Rattle.as_graph.specs.Topology.{Topology, has}
use Rattle.path_pool.specs.declared.path_id.PathId.{PathId}
use Rattle.path_pool.specs.declared.pool.PathPool.{PathPool}
use Rattle.path_pool.specs.Pool.{holds_of, list_of}
use Rattle.stability_laws.specs.declared.entry.Entry.{Entry}
use Rattle.stability_laws.specs.declared.entry.Seed.{Seed}
use Rattle.stability_laws.specs.Offers.{Setting, offer}
use Rattle.stability_laws.specs.Stable.{IsRight, IsRightGiven}
use Rattle.stability_laws.specs.Plans.{Plan, announced_path, announces, has_prefix, leaks_in}
use Rattle.stability_laws.specs.Rounds.{seed_given, seeds_of as seeds_in}
use Rattle.route_choice.specs.declared.held.Held.{Held}
use Rattle.route_choice.specs.declared.round_tables.RoundTables.{RoundTables}
use Rattle.route_choice.specs.declared.seeds.SeedIds.{SeedIds}
use Rattle.route_choice.specs.declared.table.Table.{Table}
use Rattle.route_choice.specs.Resources.{AreSeedsLive}
use Rattle.route_choice.specs.Routings.{entry_of, seeds_of, table_routing}
use Rattle.route_choice.specs.Slots.{over}
use Rattle.route_choice.specs.Tables.{held_at, seed_at}
use Rattle.leak_round.specs.declared.announced.Announced.{Announced}
use Rattle.leak_round.specs.declared.changes.Change.{Change}
use Rattle.leak_round.specs.Announced.{own_path, own_seed}
use Rattle.leak_round.specs.Differing.{AreWrong, AreWrongIn}
use Rattle.leak_round.specs.Leaked.{leaked_by, own_or_leaked, AreSeedsWith}
use Rattle.leak_round.specs.Overlays.{change_in, held_of, held_with, laid_in, table_in, changes_uses}
use Rattle.leak_round.specs.Found.{CanFind, CanFindInTable, AreFound, IsTurn}
use Rattle.leak_round.specs.Tables.{kept_in, entry_uses}
use Rattle.leak_round.proofs.Committing.{change_from, held_with-live}
use Rattle.leak_round.proofs.Laying.{is_at-true, kept_is, positive, table_uses_in, tables_there}
use Rattle.leak_round.proofs.Seeding.{held_of-live, seeds_are, seeds_live}

-- a table of a round has what is kept in it
pub kept_here : (pool : PathPool) (rounds : List RoundTables) (round : ℕ) (prefix : PrefixValue) (t : Table) → table_in rounds round prefix ≡ Some t → (a : ℕ) → table_routing pool t a ≡ kept_in pool rounds round prefix a
kept_here pool rounds round prefix t at a = sym (kept_is pool rounds round prefix a ∙ ap (λ (o : Option Table). option_map (entry_of pool) (option_and_then (λ (x : Table). held_at x a) o)) at)

pub unmapped : {X Y : Type 0} (f : X → Y) (o : Option X) → option_map f o ≡ None → o ≡ None
unmapped f None e = refl
unmapped f (Some x) e = cc

module _ (w : PrefixValue → Setting) (g : Topology) (touched : PrefixValue → ℕ → Bool) (plan after : Plan) (xs ys : List Announced) (pool : PathPool) (rounds : List RoundTables) (cs : List Change) (first last : ℕ)
    (can : CanFind w g touched plan after xs ys pool rounds) (held : (k : ℕ) → entry_uses rounds k + changes_uses cs k ≤ holds_of pool k) (so_far : AreFound w g touched plan after pool rounds cs first last) where
  -- no change is of a round before round 1
  pub no_change_first : (prefix : PrefixValue) (a : ℕ) → change_in cs 0 prefix a ≡ None
  no_change_first prefix a = by (change_in cs 0 prefix a) refl
    where
      by : (o : Option (Option Held)) → change_in cs 0 prefix a ≡ o → o ≡ None
      by None e = refl
      by (Some c) e =
          let (i, y, at, here, change) = change_from cs 0 prefix a c e in
          let parts = is_at-true 0 prefix y here in
          let f = so_far.changes.fits i y at in
          let some = positive rounds y.round y.prefix f.table f.at in
          absurd (omega (arith, parts.0, some))

  -- nothing is held before round 1
  none_first : (prefix : PrefixValue) (a : ℕ) → held_with rounds cs 0 prefix a ≡ None
  none_first prefix a = ap (λ (o : Option (Option Held)). over o (held_of rounds 0 prefix a)) (no_change_first prefix a)

  -- the paths of the seeds before the edit are live, and so are those of the seeds after it
  pub live_before : (round : ℕ) (prefix : PrefixValue) (seeds : SeedIds) → AreSeedsWith plan xs rounds [] round prefix seeds → AreSeedsLive pool seeds
  live_before round prefix seeds put = seeds_live pool plan xs rounds [] round prefix seeds put can.announced (λ a h e. held_of-live pool plan rounds can.full (round - 1) prefix a h e)

  pub live_after : (round : ℕ) (prefix : PrefixValue) (seeds : SeedIds) → AreSeedsWith after ys rounds cs round prefix seeds → AreSeedsLive pool seeds
  live_after round prefix seeds put = seeds_live pool after ys rounds cs round prefix seeds put can.announced_after (λ a h e. held_with-live pool rounds cs held (round - 1) prefix a h e)

  module _ (round : ℕ) (prefix : PrefixValue) (turn : IsTurn plan (length rounds) cs round prefix) (was seeds : SeedIds) (was_put : AreSeedsWith plan xs rounds [] round prefix was) (put : AreSeedsWith after ys rounds cs round prefix seeds) where
    known_after : IsTrue (has_prefix after prefix)
    known_after = can.prefixes prefix ∙ turn.known

    -- the seeds before the edit
    pub was_are : (a : ℕ) → seeds_of pool was a ≡ seeds_in plan round prefix (kept_in pool rounds (round - 1) prefix) a
    was_are a =
        seeds_are pool plan xs rounds [] round prefix was was_put can.announced (λ b. refl) turn.known a
        ∙ ap (seed_given (announced_path plan prefix a) (nat_lt 1 round && leaks_in plan round a)) (sym (kept_is pool rounds (round - 1) prefix a))

    -- the seeds after the edit
    pub now_are : (a : ℕ) → seeds_of pool seeds a ≡ seeds_in after round prefix (laid_in pool rounds cs (round - 1) prefix) a
    now_are a = seeds_are pool after ys rounds cs round prefix seeds put can.announced_after (none_first prefix) known_after a

    away : (b : ℕ) → has g b ≡ false → held_with rounds cs (round - 1) prefix b ≡ None
    away b not = elim (cases_lt 1 round) [
      | inl later ↦ unmapped (entry_of pool) (held_with rounds cs (round - 1) prefix b) ((so_far.done (round - 1) prefix (turn.before (omega (arith, later)))).stable.only_ases b (can.only_ases prefix b ∙ not))
      | inr early ↦ (let zero_is : round - 1 ≡ 0 = omega (arith, early) in ap (λ n. held_with rounds cs n prefix b) zero_is ∙ none_first prefix b)
    ]

    -- seeds stand only at ASes
    nowhere : (b : ℕ) → has g b ≡ false → seed_at seeds b ≡ None
    nowhere b not = put b ∙ by (own_path ys prefix b) refl (leaks_in after round b) (held_with rounds cs (round - 1) prefix b) (away b not)
      where
        by : (o : Option PathId) → own_path ys prefix b ≡ o → (leaks : Bool) (h : Option Held) → h ≡ None → own_or_leaked (option_map own_seed o) leaks h ≡ None
        by (Some id) e leaks h n =
            let announced : announces after prefix b ≡ true = sym (ap is_some (can.announced_after.paths prefix b known_after)) ∙ ap (λ (o : Option PathId). is_some (option_map (λ (i : PathId). list_of pool i.0) o)) e in
            absurd (true≢false (sym (can.announcers prefix b announced) ∙ not))
        by None e true h n = ap leaked_by n
        by None e false h n = refl

    module _ (t : Table) (at : table_in rounds round prefix ≡ Some t) (ases : List ℕ) (wrong : AreWrong (touched prefix) pool was seeds ases) where
      right_at : (b : ℕ) → has g b ≡ true → occurs b ases ≡ false → IsRight (w prefix) (seeds_of pool seeds) (table_routing pool t) b
      right_at b there out =
          let old = can.right round prefix b turn.from turn.to turn.known there (wrong.untouched b out) in
          let seed : seeds_of pool seeds b ≡ seeds_in plan round prefix (kept_in pool rounds (round - 1) prefix) b = wrong.same b out ∙ was_are b in
          let F : Option Seed → (ℕ → Option Entry) → Type 0 = λ s f. IsRightGiven ((w prefix).policy b) s (λ n. offer (w prefix) f n b) (f b) in
          coe 1 0 (i. F (seed i) (λ a. kept_here pool rounds round prefix t at a i)) old

      -- its changes can be found
      pub can_table : CanFindInTable (w prefix) g prefix seeds ases pool t
      can_table =
          let (r, is, here) = tables_there rounds round prefix t at in
          record {
            prefix_is = (can.full round r is).by_prefix prefix t here;
            entries = λ b not out. unmapped (entry_of pool) (held_at t b) (kept_here pool rounds round prefix t at b ∙ can.entries round prefix b turn.from turn.to turn.known not (wrong.untouched b out));
            right = right_at;
            at_ases = nowhere;
            seeds_live = live_after round prefix seeds put;
            entries_live = (can.full round r is).live prefix t here;
            held = λ k. omega (arith, held k, table_uses_in rounds round prefix t at k);
          }

-- so it can with the ASes that were found to be wrong
pub can_found : (w : PrefixValue → Setting) (g : Topology) (touched : PrefixValue → ℕ → Bool) (plan after : Plan) (xs ys : List Announced) (pool : PathPool) (rounds : List RoundTables) (cs : List Change) (first last : ℕ)
    → CanFind w g touched plan after xs ys pool rounds → ((k : ℕ) → entry_uses rounds k + changes_uses cs k ≤ holds_of pool k) → AreFound w g touched plan after pool rounds cs first last
    → (round : ℕ) (prefix : PrefixValue) → IsTurn plan (length rounds) cs round prefix → (seeds : SeedIds) (ases : List ℕ) → AreWrongIn plan after xs ys rounds cs round prefix (touched prefix) pool seeds ases
    → (t : Table) → table_in rounds round prefix ≡ Some t → CanFindInTable (w prefix) g prefix seeds ases pool t
can_found w g touched plan after xs ys pool rounds cs first last can held so_far round prefix turn seeds ases wrong t at =
    can_table w g touched plan after xs ys pool rounds cs first last can held so_far round prefix turn wrong.was seeds wrong.was_put wrong.put t at ases wrong.wrong
