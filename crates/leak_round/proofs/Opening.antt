-- The plan that is open with the changes that are found.
use Rattle.std.proofs.Common.{◌≡◌, ◌≢◌, inl, inr, ℕ, suc, ◌-◌, ◌≤◌, Bool, true, false, ◌==◌, Option, Some, None, option_map, is_some, List, [], ◌∷◌, length, refl, sym, ap, subst, ◌∙◌, arith}
use Rattle.std.specs.Prelude.{IsSome, IsTrue, slice_get, option_and_then}
use Rattle.std.proofs.lemmas.Bool.{true≢false, cases_Bool, eq-eqb, or_cases, or_left}
use Rattle.std.proofs.lemmas.Option.{slice_get_within}
use Rattle.net_names.specs.Numbers.{occurs}
use Rattle.net_names.specs.Prefixes.{PrefixValue}
use Rattle.as_graph.specs.Topology.{Topology, relation, has, as_count}
use Rattle.path_pool.specs.declared.pool.PathPool.{PathPool}
use Rattle.stability_laws.specs.Offers.{Setting}
use Rattle.stability_laws.specs.Stable.{IsStable}
use Rattle.stability_laws.specs.Plans.{Plan, has_prefix}
use Rattle.stability_laws.specs.Rounds.{AreRounds, seeds_of as seeds_in}
use Rattle.route_choice.specs.declared.held.Held.{Held}
use Rattle.route_choice.specs.declared.round_tables.RoundTables.{RoundTables}
use Rattle.route_choice.specs.declared.table.Table.{Table}
use Rattle.route_choice.specs.Routings.{entry_of}
use Rattle.route_choice.specs.Slots.{over}
use Rattle.route_choice.specs.Tables.{held_at}
use Rattle.leak_round.specs.declared.changes.Change.{Change}
use Rattle.leak_round.specs.Bounds.{AreEnoughFor}
use Rattle.leak_round.specs.Overlays.{change_in, held_of, is_at, laid_in, table_in, AreFew, FitsIn}
use Rattle.leak_round.specs.Found.{AreFound, AreFoundUpTo, course_of, is_found}
use Rattle.leak_round.specs.Tables.{kept_in, AreRoundsFull}
use Rattle.leak_round.proofs.Committing.{change_from}
use Rattle.leak_round.proofs.Counting.{few_entries, none_some}
use Rattle.leak_round.proofs.Laying.{change_in-none, is_at-true, round_place, tables_there}
use Rattle.leak_round.proofs.Found.{found_from}

module _ (w : PrefixValue → Setting) (g : Topology) (touched : PrefixValue → ℕ → Bool) (plan after : Plan) (pool : PathPool) (rounds : List RoundTables) (cs : List Change) (first last : ℕ)
    (are_found : AreFound w g touched plan after pool rounds cs first last) (more : AreFoundUpTo plan cs (length rounds)) (full : AreRoundsFull pool plan rounds) where
  -- where there is a table its round is one of those, and its prefix is one of the plan
  table_known : (round : ℕ) (prefix : PrefixValue) (t : Table) → table_in rounds round prefix ≡ Some t → (1 ≤ round) × (round ≤ length rounds) × IsTrue (has_prefix plan prefix)
  table_known round prefix t at =
      let (r, is, here) = tables_there rounds round prefix t at in
      let (some, place) = round_place rounds round r is in
      let within = slice_get_within rounds (round - 1) r place in
      (omega (arith, some), omega (arith, some, within), sym ((full round r is).there prefix) ∙ ap is_some here)

  -- where changes of a table are found it is there
  found_known : (round : ℕ) (prefix : PrefixValue) → is_found cs round prefix ≡ true → (t : Table) × (table_in rounds round prefix ≡ Some t)
  found_known round prefix is = found cs (λ i y at. are_found.changes.fits i y at) is
    where
      found : (ds : List Change) → ((i : ℕ) (y : Change) → slice_get ds i ≡ Some y → FitsIn rounds y) → is_found ds round prefix ≡ true → (t : Table) × (table_in rounds round prefix ≡ Some t)
      found [] fits e = cc
      found (y ∷ ds) fits e = elim (or_cases (is_at round prefix y) (is_found ds round prefix) e) [
        | inl here ↦ (let f = fits 0 y refl in let parts = is_at-true round prefix y here in (f.table, sym (λ i. table_in rounds (parts.0 i) (parts.1 i)) ∙ f.at))
        | inr later ↦ found ds (λ i z at. fits (suc i) z at) later
      ]

  -- elsewhere nothing is held
  nothing_laid : (round : ℕ) (prefix : PrefixValue) → is_found cs round prefix ≡ false → (a : ℕ) → laid_in pool rounds cs round prefix a ≡ None
  nothing_laid round prefix not a =
      let change = change_in-none cs round prefix (λ i y at. not_at i y at (is_at round prefix y) refl) a in
      ap (λ (o : Option (Option Held)). option_map (entry_of pool) (over o (held_of rounds round prefix a))) change ∙ no_table (table_in rounds round prefix) refl
    where
      not_at : (i : ℕ) (y : Change) → slice_get cs i ≡ Some y → (b : Bool) → is_at round prefix y ≡ b → b ≡ false
      not_at i y at false e = refl
      not_at i y at true e = absurd (true≢false (sym (found_from cs i y at round prefix e) ∙ not))

      no_table : (o : Option Table) → table_in rounds round prefix ≡ o → option_map (entry_of pool) (option_and_then (λ t. held_at t a) o) ≡ None
      no_table None at = refl
      no_table (Some t) at = let (from, to, known) = table_known round prefix t at in absurd (true≢false (sym (more.whole round prefix from to known) ∙ not))

  -- no table has more than 150,000 entries
  pub few_laid : as_count g ≤ 150000 → ((prefix : PrefixValue) (b : ℕ) → (w prefix).has b ≡ has g b) → (round : ℕ) (prefix : PrefixValue) → AreFew (laid_in pool rounds cs round prefix)
  few_laid few same round prefix ases apart held = elim (cases_Bool (is_found cs round prefix)) [
    | inl is ↦ (let n = few_entries g (laid_in pool rounds cs round prefix) ases apart held (λ a not. (are_found.done round prefix is).stable.only_ases a (same prefix a ∙ not)) in omega (arith, n, few))
    | inr not ↦ no_ases ases held (nothing_laid round prefix not)
  ]
    where
      no_ases : (bs : List ℕ) → ((a : ℕ) → occurs a bs ≡ true → IsSome (laid_in pool rounds cs round prefix a)) → ((a : ℕ) → laid_in pool rounds cs round prefix a ≡ None) → length bs ≤ 150000
      no_ases [] h none = omega arith
      no_ases (b ∷ bs) h none = absurd (none_some (laid_in pool rounds cs round prefix b) (none b) (h b (or_left (b == b) (occurs b bs) (eq-eqb b b refl))))

  -- each change differs from what is kept
  pub laid_differs : (round : ℕ) (prefix : PrefixValue) (a : ℕ) → IsTrue (is_some (change_in cs round prefix a)) → laid_in pool rounds cs round prefix a ≢ kept_in pool rounds round prefix a
  laid_differs round prefix a changed = by (change_in cs round prefix a) refl
    where
      by : (o : Option (Option Held)) → change_in cs round prefix a ≡ o → laid_in pool rounds cs round prefix a ≢ kept_in pool rounds round prefix a
      by (Some c) e = let (i, y, at, here, change) = change_from cs round prefix a c e in (are_found.done round prefix (found_from cs i y at round prefix here)).differs a changed
      by None e = absurd (true≢false (sym changed ∙ ap is_some e))

  -- with the changes in place all tables are stable
  pub rounds_stable : ((prefix : PrefixValue) → has_prefix after prefix ≡ has_prefix plan prefix) → AreRounds w after (length rounds) (laid_in pool rounds cs)
  rounds_stable same before prefix less known =
      let is = more.whole (suc before) prefix (omega arith) (omega (arith, less)) (sym (same prefix) ∙ known) in
      let one : suc before - 1 ≡ before = omega arith in
      subst (λ n. IsStable (w prefix) (seeds_in after (suc before) prefix (laid_in pool rounds cs n prefix)) (laid_in pool rounds cs (suc before) prefix)) one (are_found.done (suc before) prefix is).stable

  -- and the steps are enough
  pub steps_enough : AreEnoughFor (relation g) (course_of plan after touched pool rounds cs) (length rounds) first last
  steps_enough = record {
    triples = are_found.triples;
    apart = are_found.apart;
    counted = λ x s. (
        let (t, at) = found_known x.0 x.1.0 (are_found.of_tables x s) in
        let (from, to, known) = table_known x.0 x.1.0 t at in
        record { from = from; to = to; known = known; counts = are_found.counted x s });
    enough = are_found.enough;
  }
