-- A table has no change where nobody is touched and its seeds stay.
use Rattle.std.proofs.Common.{◌≡◌, ◌⊎◌, inl, inr, ℕ, ◌+◌, ◌-◌, ◌≤◌, Bool, true, false, Option, None, Some, option_map, is_some, cond, List, [], ◌∷◌, length, map, refl, sym, ap, subst, ◌∙◌, arith}
use Rattle.std.specs.List.{filter, list_any}
use Rattle.std.proofs.lemmas.Bool.{true≢false, or_parts}
use Rattle.std.proofs.lemmas.List.{nil_from_length}
use Rattle.std.proofs.lemmas.List.Sums.{sum_by_push}
use Rattle.net_names.specs.Numbers.{occurs}
use Rattle.net_names.specs.Prefixes.{PrefixValue}
use Rattle.net_names.specs.contracts.prefixes.PrefixPartialEq.TheImpl as same_prefix
use Rattle.net_names.proofs.Shared.{none_from}
use Rattle.as_graph.specs.Topology.{Topology}
use Rattle.path_pool.specs.declared.pool.PathPool.{PathPool}
use Rattle.path_pool.specs.Pool.{holds_of}
use Rattle.stability_laws.specs.declared.entry.Entry.{Entry}
use Rattle.stability_laws.specs.declared.entry.Seed.{Seed}
use Rattle.stability_laws.specs.Offers.{Setting}
use Rattle.stability_laws.specs.Stable.{IsStable}
use Rattle.stability_laws.specs.Plans.{Plan}
use Rattle.stability_laws.specs.Rounds.{seeds_of as seeds_in}
use Rattle.route_choice.specs.declared.held.Held.{Held}
use Rattle.route_choice.specs.declared.overlay.Overlay.{Overlay}
use Rattle.route_choice.specs.declared.round_tables.RoundTables.{RoundTables}
use Rattle.route_choice.specs.declared.table.Table.{Table}
use Rattle.route_choice.specs.Routings.{entry_of, routing_of}
use Rattle.route_choice.specs.Slots.{missing_count, over}
use Rattle.route_choice.specs.Tables.{change_at, held_at, overlay_uses, places_of}
use Rattle.leak_round.specs.declared.announced.Announced.{Announced}
use Rattle.leak_round.specs.declared.changes.Change.{Change}
use Rattle.leak_round.specs.Findings.{IsNoneAdded, IsNoneIn}
use Rattle.leak_round.specs.Found.{AreFound, CanFind, IsPaid, IsTurn}
use Rattle.leak_round.specs.Overlays.{change_in, changes_uses, held_of, laid_in, table_in}
use Rattle.leak_round.specs.Tables.{entry_uses, kept_in}
use Rattle.leak_round.specs.Touched.{ases_in}
use Rattle.leak_round.proofs.Changing.{kept_here, no_change_first}
use Rattle.leak_round.proofs.Found.{all_found}
use Rattle.leak_round.proofs.Keeping.{keeps_itself}
use Rattle.leak_round.proofs.Laying.{is_at-true, kept_is}
use Rattle.leak_round.proofs.Ordering.{change_there}
use Rattle.leak_round.proofs.Paying.{paid_itself}

module _ (w : PrefixValue → Setting) (g : Topology) (touched : PrefixValue → ℕ → Bool) (plan after : Plan) (xs ys : List Announced) (pool : PathPool) (rounds : List RoundTables) (cs : List Change) (first last : ℕ)
    (can : CanFind w g touched plan after xs ys pool rounds) (held : (k : ℕ) → entry_uses rounds k + changes_uses cs k ≤ holds_of pool k) (so_far : AreFound w g touched plan after pool rounds cs first last)
    (round : ℕ) (prefix : PrefixValue) (before : (round ≡ 1) ⊎ IsNoneIn cs (round - 1) prefix) where
  pub none_before : (a : ℕ) → change_in cs (round - 1) prefix a ≡ None
  none_before a = elim before [
    | inl one ↦ (let zero_is : round - 1 ≡ 0 = omega (arith, one) in ap (λ n. change_in cs n prefix a) zero_is ∙ no_change_first w g touched plan after xs ys pool rounds cs first last can held so_far prefix a)
    | inr found ↦ (let parts = is_at-true (round - 1) prefix found.change found.of_table in
        sym (λ i. change_in cs (parts.0 i) (parts.1 i) a) ∙ change_there cs so_far.changes.apart found.place found.change found.at a ∙ found.none a)
  ]

  module _ (turn : IsTurn plan (length rounds) cs round prefix) (same_plan : after ≡ plan) (untouched : (a : ℕ) → touched prefix a ≡ false) where
    -- what is held in the round before is as it was
    same_before : (a : ℕ) → kept_in pool rounds (round - 1) prefix a ≡ laid_in pool rounds cs (round - 1) prefix a
    same_before a = kept_is pool rounds (round - 1) prefix a ∙ sym (ap (λ (c : Option (Option Held)). option_map (entry_of pool) (over c (held_of rounds (round - 1) prefix a))) (none_before a))

    abbrev was : ℕ → Option Seed
    was = seeds_in plan round prefix (kept_in pool rounds (round - 1) prefix)

    abbrev now : ℕ → Option Seed
    now = seeds_in after round prefix (laid_in pool rounds cs (round - 1) prefix)

    same_seeds : (a : ℕ) → was a ≡ now a
    same_seeds a =
        let F : (ℕ → Option Entry) → Option Seed = λ f. seeds_in plan round prefix f a in
        ap F (λ i b. same_before b i) ∙ ap (λ p. seeds_in p round prefix (laid_in pool rounds cs (round - 1) prefix) a) (sym same_plan)

    stable_before : IsStable (w prefix) was (kept_in pool rounds round prefix)
    stable_before = record {
      only_ases = λ a not. can.entries round prefix a turn.from turn.to turn.known (sym (can.only_ases prefix a) ∙ not) (untouched a);
      right = λ a there. can.right round prefix a turn.from turn.to turn.known (sym (can.only_ases prefix a) ∙ there) (untouched a);
    }

    module _ (o : Overlay) (none : (a : ℕ) → change_at o a ≡ None) (t : Table) (at : table_in rounds round prefix ≡ Some t) where
      pub stable_still : IsStable (w prefix) now (routing_of pool t o)
      stable_still =
          let F : (ℕ → Option Seed) → (ℕ → Option Entry) → Type 0 = λ s f. IsStable (w prefix) s f in
          coe 0 1 (i. F (λ a. same_seeds a i) (λ a. same_here a i)) stable_before
        where
          same_here : (a : ℕ) → kept_in pool rounds round prefix a ≡ routing_of pool t o a
          same_here a = sym (kept_here pool rounds round prefix t at a) ∙ sym (ap (λ (c : Option (Option Held)). option_map (entry_of pool) (over c (held_at t a))) (none a))

    -- so it is found to have none
    pub none_found : (t : Table) → table_in rounds round prefix ≡ Some t → (cs' : List Change) → IsNoneAdded cs cs' round prefix → AreFound w g touched plan after pool rounds cs' first last
    none_found t at cs' added =
        let o = added.overlay in
        subst (λ (zs : List Change). AreFound w g touched plan after pool rounds zs first last) (sym added.items)
        (all_found w g touched plan after xs ys pool rounds cs first last can held so_far (record { round = round; prefix = prefix; overlay = o }) turn was now (λ a. refl) (λ a. refl) pool rounds
        (record { was = t; now = t; was_at = at; now_at = at; same = record { prefix = refl; entries = λ a. refl; uses = λ k. refl }; others = λ r p apart. refl })
        (record { count = refl; entries = λ r p a. refl; uses = λ k. refl; full = λ other some full. full }) last
        (record {
          stable = stable_still o added.none t at;
          differs = λ a changed. absurd (true≢false (sym changed ∙ ap is_some (added.none a)));
          ases = [];
          only = λ b listed. absurd (true≢false (sym listed));
          enough = record { ases = []; distinct = tt; counted = λ b listed. absurd (true≢false (sym listed)); enough = omega arith };
          spare = inr (subst (λ (ps : List ℕ). missing_count t.slots ps ≤ t.slots.spare) (sym added.places) (omega arith));
          listed = added.listed;
          keeps = keeps_itself pool;
        }))

-- and it costs nothing
pub none_paid : (pool : PathPool) (cs cs' : List Change) (round : ℕ) (prefix : PrefixValue) → IsNoneAdded cs cs' round prefix → IsPaid pool pool cs cs' 1
none_paid pool cs cs' round prefix added =
    let x : Change = record { round = round; prefix = prefix; overlay = added.overlay } in
    subst (λ (zs : List Change). IsPaid pool pool cs zs 1) (sym added.items) (record {
      keeps = keeps_itself pool;
      holds = λ k. (let push = sum_by_push (λ (y : Change). overlay_uses y.overlay k) cs x in omega (arith, added.uses k, push));
      grows = (paid_itself pool cs 1).grows;
      cells = (let push = sum_by_push (λ (y : Change). length (places_of y.overlay)) cs x in omega (arith, push));
    })

-- an overlay of no ASes has no change
pub no_change : (o : Overlay) → length (places_of o) ≡ 0 → ((a : ℕ) → occurs a (places_of o) ≡ is_some (change_at o a)) → (a : ℕ) → change_at o a ≡ None
no_change o few listed a = none_from (change_at o a) (sym (listed a) ∙ ap (occurs a) (nil_from_length (places_of o) few))

-- where no pair is of the prefix nobody is touched for it
pub none_touched : (pairs : List (PrefixValue × ℕ)) (prefix : PrefixValue) → list_any (λ x. (same_prefix.ghosts).eq x.0 prefix) pairs ≡ false → (a : ℕ) → occurs a (ases_in pairs prefix) ≡ false
none_touched [] prefix none a = refl
none_touched (x ∷ xs) prefix none a =
    let parts = or_parts ((same_prefix.ghosts).eq x.0 prefix) (list_any (λ y. (same_prefix.ghosts).eq y.0 prefix) xs) none in
    ap (λ (b : Bool). occurs a (map (λ y. y.1) (cond b (x ∷ filter (λ y. (same_prefix.ghosts).eq y.0 prefix) xs) (filter (λ y. (same_prefix.ghosts).eq y.0 prefix) xs)))) parts.0 ∙ none_touched xs prefix parts.1 a
