-- Some number of entries differ between what is kept of two worlds.
use Rattle.std.proofs.Common.{◌≡◌, ◌≢◌, ◌⊎◌, inl, inr, ℕ, suc, ◌≤◌, true≢false, IsTrue, None, List, [], ◌∷◌, ◌++◌, zero, refl, sym, ◌∙◌, ap, subst, length, arith}
use Rattle.std.specs.FinMap as fin
use Rattle.std.proofs.lemmas.Bool.{cases_Bool, cases_eq, cases_lt}
use Rattle.net_names.specs.Orders.{exact_prefix, prefix_total}
use Rattle.net_names.specs.Prefixes.{PrefixValue}
use Rattle.as_graph.specs.Topology.{ases, has}
use Rattle.stability_laws.specs.Plans.{Plan, has_prefix, prefixes_of}
use Rattle.stability_laws.proofs.KeyLists.{keys_listed}
use Rattle.leak_round.specs.Changes.{Family, HasChanges}
use Rattle.leak_round.specs.Entries.{StandsIn}
use Rattle.scenario_text.specs.declared.acts.Edit.{Edit}
use Rattle.scenario_text.specs.declared.acts.Edit.TheVariants as edit
use Rattle.sim_core.specs.Edits.{edited}
use Rattle.sim_core.specs.Kept.{IsKept, Kept}
use Rattle.sim_core.specs.World.{World, topology}
use Rattle.leak_round.proofs.Counting.{apart_pairs, from_stands, to_stands}
use Rattle.message_sim.proofs.Going.{same_message}
use Rattle.answers_exist.proofs.Listing.{each, listed, occurs_stands, slot_stands, stands_each, stands_left, stands_or_not, stands_right, stands_upto, triples_told, upto}

prefix_stands : (plan : Plan) (p : PrefixValue) → IsTrue (has_prefix plan p) → StandsIn p (prefixes_of plan)
prefix_stands plan p known = let (place, is) = (keys_listed prefix_total exact_prefix plan.prefixes).whole p known in slot_stands (prefixes_of plan) place p is

module _ (plan : Plan) (rounds : ℕ) (old new : Family) (all : List ℕ) (none : (round : ℕ) (p : PrefixValue) (a : ℕ) → 1 ≤ round → round ≤ rounds → IsTrue (has_prefix plan p) → (StandsIn a all → ⊥) → new round p a ≡ old round p a) where
  -- the triples that may differ
  triples : List (ℕ × (PrefixValue × ℕ))
  triples = each (λ r. each (λ p. each (λ a. (r, (p, a)) ∷ []) all) (prefixes_of plan)) (upto rounds)

  Differ : ℕ × (PrefixValue × ℕ) → Type 0
  Differ t = (1 ≤ t.0) × (t.0 ≤ rounds) × IsTrue (has_prefix plan t.1.0) × (new t.0 t.1.0 t.1.1 ≢ old t.0 t.1.0 t.1.1)

  decide : (t : ℕ × (PrefixValue × ℕ)) → Differ t ⊎ (Differ t → ⊥)
  unfolding Differ
  decide t = elim (cases_lt t.0 1) [
    | inl low ↦ inr (λ d. let le : 1 ≤ t.0 = d.0 in absurd (omega (arith, low, le)))
    | inr low ↦ elim (cases_lt rounds t.0) [
      | inl high ↦ inr (λ d. let le : t.0 ≤ rounds = d.1 in absurd (omega (arith, high, le)))
      | inr high ↦ elim (cases_Bool (has_prefix plan t.1.0)) [
        | inr out ↦ inr (λ d. true≢false (sym d.2 ∙ out))
        | inl known ↦ elim (same_message (new t.0 t.1.0 t.1.1) (old t.0 t.1.0 t.1.1)) [
          | inl same ↦ inr (λ d. d.3 same)
          | inr other ↦ inl (low, high, known, other)
        ]
      ]
    ]
  ]

  listed_there : (t : ℕ × (PrefixValue × ℕ)) → Differ t → StandsIn t triples
  unfolding Differ triples
  listed_there (r, (p, a)) d = elim (stands_or_not cases_eq a all) [
    | inl there ↦ stands_each (λ r. each (λ p. each (λ a. (r, (p, a)) ∷ []) all) (prefixes_of plan)) (upto rounds) r (r, (p, a)) (stands_upto rounds r d.0 d.1)
        (stands_each (λ p. each (λ a. (r, (p, a)) ∷ []) all) (prefixes_of plan) p (r, (p, a)) (prefix_stands plan p d.2)
        (stands_each (λ a. (r, (p, a)) ∷ []) all a (r, (p, a)) there (inl refl)))
    | inr out ↦ absurd (d.3 (none r p a d.0 d.1 d.2 out))
  ]

  pub count_of : (n : ℕ) × HasChanges plan rounds old new n
  unfolding Differ
  count_of =
      let (keys, is) = listed triples_told Differ decide triples in (
        length keys,
        (
          keys,
          apart_pairs keys is.apart,
          refl,
          λ round p a. (
            (λ c. is.meant (round, (p, a)) (to_stands keys (round, (p, a)) c)),
            (λ d. from_stands keys (round, (p, a)) (is.all (round, (p, a)) (listed_there (round, (p, a)) d) d)),
          ),
        ),
      )

-- an edit leaves the number of rounds and the prefixes
stays : (w : World) (e : Edit) → ((edited w e).rounds ≡ w.rounds) × ((edited w e).plan.prefixes ≡ w.plan.prefixes)
stays w (edit.Link a b rel) = (refl, refl)
stays w (edit.Unlink a b) = (refl, refl)
stays w (edit.Policy a kind) = (refl, refl)
stays w (edit.VrpAdd vrp) = (refl, refl)
stays w (edit.VrpTake vrp) = (refl, refl)
stays w (edit.Announce prefix path) = (refl, refl)
stays w (edit.Withdraw prefix a) = (refl, refl)

-- who is no AS of a world holds nothing in it
outside : (w : World) (k : Kept) → IsKept w k → (round : ℕ) (p : PrefixValue) (a : ℕ) → 1 ≤ round → round ≤ w.rounds → IsTrue (has_prefix w.plan p) → (StandsIn a (ases (topology w)) → ⊥) → k.routings round p a ≡ None
outside w k is zero p a low high known out = absurd (omega (arith, low))
outside w k is (suc r) p a low high known out = (is.routings.is r p (omega (arith, high)) known).only_ases a (elim (cases_Bool (has (topology w) a)) [ inl here ↦ absurd (out (occurs_stands a (ases (topology w)) here)) | inr no_as ↦ no_as ])

pub edit_count : (w : World) (e : Edit) (k now : Kept) → IsKept w k → IsKept (edited w e) now → (n : ℕ) × HasChanges (edited w e).plan (edited w e).rounds k.routings now.routings n
edit_count w e k now is is_now =
    let after = edited w e in
    let same = stays w e in
    count_of after.plan after.rounds k.routings now.routings (ases (topology w) ++ ases (topology after)) (λ round p a low high known out.
    outside after now is_now round p a low high known (λ h. out (stands_right a (ases (topology w)) (ases (topology after)) h))
    ∙ sym (outside w k is round p a low (subst (λ n. round ≤ n) same.0 high) (sym (ap (λ s. fin.contains_key s p) same.1) ∙ known) (λ h. out (stands_left a (ases (topology w)) (ases (topology after)) h))))
