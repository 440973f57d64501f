-- Who acts is named by a line, and enough activations in any order end in the routing that is kept.
use Rattle.std.proofs.Common.{◌≡◌, ◌≤◌, ◌+◌, ◌-◌, ◌==◌, ◌||◌, ℕ, Bool, true, false, true≢false, Option, Some, None, List, [], ◌∷◌, ◌++◌, cond, map as each, flat_map, refl, sym, ap, subst, ◌∙◌}
use Rattle.std.specs.FinMap as fin
use Rattle.std.specs.Ordering.{nat_cmp, eq_by_cmp}
use Rattle.std.specs.Cmp.{nat_cmp_total, nat_eq_equiv, unsigned_tied}
use Rattle.std.proofs.lemmas.Bool.{or_left, or_right}
use Rattle.std.proofs.lemmas.List.{map-append}
use Rattle.clap.specs.Walk.{Text}
use Rattle.net_names.specs.Numbers.{occurs}
use Rattle.activations.specs.Laws.{ActsAreThoseSaid, AreSaid}
use Rattle.activations.specs.Named.{asns_of}
use Rattle.activations.specs.Pieces.{IsMostPieces}
use Rattle.activations.specs.declared.acts.Acts.{Acts}
use Rattle.activations.proofs.Sound.{none_foreign}
use Rattle.as_graph.specs.Topology.{has}
use Rattle.origin_validation.specs.Judging.{state_of}
use Rattle.policy_kinds.specs.Kinds.{kind_policy}
use Rattle.reports.specs.Rows.{table}
use Rattle.sim_core.specs.Kept.{Kept, IsKept}
use Rattle.sim_core.specs.Lent.{NoOtherIsStable}
use Rattle.sim_core.specs.World.{HasCycle, World, setting_of, topology}
use Rattle.stability_laws.specs.AnyOrder.{AnyOrderSettles}
use Rattle.stability_laws.specs.EntryTexts.{entry_row}
use Rattle.stability_laws.specs.Laws.{IsHeight}
use Rattle.stability_laws.specs.Rounds.{seeds_of}
use Rattle.stability_laws.specs.Runs.{HasOnly}
use Rattle.stability_laws.specs.Stable.{IsStable}
use Rattle.stability_laws.specs.declared.entry.Entry.{Entry}
use Rattle.stability_laws.specs.declared.entry.Seed.{Seed}
use Rattle.stability_laws.proofs.Pieces.{occurs_left, occurs_right}
use Rattle.task_reading.specs.Jobs.{acts_job}
use Rattle.asprop_run.specs.Settling.{IsActsText, acts_rows}
use Rattle.asprop_run.specs.Task.{outside}
use Rattle.asprop_run.proofs.Named.{acts_named}
use Rattle.asprop_run.proofs.OneSettling.{book_of, one_height, one_most, one_seeds}
use Rattle.told_laws.specs.Activated.{ActsAreNamed, AreNamed}

-- ---- who is named

of_one : (line : ℕ) (ases : List ℕ) → asns_of (each (λ a. (line, a)) ases) ≡ ases
of_one line [] = refl
of_one line (a ∷ ases) = ap (λ t. a ∷ t) (of_one line ases)

of_runs : (runs : List (ℕ × List ℕ)) → asns_of (flat_map (λ r. each (λ a. (r.0, a)) r.1) runs) ≡ flat_map (λ r. r.1) runs
of_runs [] = refl
of_runs (r ∷ runs) = map-append (λ (x : ℕ × ℕ). x.1) (each (λ a. (r.0, a)) r.1) (flat_map (λ r. each (λ a. (r.0, a)) r.1) runs) ∙ (λ i. of_one r.0 r.1 i ++ of_runs runs i)

held_named : (holds : List (ℕ × (ℕ × Entry))) (a : ℕ) (e : Entry) → fin.find nat_cmp a (each (λ h. h.1) holds) ≡ Some e → occurs a (asns_of (each (λ h. (h.0, h.1.0)) holds)) ≡ true
held_named [] a e is = cc
held_named (h ∷ holds) a e is = by (eq_by_cmp nat_cmp a h.1.0) refl is (held_named holds a e)
  where
    by : (b : Bool) → eq_by_cmp nat_cmp a h.1.0 ≡ b → cond b (Some h.1.1) (fin.find nat_cmp a (each (λ h. h.1) holds)) ≡ Some e
        → (fin.find nat_cmp a (each (λ h. h.1) holds) ≡ Some e → occurs a (asns_of (each (λ h. (h.0, h.1.0)) holds)) ≡ true) → ((h.1.0 == a) || occurs a (asns_of (each (λ h. (h.0, h.1.0)) holds))) ≡ true
    by true same found more = or_left _ _ (nat_eq_equiv.symm h.1.0 a ∙ sym (unsigned_tied a h.1.0) ∙ same)
    by false other found more = or_right (h.1.0 == a) _ (more found)

said_named : (lines : List (ℕ × List ℕ)) (acts : Acts) → AreSaid lines acts → AreNamed acts
said_named lines acts s = record {
  held = λ a e is. named a (or_first a (held_named s.holds a e (sym (ap (λ m. fin.get m a) s.held ∙ fin.get-from_entries nat_cmp_total (each (λ h. h.1) s.holds) a) ∙ is)));
  list = λ a there. named a (occurs_right a (asns_of (each (λ h. (h.0, h.1.0)) s.holds)) (flat_map (λ r. r.1) s.runs) (sym (ap (occurs a) s.list) ∙ there));
}
  where
    all : asns_of acts.named ≡ asns_of (each (λ h. (h.0, h.1.0)) s.holds) ++ flat_map (λ r. r.1) s.runs
    all = ap asns_of s.named ∙ map-append (λ (x : ℕ × ℕ). x.1) (each (λ h. (h.0, h.1.0)) s.holds) (flat_map (λ r. each (λ a. (r.0, a)) r.1) s.runs) ∙ ap (λ t. asns_of (each (λ h. (h.0, h.1.0)) s.holds) ++ t) (of_runs s.runs)

    named : (a : ℕ) → occurs a (asns_of (each (λ h. (h.0, h.1.0)) s.holds) ++ flat_map (λ r. r.1) s.runs) ≡ true → occurs a (asns_of acts.named) ≡ true
    named a there = ap (occurs a) all ∙ there

    or_first : (a : ℕ) → occurs a (asns_of (each (λ h. (h.0, h.1.0)) s.holds)) ≡ true → occurs a (asns_of (each (λ h. (h.0, h.1.0)) s.holds) ++ flat_map (λ r. r.1) s.runs) ≡ true
    or_first a = occurs_left a (asns_of (each (λ h. (h.0, h.1.0)) s.holds)) (flat_map (λ r. r.1) s.runs)

pub read_named : ActsAreThoseSaid → ActsAreNamed
read_named said bytes acts is = let f = (said bytes acts).0 is in said_named f.rest acts f.said

-- ---- where they end

module _ (settles : AnyOrderSettles kind_policy) (only : NoOtherIsStable) (w : World) (none : HasCycle w → ⊥) (acts : Acts) (inside : outside w (acts_job acts ∷ []) ≡ None) (sound : AreNamed acts)
    (pieces height : ℕ) (most : IsMostPieces (has (topology w)) acts.list pieces) (high : IsHeight (topology w) height) (enough : height + height ≤ pieces) where
  -- all that are named are ASes
  named : (a : ℕ) → occurs a (asns_of acts.named) ≡ true → has (topology w) a ≡ true
  named = none_foreign (has (topology w)) acts.named (sym ((acts_named w acts inside).1))

  only_ases : HasOnly (has (topology w)) acts.list
  only_ases a there = named a (sound.list a there)

  nothing_outside : (a : ℕ) → has (topology w) a ≡ false → fin.get acts.held a ≡ None
  nothing_outside a away = by (fin.get acts.held a) refl
    where
      by : (o : Option Entry) → fin.get acts.held a ≡ o → o ≡ None
      by None is = refl
      by (Some e) is = absurd (true≢false (sym (named a (sound.held a e is)) ∙ away))

  pub settled_text : (l : Kept) (text answer : Text) → IsKept w l → IsActsText w acts text
      → answer ≡ table (topology w) (λ a. entry_row a (l.routings acts.round acts.prefix a)) → text ≡ answer ++ acts_rows pieces height true
  settled_text l text answer y h is =
      let there = (acts_named w acts inside).0 in
      let k : Kept = h.0 in
      let f : ℕ → Option Entry = h.2 in
      let good : IsStable (setting_of w acts.prefix) (seeds_of w.plan acts.round acts.prefix (k.routings (acts.round - 1) acts.prefix)) f =
      settles (topology w) (book_of w) (state_of w.payloads acts.prefix) (seeds_of w.plan acts.round acts.prefix (k.routings (acts.round - 1) acts.prefix)) height acts.list (fin.get acts.held) f
      (λ cycle is. none (cycle, is)) high only_ases ((most (height + height)).1 enough) nothing_outside h.6.0 in
      let other = subst (λ (seeds : ℕ → Option Seed). IsStable (setting_of w acts.prefix) seeds f) (one_seeds w k l h.1 y acts.round acts.prefix there.0 there.1) good in
      let same : (a : ℕ) → f a ≡ l.routings acts.round acts.prefix a = only w l acts.round acts.prefix none y there.0 there.1 f other in
      let settled : h.5 ≡ true = h.6.3.1 good in
      let p : h.3 ≡ pieces = one_most (has (topology w)) acts.list h.3 pieces h.6.2 most in
      let q : h.4 ≡ height = one_height (topology w) h.4 height h.6.1 high in
      h.6.4 ∙ (λ i. table (topology w) (λ a. entry_row a (same a i)) ++ acts_rows (p i) (q i) (settled i)) ∙ ap (λ t. t ++ acts_rows pieces height true) (sym is)
