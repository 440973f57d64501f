-- Own paths, and who is named by a line.
use Rattle.std.proofs.Common.{◌≡◌, ℕ, ◌<◌, Bool, true, false, ◌==◌, cond, List, [], ◌∷◌, ◌++◌, length, map as each, Option, Some, None, inl, inr, refl, sym, ap, subst, ◌∙◌}
use Rattle.std.specs.Prelude.{◌==◌ as nat_eq, not, find, option_map}
use Rattle.std.specs.List.{starts_with}
use Rattle.std.specs.Ordering.{nat_cmp, eq_by_cmp}
use Rattle.std.specs.Cmp.{nat_cmp_total, unsigned_tied}
use Rattle.std.specs.FinMap as map
use Rattle.std.proofs.lemmas.Bool.{or_cases, or_left, eq-eqb, eqb-true, false≢true, true≢false}
use Rattle.std.proofs.lemmas.List.Folds.{list_any-append}
use Rattle.net_names.specs.Numbers.{occurs}
use Rattle.net_names.specs.Prefixes.{PrefixValue}
use Rattle.scenario_text.specs.Scenarios.{StartsWith}
use Rattle.scenario_text.proofs.Sound.{own_path}
use Rattle.stability_laws.specs.declared.entry.Entry.{Entry}
use Rattle.stability_laws.specs.Runs.{HasOnly}
use Rattle.stability_laws.proofs.Pieces.{occurs_left, occurs_right}
use Rattle.activations.specs.declared.acts.Acts.{Acts}
use Rattle.activations.specs.Named.{AreSound, asns_of, first_foreign_in}

none_some : (e : Entry) (Q : Type 0) → None ≡ Some e → Q
none_some e Q h = absurd cc

asns_more : (named : List (ℕ × ℕ)) (line : ℕ) (ases : List ℕ) → asns_of (named ++ each (λ a. (line, a)) ases) ≡ asns_of named ++ ases
asns_more [] line [] = refl
asns_more [] line (a ∷ ases) = ap (λ t. a ∷ t) (asns_more [] line ases)
asns_more (x ∷ named) line ases = ap (λ t. x.1 ∷ t) (asns_more named line ases)

-- what a line `for R P` says alone
abbrev pub no_acts : ℕ → ℕ × PrefixValue → Acts
no_acts line x = record { for_line = line; round = x.0; prefix = x.1; held = map.empty; list = []; named = [] }

-- it says nothing of an AS
pub sound_none : (acts : Acts) (line : ℕ) (names : ℕ × PrefixValue) → acts ≡ no_acts line names → AreSound acts
sound_none acts line names is = record {
  own = λ a e h. none_some e (StartsWith a e.path × (length e.path < 16777216)) (none a ∙ h);
  held = λ a e h. none_some e (occurs a (asns_of acts.named) ≡ true) (none a ∙ h);
  list = λ a h. absurd (false≢true (sym (ap (λ t. occurs a t.list) is) ∙ h));
}
  where
    none : (a : ℕ) → None ≡ map.get acts.held a
    none a = sym (ap (λ t. map.get t.held a) is ∙ map.get-empty nat_cmp a)

put_at : (b : Bool) (e d : Entry) (o : Option Entry) (Q : Entry → Type 0) → (b ≡ true → Q e) → (o ≡ Some d → Q d) → cond b (Some e) o ≡ Some d → Q d
put_at true e d o Q new old h = let same : e ≡ d = cc in subst Q same (new refl)
put_at false e d o Q new old h = old h

-- an AS holds an entry of its own
pub sound_hold : (acts new : Acts) (line a : ℕ) (e : Entry) → AreSound acts → starts_with nat_eq e.path (a ∷ []) ≡ true → length e.path < 16777216
    → new.held ≡ map.insert acts.held a e → new.list ≡ acts.list → new.named ≡ acts.named ++ (line, a) ∷ [] → AreSound new
sound_hold acts new line a e s begins few held list named = record {
  own = λ n d h. put_at (eq_by_cmp nat_cmp n a) e d (map.get acts.held n) (λ x. StartsWith n x.path × (length x.path < 16777216))
      (λ t. (subst (λ m. StartsWith m e.path) (sym (is_it n t)) (own_path a e.path begins), few)) (s.own n d) (at n ∙ h);
  held = λ n d h. put_at (eq_by_cmp nat_cmp n a) e d (map.get acts.held n) (λ _. occurs n (asns_of new.named) ≡ true)
      (λ t. in_new n (occurs_right n (asns_of acts.named) (a ∷ []) (or_left (a == n) false (eq-eqb a n (sym (is_it n t))))))
      (λ old. in_new n (occurs_left n (asns_of acts.named) (a ∷ []) (s.held n d old))) (at n ∙ h);
  list = λ n h. in_new n (occurs_left n (asns_of acts.named) (a ∷ []) (s.list n (sym (ap (occurs n) list) ∙ h)));
}
  where
    is_it : (n : ℕ) → eq_by_cmp nat_cmp n a ≡ true → n ≡ a
    is_it n t = eqb-true n a (sym (unsigned_tied n a) ∙ t)

    at : (n : ℕ) → cond (eq_by_cmp nat_cmp n a) (Some e) (map.get acts.held n) ≡ map.get new.held n
    at n = sym (ap (λ m. map.get m n) held ∙ map.get-insert nat_cmp_total acts.held a e n)

    in_new : (n : ℕ) → occurs n (asns_of acts.named ++ a ∷ []) ≡ true → occurs n (asns_of new.named) ≡ true
    in_new n h = ap (λ t. occurs n (asns_of t)) named ∙ ap (occurs n) (asns_more acts.named line (a ∷ [])) ∙ h

-- ASes are activated
pub sound_acts : (acts new : Acts) (line : ℕ) (ases : List ℕ) → AreSound acts → new.held ≡ acts.held → new.list ≡ acts.list ++ ases → new.named ≡ acts.named ++ each (λ a. (line, a)) ases → AreSound new
sound_acts acts new line ases s held list named = record {
  own = λ n d h. s.own n d (at n ∙ h);
  held = λ n d h. in_new n (occurs_left n (asns_of acts.named) ases (s.held n d (at n ∙ h)));
  list = λ n h. elim (or_cases (occurs n acts.list) (occurs n ases) (sym (ap (occurs n) list ∙ list_any-append (λ (y : ℕ). y == n) acts.list ases) ∙ h)) [
    | inl old ↦ in_new n (occurs_left n (asns_of acts.named) ases (s.list n old))
    | inr more ↦ in_new n (occurs_right n (asns_of acts.named) ases more)
  ];
}
  where
    at : (n : ℕ) → map.get acts.held n ≡ map.get new.held n
    at n = sym (ap (λ m. map.get m n) held)

    in_new : (n : ℕ) → occurs n (asns_of acts.named ++ ases) ≡ true → occurs n (asns_of new.named) ≡ true
    in_new n h = ap (λ t. occurs n (asns_of t)) named ∙ ap (occurs n) (asns_more acts.named line ases) ∙ h

-- ---- no foreign AS

pub none_foreign : (has : ℕ → Bool) (named : List (ℕ × ℕ)) → None ≡ first_foreign_in has named → (a : ℕ) → occurs a (asns_of named) ≡ true → has a ≡ true
none_foreign has [] e a h = absurd (false≢true h)
none_foreign has (x ∷ named) e a h = by (has x.1) refl e (none_foreign has named)
  where
    by : (b : Bool) → has x.1 ≡ b → None ≡ option_map (λ (y : ℕ × ℕ). y.0) (cond (not b) (Some x) (find (λ y. not (has y.1)) named))
        → (None ≡ first_foreign_in has named → (a : ℕ) → occurs a (asns_of named) ≡ true → has a ≡ true) → has a ≡ true
    by true is e more = elim (or_cases (x.1 == a) (occurs a (asns_of named)) h) [
      | inl k ↦ subst (λ t. has t ≡ true) (eqb-true x.1 a k) is
      | inr k ↦ more e a k
    ]
    by false is e more = absurd cc

-- where all that are named are ASes, only ASes are activated, and no other number holds anything; for callers
module _ (has : ℕ → Bool) (acts : Acts) (s : AreSound acts) (named : (a : ℕ) → occurs a (asns_of acts.named) ≡ true → has a ≡ true) where
  pub only_ases : HasOnly has acts.list
  only_ases a there = named a (s.list a there)

  pub nothing_outside : (a : ℕ) → has a ≡ false → map.get acts.held a ≡ None
  nothing_outside a away = by (map.get acts.held a) refl
    where
      by : (o : Option Entry) → map.get acts.held a ≡ o → o ≡ None
      by None is = refl
      by (Some e) is = absurd (true≢false (sym (named a (s.held a e is)) ∙ away))
