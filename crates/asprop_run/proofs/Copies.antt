-- A routing that is copied AS by AS.
use Rattle.std.proofs.Common.{◌≡◌, ◌≢◌, ◌<◌, ◌+◌, ◌||◌, ◌==◌, inl, inr, ℕ, Bool, true, false, cond, Some, None, List, [], ◌∷◌, ◌++◌, length, take, get_or, refl, sym, ap, subst, ◌∙◌}
use Rattle.std.proofs.lemmas.Bool.{cases_eq, eq-eqb, ne_eqb}
use Rattle.std.proofs.lemmas.List.{take_more}
use Rattle.std.specs.Ordering.{nat_cmp}
use Rattle.std.specs.Cmp.{nat_cmp_total, unsigned_tied}
use Rattle.std.specs.FinMap as fin
use Rattle.as_graph.proofs.RowAses.{occurs-append}
use Rattle.net_names.specs.Numbers.{occurs}
use Rattle.stability_laws.specs.declared.entry.Entry.{Entry}

module _ (held old new : fin.FinMap nat_cmp Entry) (ases : List ℕ) (i asn : ℕ) (within : i < length ases) (is : asn ≡ get_or ases i asn) where
  -- who stands among the first so many and one more
  one_more : (a : ℕ) → occurs a (take (i + 1) ases) ≡ (occurs a (take i ases) || (asn == a || false))
  one_more a = ap (occurs a) (take_more ases i asn within ∙ ap (λ x. take i ases ++ x ∷ []) (sym is)) ∙ occurs-append a (take i ases) (asn ∷ [])

  this_one : (x : Bool) → (x || (asn == asn || false)) ≡ true
  this_one true = refl
  this_one false = ap (λ b. b || false) (eq-eqb asn asn refl)

  other_one : (x b : Bool) → b ≡ false → (x || (b || false)) ≡ x
  other_one true b none = refl
  other_one false b none = ap (λ b. b || false) none

  -- the entries up to one are copied, then those up to the next
  copied : ((a : ℕ) → a ≢ asn → fin.get new a ≡ fin.get old a) → fin.get new asn ≡ fin.get held asn → ((a : ℕ) → fin.get old a ≡ cond (occurs a (take i ases)) (fin.get held a) None)
      → (a : ℕ) → fin.get new a ≡ cond (occurs a (take (i + 1) ases)) (fin.get held a) None
  copied others here before a = elim (cases_eq a asn) [
    | inl e ↦ subst (λ n. fin.get new n ≡ cond (occurs n (take (i + 1) ases)) (fin.get held n) None) (sym e)
        (here ∙ ap (λ b. cond b (fin.get held asn) None) (sym (one_more asn ∙ this_one (occurs asn (take i ases)))))
    | inr ne ↦ others a ne ∙ before a ∙ ap (λ b. cond b (fin.get held a) None) (sym (one_more a ∙ other_one (occurs a (take i ases)) (asn == a) (ne_eqb asn a (λ t. ne (sym t)))))
  ]

  -- an entry was copied
  pub one_copied : (e : Entry) → Some e ≡ fin.get held asn → new ≡ fin.insert old asn e → ((a : ℕ) → fin.get old a ≡ cond (occurs a (take i ases)) (fin.get held a) None)
      → (a : ℕ) → fin.get new a ≡ cond (occurs a (take (i + 1) ases)) (fin.get held a) None
  one_copied e there put =
      let at : (a : ℕ) → fin.get new a ≡ cond (a == asn) (Some e) (fin.get old a) =
      λ a. ap (λ m. fin.get m a) put ∙ fin.get-insert nat_cmp_total old asn e a ∙ ap (λ b. cond b (Some e) (fin.get old a)) (unsigned_tied a asn) in
      copied (λ a ne. at a ∙ ap (λ b. cond b (Some e) (fin.get old a)) (ne_eqb a asn ne)) (at asn ∙ ap (λ b. cond b (Some e) (fin.get old asn)) (eq-eqb asn asn refl) ∙ there)

  -- there was none
  pub none_copied : None ≡ fin.get held asn → new ≡ old → ((a : ℕ) → fin.get old a ≡ cond (occurs a (take i ases)) (fin.get held a) None)
      → (a : ℕ) → fin.get new a ≡ cond (occurs a (take (i + 1) ases)) (fin.get held a) None
  none_copied none same before =
      let nothing : (b : Bool) → cond b (fin.get held asn) None ≡ fin.get held asn = λ b. elim b as (λ b. cond b (fin.get held asn) None ≡ fin.get held asn) [ true ↦ refl | false ↦ none ] in
      copied (λ a ne. ap (λ m. fin.get m a) same) (ap (λ m. fin.get m asn) same ∙ before asn ∙ nothing (occurs asn (take i ases))) before

-- all are copied, where there is nothing elsewhere
pub all_copied : (held new : fin.FinMap nat_cmp Entry) (ases : List ℕ) → ((a : ℕ) → occurs a ases ≡ false → fin.get held a ≡ None) → ((a : ℕ) → fin.get new a ≡ cond (occurs a ases) (fin.get held a) None)
    → (a : ℕ) → fin.get new a ≡ fin.get held a
all_copied held new ases elsewhere done a = done a ∙ by (occurs a ases) refl
  where
    by : (b : Bool) → occurs a ases ≡ b → cond b (fin.get held a) None ≡ fin.get held a
    by true is = refl
    by false is = sym (elsewhere a is)
