-- The leakers so far, one by one: what ASes put in, of whatever form the seeds and the entries are; for callers too.
use Rattle.std.proofs.Common.{◌≡◌, ◌≢◌, ℕ, ◌+◌, Bool, true, false, ◌||◌, ◌==◌, Option, Some, None, List, [], ◌∷◌, ◌++◌, take, refl, sym, ap, ◌∙◌}
use Rattle.std.specs.Prelude.{slice_get}
use Rattle.std.proofs.lemmas.Bool.{eqb-true, eq-eqb}
use Rattle.std.proofs.lemmas.List.Folds.{list_any-append}
use Rattle.net_names.specs.Numbers.{occurs}
use Rattle.stability_laws.proofs.Listing.{take_next}

not_more : (b : Bool) → b ≡ (b || false)
not_more true = refl
not_more false = refl

-- a number more at the end of a list
pub occurs_more : (front more : List ℕ) (x : ℕ) → more ≡ front ++ x ∷ [] → (a : ℕ) → occurs a more ≡ (occurs a front || (x == a))
occurs_more front more x is a = ap (occurs a) is ∙ list_any-append (λ (y : ℕ). y == a) front (x ∷ []) ∙ ap (λ b. occurs a front || b) (sym (not_more (x == a)))

-- what is put in only where nothing stands is the same where it is put in twice
pub put_again : {S H : Type 0} (put : Option S → Bool → Option H → Option S) → ((s : S) (b : Bool) (h : Option H) → put (Some s) b h ≡ Some s) → ((h : Option H) → put None false h ≡ None)
    → (o : Option S) (b : Bool) (h : Option H) → put (put o b h) true h ≡ put o (b || true) h
put_again {S} {H} put stands none (Some s) b h = ap (λ o. put o true h) (stands s b h) ∙ stands s true h ∙ sym (stands s (b || true) h)
put_again {S} {H} put stands none None false h = ap (λ o. put o true h) (none h)
put_again {S} {H} put stands none None true h = by (put None true h) refl
  where
    by : (l : Option S) → put None true h ≡ l → put (put None true h) true h ≡ put None true h
    by None e = ap (λ o. put o true h) e
    by (Some s) e = ap (λ o. put o true h) e ∙ stands s true h ∙ sym e

-- who leaks twice puts in the same
module _ {S H : Type 0} (put : Option S → Bool → Option H → Option S) (again : (o : Option S) (b : Bool) (h : Option H) → put (put o b h) true h ≡ put o (b || true) h) (own before after : ℕ → Option S) (held : ℕ → Option H) (xs : List ℕ) (place x : ℕ) (at : slice_get xs place ≡ Some x) (so_far : (a : ℕ) → before a ≡ put (own a) (occurs a (take place xs)) (held a)) (this : after x ≡ put (before x) true (held x)) (others : (a : ℕ) → a ≢ x → after a ≡ before a) where
  more : (a : ℕ) → occurs a (take (place + 1) xs) ≡ (occurs a (take place xs) || (x == a))
  more = occurs_more (take place xs) (take (place + 1) xs) x (take_next xs place x at)

  at_this : (b : Bool) (a : ℕ) → (x == a) ≡ b → after a ≡ put (own a) (occurs a (take place xs) || b) (held a)
  at_this true a e =
      let same : x ≡ a = eqb-true x a e in
      ap after (sym same) ∙ this ∙ ap (λ y. put (before y) true (held y)) same ∙ ap (λ o. put o true (held a)) (so_far a) ∙ again (own a) (occurs a (take place xs)) (held a)
  at_this false a e = others a (λ same. (let t : (x == a) ≡ true = eq-eqb x a (sym same) in cc)) ∙ so_far a ∙ ap (λ b. put (own a) b (held a)) (not_more (occurs a (take place xs)))

  -- one leaker more
  pub leaked_more : (a : ℕ) → after a ≡ put (own a) (occurs a (take (place + 1) xs)) (held a)
  leaked_more a = at_this (x == a) a refl ∙ sym (ap (λ b. put (own a) b (held a)) (more a))
