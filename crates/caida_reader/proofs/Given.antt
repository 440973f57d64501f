-- Which links lines give, and which lines have links.
use Rattle.std.proofs.Common.{◌≡◌, ℕ, ◌+◌, ◌<◌, ◌≤◌, ◌⊎◌, inl, inr, Bool, true, false, cond, T, List, [], ◌∷◌, ◌++◌, map, length, Contains, Option, Some, None, refl, sym, ap, subst, ◌∙◌, arith, if◌then◌else◌}
use Rattle.std.specs.Prelude.{nat_lt, option_map}
use Rattle.std.specs.Ordering.{eq_by_cmp, is_eq}
use Rattle.std.specs.Cmp.{tied_itself}
use Rattle.std.proofs.lemmas.List.{length-map}
use Rattle.std.proofs.lemmas.Bool.{lt-ltb, ltb-true}
use Rattle.std.proofs.lemmas.List.Elements.{Contains-push, Contains-push_cases, Contains-append_left, Contains-append_right, Contains-append_cases}
use Rattle.std.specs.FinMap.{find, get, len, entries, entries_sorted, from_sorted, is_sorted, get-from_entries, get-from_sorted, entries-from_sorted, len-entries, len-insert, same_map}
use Rattle.std.specs.FinMap.Entries.{below_all}
use Rattle.net_names.specs.Links.{pair_cmp, LinkMap}
use Rattle.net_names.proofs.Pairs.{exact_pair, pairs_total}
use denote.Enum.Bare.{sameb}
use Rattle.net_names.specs.declared.routes.Rel.{Rel}
use Rattle.net_names.specs.contracts.routes.Rel.{the_type}
use Rattle.net_names.specs.declared.routes.Rel.TheVariants.{Customer, Peer, Provider}
use Rattle.caida_reader.specs.Value.{links_in, link_fault}
use Rattle.caida_reader.specs.Firsts.{FirstMap, firsts, with_first, relations, link_at}
use Rattle.caida_reader.specs.Laws.{HasLinks}
use Rattle.caida_reader.specs.declared.line.Line.{Line}
use Rattle.caida_reader.specs.declared.line.Line.TheVariants.{Skipped, Unreadable, SelfLink, Link}
use Rattle.caida_reader.specs.declared.firsts.First.{First}
use Rattle.caida_reader.specs.declared.errors.RelError.TheVariants as fault
use Rattle.caida_reader.proofs.PairLemmas.{same_pair}
use Rattle.caida_reader.proofs.LinkLemmas.{get-relations}
use Rattle.caida_reader.proofs.Values.{links_given, links_in-given, relations-firsts}

abbrev Entries : Type 0
Entries = List ((ℕ × ℕ) × First)

-- ---- as many links as pairs
below_all-link_at : (p : ℕ × ℕ) (es : Entries) → below_all pair_cmp p (map link_at es) ≡ below_all pair_cmp p es
below_all-link_at p [] = refl
below_all-link_at p (e ∷ es) = rw (below_all-link_at p es) refl

is_sorted-link_at : (es : Entries) → is_sorted pair_cmp (map link_at es) ≡ is_sorted pair_cmp es
is_sorted-link_at [] = refl
is_sorted-link_at (e ∷ es) = rw (below_all-link_at e.0 es, is_sorted-link_at es) refl

len-relations : (m : FirstMap) → len (relations m) ≡ len m
len-relations m =
    let rising : T (is_sorted pair_cmp (map link_at (entries m))) = subst T (sym (is_sorted-link_at (entries m))) (entries_sorted m) in
    let same : relations m ≡ from_sorted (map link_at (entries m)) = same_map pairs_total exact_pair _ _ (λ q. get-from_entries pairs_total (map link_at (entries m)) q ∙ sym (get-from_sorted pair_cmp (map link_at (entries m)) q rising)) in
    ap (λ (links : LinkMap). len links) same ∙ len-entries (from_sorted (map link_at (entries m)))
    ∙ ap (λ (es : List ((ℕ × ℕ) × Rel)). length es) (entries-from_sorted pair_cmp (map link_at (entries m)) rising) ∙ length-map (entries m) link_at ∙ sym (len-entries m)

pub len-links_in : (said : List Line) → len (links_in said) ≡ len (firsts said)
len-links_in said = ap (λ (links : LinkMap). len links) (sym (relations-firsts said)) ∙ len-relations (firsts said)

-- what stands of a pair
pub find-firsts : (said : List Line) (q : ℕ × ℕ) → find pair_cmp q (links_given said) ≡ option_map (λ (f : First). f.rel) (get (firsts said) q)
find-firsts said q = sym (get-from_entries pairs_total (links_given said) q) ∙ ap (λ (links : LinkMap). get links q) (sym (links_in-given said) ∙ sym (relations-firsts said)) ∙ get-relations (firsts said) q

-- ---- elements of a list
Contains-cons_cases : {X : Type 0} (y x : X) (xs : List X) → Contains (y ∷ xs) x → (y ≡ x) ⊎ Contains xs x
Contains-cons_cases y x xs h = elim (Contains-append_cases (y ∷ []) xs x h) as (λ _. (y ≡ x) ⊎ Contains xs x) [
  | inl a ↦ elim (Contains-push_cases [] y x a) as (λ _. (y ≡ x) ⊎ Contains xs x) [ inl b ↦ absurd (omega (arith, b.1)) | inr e ↦ inl e ]
  | inr b ↦ inr b
]

pub Contains-here : {X : Type 0} (x : X) (xs : List X) → Contains (x ∷ xs) x
Contains-here x xs = Contains-append_left (x ∷ []) xs x (Contains-push [] x)

pub Contains-there : {X : Type 0} (y x : X) (xs : List X) → Contains xs x → Contains (y ∷ xs) x
Contains-there y x xs h = Contains-append_right (y ∷ []) xs x h

-- ---- a link that is found is given, and one that is given is found
found-step : (b : Bool) (lo hi c d : ℕ) (rel s : Rel) (rest : Option Rel) (more : List Line) → (b ≡ true → ◌≡◌ {A = ℕ × ℕ} (lo, hi) (c, d)) → (rest ≡ Some rel → Contains more (Link lo hi rel))
    → cond b (Some s) rest ≡ Some rel → Contains (Link c d s ∷ more) (Link lo hi rel)
found-step true lo hi c d rel s rest more same later h =
    let r : s ≡ rel = cc in
    subst (Contains (Link c d s ∷ more)) (ap (λ (p : ℕ × ℕ). Link p.0 p.1 s) (sym (same refl)) ∙ ap (Link lo hi) r) (Contains-here (Link c d s) more)
found-step false lo hi c d rel s rest more same later h = Contains-there _ _ more (later h)

pub found_is_given : (said : List Line) (lo hi : ℕ) (rel : Rel) → find pair_cmp (lo, hi) (links_given said) ≡ Some rel → Contains said (Link lo hi rel)
found_is_given [] lo hi rel h = cc
found_is_given (Link c d s ∷ more) lo hi rel h = found-step (eq_by_cmp pair_cmp (lo, hi) (c, d)) lo hi c d rel s (find pair_cmp (lo, hi) (links_given more)) more (same_pair (lo, hi) (c, d)) (found_is_given more lo hi rel) h
found_is_given (Skipped ∷ more) lo hi rel h = Contains-there _ _ more (found_is_given more lo hi rel h)
found_is_given (Unreadable ∷ more) lo hi rel h = Contains-there _ _ more (found_is_given more lo hi rel h)
found_is_given (SelfLink ∷ more) lo hi rel h = Contains-there _ _ more (found_is_given more lo hi rel h)

cond-none : (b : Bool) (s : Rel) (rest : Option Rel) → cond b (Some s) rest ≡ None → (b ≡ false) × (rest ≡ None)
cond-none true s rest h = cc
cond-none false s rest h = (refl, h)

pub missing_is_not_given : (said : List Line) (lo hi : ℕ) (rel : Rel) → find pair_cmp (lo, hi) (links_given said) ≡ None → Contains said (Link lo hi rel) → ⊥
missing_is_not_given [] lo hi rel h given = omega (arith, given.1)
missing_is_not_given (Link c d s ∷ more) lo hi rel h given =
    let none = cond-none (eq_by_cmp pair_cmp (lo, hi) (c, d)) s (find pair_cmp (lo, hi) (links_given more)) h in
    elim (Contains-cons_cases (Link c d s) (Link lo hi rel) more given) as (λ _. ⊥) [
      | inl e ↦
          let lower : c ≡ lo = cc in
          let higher : d ≡ hi = cc in
          let apart : eq_by_cmp pair_cmp (lo, hi) (lo, hi) ≡ false = rw (lower, higher) at none.0 in
          let tied : eq_by_cmp pair_cmp (lo, hi) (lo, hi) ≡ true = ap is_eq (tied_itself pairs_total (lo, hi)) in
          cc
      | inr later ↦ missing_is_not_given more lo hi rel none.1 later
    ]
missing_is_not_given (Skipped ∷ more) lo hi rel h given = elim (Contains-cons_cases Skipped (Link lo hi rel) more given) as (λ _. ⊥) [ inl e ↦ cc | inr later ↦ missing_is_not_given more lo hi rel h later ]
missing_is_not_given (Unreadable ∷ more) lo hi rel h given = elim (Contains-cons_cases Unreadable (Link lo hi rel) more given) as (λ _. ⊥) [ inl e ↦ cc | inr later ↦ missing_is_not_given more lo hi rel h later ]
missing_is_not_given (SelfLink ∷ more) lo hi rel h given = elim (Contains-cons_cases SelfLink (Link lo hi rel) more given) as (λ _. ⊥) [ inl e ↦ cc | inr later ↦ missing_is_not_given more lo hi rel h later ]

-- ---- one line more
same_rel-refl : (r q : Rel) → r ≡ q → sameb the_type r q ≡ true
same_rel-refl Customer q e = rw (← e) refl
same_rel-refl Peer q e = rw (← e) refl
same_rel-refl Provider q e = rw (← e) refl

same_rel-true : (r q : Rel) → sameb the_type r q ≡ true → r ≡ q
same_rel-true Customer Customer h = refl
same_rel-true Customer Peer h = cc
same_rel-true Customer Provider h = cc
same_rel-true Peer Customer h = cc
same_rel-true Peer Peer h = refl
same_rel-true Peer Provider h = cc
same_rel-true Provider Customer h = cc
same_rel-true Provider Peer h = cc
same_rel-true Provider Provider h = refl

-- a link without a fault agrees with those before it
agrees : (line : ℕ) (rel : Rel) (pairs : ℕ) (first : First) → link_fault line rel pairs (Some first) ≡ None → first.rel ≡ rel
agrees line rel pairs first h = same_rel-true first.rel rel (by_test (sameb the_type first.rel rel) h)
  where
    by_test : (b : Bool) → (if b then None else Some (fault.Conflict line first.line)) ≡ None → b ≡ true
    by_test true h = refl
    by_test false h = cc

has_room : (line : ℕ) (rel : Rel) (pairs : ℕ) → link_fault line rel pairs None ≡ None → pairs < 1500000
has_room line rel pairs h = ltb-true pairs 1500000 (by_test (nat_lt pairs 1500000) h)
  where
    by_test : (b : Bool) → (if b then None else Some (fault.TooManyLinks line)) ≡ None → b ≡ true
    by_test true h = refl
    by_test false h = cc

module _ (before : List Line) (lo hi : ℕ) (rel : Rel) where
  abbrev line : ℕ
  line = length before + 1

  abbrev pairs : ℕ
  pairs = len (firsts before)

  abbrev stands : Option First
  stands = get (firsts before) (lo, hi)

  abbrev Fine : Option First → Type 0
  Fine o = link_fault line rel pairs o ≡ None

  pub agree_with : HasLinks before → (other : Rel) → Contains before (Link lo hi other) → (o : Option First) → stands ≡ o → Fine o → other ≡ rel
  agree_with h other given None is fine = absurd (missing_is_not_given before lo hi other (find-firsts before (lo, hi) ∙ ap (option_map (λ (f : First). f.rel)) is) given)
  agree_with h other given (Some first) is fine =
      let found = found_is_given before lo hi first.rel (find-firsts before (lo, hi) ∙ ap (option_map (λ (f : First). f.rel)) is) in
      h.agree lo hi other first.rel given found ∙ agrees line rel pairs first fine

  pub fine_if : HasLinks (before ++ Link lo hi rel ∷ []) → (o : Option First) → stands ≡ o → len (with_first (firsts before) (lo, hi) (record { rel = rel; line = line })) ≤ 1500000 → Fine o
  fine_if h None is few =
      let more : pairs + 1 ≤ 1500000 = rw (is, len-insert pairs_total (firsts before) (lo, hi) (record { rel = rel; line = line }), is) at few in
      rw (lt-ltb pairs 1500000 (omega (arith, more))) refl
  fine_if h (Some first) is few =
      let found = found_is_given before lo hi first.rel (find-firsts before (lo, hi) ∙ ap (option_map (λ (f : First). f.rel)) is) in
      let same = h.agree lo hi first.rel rel (Contains-append_left before (Link lo hi rel ∷ []) _ found) (Contains-push before (Link lo hi rel)) in
      rw (same_rel-refl first.rel rel same) refl

  pub few_if : (o : Option First) → stands ≡ o → pairs ≤ 1500000 → Fine o → len (with_first (firsts before) (lo, hi) (record { rel = rel; line = line })) ≤ 1500000
  few_if None is few fine = rw (is, len-insert pairs_total (firsts before) (lo, hi) (record { rel = rel; line = line }), is) (let room = has_room line rel pairs fine in omega (arith, room))
  few_if (Some first) is few fine = rw is few
