-- The first item of a list that stands earlier too.
use Rattle.std.proofs.Common.{◌≡◌, ℕ, suc, ◌+◌, ◌<◌, ◌≤◌, true, false, not, ◌||◌, cond, Bool, List, [], ◌∷◌, ◌++◌, length, get_or, take, drop, map, Option, Some, None, Result, Ok, Err, refl, ap, sym, ◌∙◌, add-one, arith, append_assoc, length-append, drop-cons}
use Rattle.std.proofs.Math.ListN.{drop_of_length-le}
use Rattle.std.specs.BTreeMap.{is_at}
use Rattle.std.specs.Cmp.{IsTotalOrder}
use Rattle.std.specs.Prelude.{fold, if◌then◌else◌}
use Rattle.std.specs.Bool.{then_some}
use Rattle.std.specs.Option.{option_or}
use Rattle.net_names.specs.Steps.{unless, first_fault}
use Rattle.std.specs.List.{list_any}
use Rattle.std.proofs.lemmas.Cmp.{eq_by_cmp_equiv}
use Rattle.std.proofs.lemmas.List.Folds.{list_any_more}
use Rattle.std.specs.declared.cmp.Ordering.{Ordering}
use Rattle.std.specs.Ordering.{nat_cmp, eq_by_cmp}
use Rattle.net_names.specs.Addresses.{addr_cmp}
use Rattle.net_names.specs.Prefixes.{announcement_cmp}
use Rattle.scenario_text.specs.declared.places.Member.TheVariants.{Announcements, Policies, Leaks, Watch}
use Rattle.scenario_text.specs.Scenarios.{ScenarioValue, announcement_name}
use Rattle.scenario_text.specs.declared.places.Place.{Place}
use Rattle.scenario_text.specs.declared.faults.ScenarioError.{ScenarioError}
use Rattle.scenario_text.specs.declared.faults.ScenarioError.TheVariants.{Memory, NotJson, Shape, Value, Twice, Limit}
use Rattle.scenario_text.specs.Faults.{Fails, Gives, GivesBy}
use Rattle.scenario_text.specs.Places.{item, in_member}
use Rattle.scenario_text.specs.Walks.{◌>>=◌, each_from}
use Rattle.scenario_text.specs.Twice.{once_in, twice, once}
use Rattle.scenario_text.proofs.Walking.{passed, passed-cons, passed-first_fault, tested}

-- an item is named twice where an equal one stands before it in the list
abbrev pub once_at : {K : Type 0} → (K → K → Ordering) → Place → List K → ℕ → K → Result (Unit {0}) ScenarioError
once_at cmp p keys i key = if list_any (eq_by_cmp cmp key) (take i keys) then Err (Twice (item p i)) else Ok tt

-- the items are tested one after the other
once_after : {K : Type 0} (cmp : K → K → Ordering) (p : Place) (before keys : List K)
    → passed (each_from (once_at cmp p (before ++ keys)) (length before) keys) ≡ tested (first_fault (λ before key. then_some (list_any (eq_by_cmp cmp key) before) (Twice (item p (length before)))) before keys)
unfolding each_from
once_after cmp p before [] = refl
once_after cmp p before (key ∷ keys) =
    let longer : length (before ++ key ∷ []) ≡ suc (length before) = omega (arith, length-append before (key ∷ [])) in
    rw (take_front before (key ∷ keys)) (by_test (list_any (eq_by_cmp cmp key) before) (rw (append_assoc before (key ∷ []) keys, longer) at (once_after cmp p (before ++ key ∷ []) keys)))
  where
    take_front : {K : Type 0} (xs ys : List K) → take (length xs) (xs ++ ys) ≡ xs
    take_front [] ys = refl
    take_front {K = K} (x ∷ xs) ys = ap (λ (l : List K). x ∷ l) (take_front xs ys)

    by_test : (b : Bool) → passed (each_from (once_at cmp p (before ++ key ∷ keys)) (suc (length before)) keys) ≡ tested (first_fault (λ before key. then_some (list_any (eq_by_cmp cmp key) before) (Twice (item p (length before)))) (before ++ key ∷ []) keys)
        → passed ((if b then Err (Twice (item p (length before))) else Ok tt) >>= λ y. each_from (once_at cmp p (before ++ key ∷ keys)) (suc (length before)) keys >>= λ ys. Ok (y ∷ ys))
        ≡ tested (option_or (then_some b (Twice (item p (length before)))) (first_fault (λ before key. then_some (list_any (eq_by_cmp cmp key) before) (Twice (item p (length before)))) (before ++ key ∷ []) keys))
    by_test true rest = refl
    by_test false rest = passed-cons tt (each_from (once_at cmp p (before ++ key ∷ keys)) (suc (length before)) keys) ∙ rest

pub once_in_steps : {K : Type 0} (cmp : K → K → Ordering) (p : Place) (keys : List K) → passed (each_from (once_at cmp p keys) 0 keys) ≡ once_in cmp p keys
unfolding twice
once_in_steps cmp p keys = once_after cmp p [] keys

-- the tests of four lists, one after the other
abbrev pub once_steps : ScenarioValue → Result (Unit {0}) ScenarioError
once_steps s =
    once_in announcement_cmp (in_member Announcements) (map announcement_name s.announcements)
    >>= λ _. once_in nat_cmp (in_member Policies) (map (λ p. p.0) s.policies)
    >>= λ _. each_from (λ i. once_in nat_cmp (item (in_member Leaks) i)) 0 s.leaks
    >>= λ _. once_in addr_cmp (in_member Watch) s.watch

four_tests : (a b c d : Option ScenarioError) (l : Result (List (Unit {0})) ScenarioError) (s : ScenarioValue) → passed l ≡ tested c
    → unless (fold option_or None (a ∷ b ∷ c ∷ d ∷ [])) (Ok s) ≡ ((tested a >>= λ _. tested b >>= λ _. l >>= λ _. tested d) >>= λ _. Ok s)
four_tests (Some e) b c d l s h = refl
four_tests None (Some e) c d l s h = refl
four_tests None None (Some e) d (Ok us) s h = absurd (cc)
four_tests None None (Some e) d (Err f) s h = let same : f ≡ e = cc in rw same refl
four_tests None None None (Some e) (Ok us) s h = refl
four_tests None None None None (Ok us) s h = refl
four_tests None None None d (Err f) s h = absurd (cc)

pub once_is : (s : ScenarioValue) → once s ≡ (once_steps s >>= λ _. Ok s)
unfolding once
once_is s =
    four_tests (twice announcement_cmp (in_member Announcements) (map announcement_name s.announcements)) (twice nat_cmp (in_member Policies) (map (λ p. p.0) s.policies))
    (first_fault (λ before. twice nat_cmp (item (in_member Leaks) (length before))) [] s.leaks) (twice addr_cmp (in_member Watch) s.watch)
    (each_from (λ i. once_in nat_cmp (item (in_member Leaks) i)) 0 s.leaks) s
    (passed-first_fault (λ i. twice nat_cmp (item (in_member Leaks) i)) [] s.leaks)

-- the first fault of the tests is that of the whole
pub fails_then : {A B : Type 0} (e : ScenarioError) (reading : Result A ScenarioError) (next : A → Result B ScenarioError) → Fails e reading → Fails e (reading >>= next)
fails_then Memory reading next h = tt
fails_then NotJson reading next h = rw h refl
fails_then (Shape p) reading next h = rw h refl
fails_then (Value p) reading next h = rw h refl
fails_then (Twice p) reading next h = rw h refl
fails_then (Limit l) reading next h = rw h refl

pub second_fails : (e : ScenarioError) (a b d : Result (Unit {0}) ScenarioError) (c : Result (List (Unit {0})) ScenarioError) (s : ScenarioValue) → a ≡ Ok tt → Fails e b
    → Fails e ((a >>= λ _. b >>= λ _. c >>= λ _. d) >>= λ _. Ok s)
second_fails e a b d c s passes h = rw passes (fails_then e (b >>= λ _. c >>= λ _. d) (λ _. Ok s) (fails_then e b (λ _. c >>= λ _. d) h))

-- the last test, and the four lists after it
pub passes_on : (r : Result (Unit {0}) ScenarioError) (tests : Result (Unit {0}) ScenarioError) (s : ScenarioValue) → Gives r tests → GivesBy (λ _. s) r (tests >>= λ _. Ok s)
passes_on (Ok u) tests s h = rw h refl
passes_on (Err Memory) tests s h = tt
passes_on (Err NotJson) tests s h = rw h refl
passes_on (Err (Shape p)) tests s h = rw h refl
passes_on (Err (Value p)) tests s h = rw h refl
passes_on (Err (Twice p)) tests s h = rw h refl
passes_on (Err (Limit l)) tests s h = rw h refl

-- what is still to be tested from this place on
abbrev pub rest_once : {K : Type 0} → (K → K → Ordering) → Place → List K → ℕ → Result (Unit {0}) ScenarioError
rest_once cmp place keys i = passed (each_from (once_at cmp place keys) i (drop i keys))

not_new : (b : Bool) → not b ≡ false → b ≡ true
not_new true e = refl
not_new false e = absurd (cc)

is_new : (b : Bool) → not b ≡ true → b ≡ false
is_new true e = absurd (cc)
is_new false e = refl

module _ {K : Type 0} (cmp : K → K → Ordering) (place : Place) (keys : List K) (i : ℕ) (key : K) (found : Bool) where
  pub goes_on : key ≡ get_or keys i key → i < length keys → found ≡ list_any (eq_by_cmp cmp key) (take i keys) → not found ≡ true
      → rest_once cmp place keys i ≡ once_in cmp place keys → rest_once cmp place keys (i + 1) ≡ once_in cmp place keys
  unfolding each_from
  goes_on is lt told new so_far =
      let none : list_any (eq_by_cmp cmp key) (take i keys) ≡ false = sym told ∙ is_new found new in
      let one : rest_once cmp place keys i ≡ rest_once cmp place keys (suc i) = rw (drop-cons keys i key, ← is, none) (passed-cons tt (each_from (once_at cmp place keys) (suc i) (drop (suc i) keys))) in
      rw add-one (sym one ∙ so_far)

  pub stops : key ≡ get_or keys i key → i < length keys → found ≡ list_any (eq_by_cmp cmp key) (take i keys) → not found ≡ false
      → rest_once cmp place keys i ≡ once_in cmp place keys → once_in cmp place keys ≡ Err (Twice (item place i))
  unfolding each_from
  stops is lt told old so_far =
      let one_before : list_any (eq_by_cmp cmp key) (take i keys) ≡ true = sym told ∙ not_new found old in
      let one : rest_once cmp place keys i ≡ Err (Twice (item place i)) = rw (drop-cons keys i key, ← is, one_before) refl in sym so_far ∙ one

pub ends : {K : Type 0} (cmp : K → K → Ordering) (place : Place) (keys : List K) (i : ℕ) → length keys ≤ i → rest_once cmp place keys i ≡ once_in cmp place keys → once_in cmp place keys ≡ Ok tt
unfolding each_from
ends cmp place keys i le so_far =
    let one : rest_once cmp place keys i ≡ Ok tt = rw (drop_of_length-le keys {i = i} le) refl in sym so_far ∙ one

cond-or : (a b m : Bool) → a ≡ b → cond a true m ≡ (m || b)
cond-or true true true e = refl
cond-or true true false e = refl
cond-or false false true e = refl
cond-or false false false e = refl
cond-or true false m e = absurd (cc)
cond-or false true m e = absurd (cc)

-- one more key is in the set, and one more in the list
pub contains_more : {K : Type 0} (cmp : K → K → Ordering) (o : IsTotalOrder cmp) (keys : List K) (i : ℕ) (key q : K) (before after : Bool) → key ≡ get_or keys i key → i < length keys
    → after ≡ cond (is_at (cmp key) q) true before → before ≡ list_any (eq_by_cmp cmp q) (take i keys) → after ≡ list_any (eq_by_cmp cmp q) (take (i + 1) keys)
contains_more cmp o keys i key q before after is lt told so_far =
    let flips : eq_by_cmp cmp key q ≡ eq_by_cmp cmp q key = (eq_by_cmp_equiv o).symm key q in
    rw (list_any_more (eq_by_cmp cmp q) keys i key lt, ← is, ← so_far) (told ∙ cond-or (is_at (cmp key) q) (eq_by_cmp cmp q key) before flips)
