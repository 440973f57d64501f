-- The state over a set less a payload, from the payloads that cover.
use Rattle.std.proofs.Common.{◌≡◌, ℕ, Bool, true, false, cond, not, ◌||◌, ◌&&◌, List, [], ◌∷◌, refl, sym, ap, ◌∙◌, Option, Some, None, ◌+◌, ◌≤◌, suc, length, take, drop, arith}
use Rattle.std.specs.Prelude.{if◌then◌else◌, is_some, slice_get}
use Rattle.std.specs.List.{list_any, filter}
use Rattle.std.specs.Ordering.{eq_by_cmp}
use Rattle.std.specs.Cmp.{eq_by_cmp_equiv}
use Rattle.std.proofs.lemmas.List.{take_all}
use Rattle.std.proofs.lemmas.List.Folds.{list_any-append}
use Rattle.std.proofs.Math.Bool.{and_assoc}
use Rattle.std.proofs.Math.Seq.{take-add}
use Rattle.std.specs.FinMap as fin
use Rattle.net_names.specs.declared.routes.State.{State}
use Rattle.net_names.specs.declared.routes.State.TheVariants.{NotFound, Valid, Invalid}
use Rattle.net_names.specs.Prefixes.{PrefixValue}
use Rattle.net_names.specs.Coverage.{covers, shortened}
use Rattle.net_names.specs.Payloads.{VrpValue, vrp_cmp}
use Rattle.net_names.specs.Orders.{vrp_total, exact_vrp}
use Rattle.roa_table.specs.Sets.{Payloads, taken, items, has}
use Rattle.roa_table.specs.Cover.{covering, rows_below, of_prefix}
use Rattle.roa_table.proofs.Rising.{contains_remove, rising_keys, rising_filter, same_lists, any_filter}
use Rattle.origin_validation.specs.Judging.{matches, state_of}
use Rattle.origin_validation.specs.Leaving.{less, is_left}

-- the payloads less one are those that aren't it
pub taken_items : (s : Payloads) (w : VrpValue) → items (taken s w) ≡ filter (is_left (Some w)) (items s)
taken_items s w = same_lists vrp_total exact_vrp _ _ (rising_keys vrp_cmp (taken s w)) (rising_filter vrp_cmp (is_left (Some w)) (items s) (rising_keys vrp_cmp s))
    (λ q.
    sym (fin.contains_key-keys (taken s w) q) ∙ contains_remove vrp_total exact_vrp s w q
    ∙ swap (not (eq_by_cmp vrp_cmp q w)) (has s q)
    ∙ (λ i. fin.contains_key-keys s q i && not ((eq_by_cmp_equiv vrp_total).symm q w i))
    ∙ sym (any_filter vrp_total exact_vrp (is_left (Some w)) (items s) q))
  where
    swap : (a b : Bool) → (a && b) ≡ (b && a)
    swap true true = refl
    swap true false = refl
    swap false true = refl
    swap false false = refl

all_left : {A : Type 0} (xs : List A) → xs ≡ filter (λ _. true) xs
all_left [] = refl
all_left (x ∷ xs) = ap (λ l. x ∷ l) (all_left xs)

pub less_items : (s : Payloads) (but : Option VrpValue) → items (less s but) ≡ filter (is_left but) (items s)
less_items s None = all_left (items s)
less_items s (Some w) = taken_items s w

-- an element that is kept passes a test where one of the list passes both tests
any_of_filter : {A : Type 0} (f h : A → Bool) (xs : List A) → list_any h (filter f xs) ≡ list_any (λ x. f x && h x) xs
any_of_filter f h [] = refl
any_of_filter f h (x ∷ xs) = by (f x) (any_of_filter f h xs)
  where
    by : (a : Bool) → list_any h (filter f xs) ≡ list_any (λ x. f x && h x) xs → list_any h (cond a (x ∷ filter f xs) (filter f xs)) ≡ ((a && h x) || list_any (λ x. f x && h x) xs)
    by true e = ap (λ b. h x || b) e
    by false e = e

-- one of two filters can be a part of the test
any_of_two : {A : Type 0} (f g h : A → Bool) (xs : List A) → list_any h (filter f (filter g xs)) ≡ list_any (λ x. g x && h x) (filter f xs)
any_of_two f g h xs =
    any_of_filter f h (filter g xs) ∙ any_of_filter g (λ x. f x && h x) xs
    ∙ (λ i. list_any (λ x. swap (g x) (f x) (h x) i) xs) ∙ sym (any_of_filter f (λ x. g x && h x) xs)
  where
    swap : (a b c : Bool) → (a && (b && c)) ≡ (b && (a && c))
    swap true true c = refl
    swap true false c = refl
    swap false true c = refl
    swap false false c = refl

has_first : {A : Type 0} (xs : List A) → is_some (slice_get xs 0) ≡ list_any (λ _. true) xs
has_first [] = refl
has_first (x ∷ xs) = refl

always : {A : Type 0} (g : A → Bool) (xs : List A) → list_any (λ x. g x && true) xs ≡ list_any g xs
always g [] = refl
always g (x ∷ xs) = (λ i. and_true (g x) i || always g xs i)
  where
    and_true : (a : Bool) → (a && true) ≡ a
    and_true true = refl
    and_true false = refl

-- what the two questions over the payloads that cover say
abbrev pub judged : Bool → Bool → State
judged found valid = if valid then Valid else if found then Invalid else NotFound

-- whether a payload covers the prefix and is left
abbrev pub counts : Option VrpValue → PrefixValue → VrpValue → Bool
counts but p v = covers v.prefix p && is_left but v

-- whether such a payload matches too
abbrev pub counts_and_matches : Option VrpValue → PrefixValue → ℕ → VrpValue → Bool
counts_and_matches but p origin v = counts but p v && matches p origin v

-- one of the elements before a place passes the test, or one of a row from there on
pub place_step : {A : Type 0} (f : A → Bool) (xs : List A) (n : ℕ) (row : List A) (b c : Bool) → row ≡ take (length row) (drop n xs) → b ≡ list_any f (take n xs) → c ≡ (b || list_any f row) → c ≡ list_any f (take (n + length row) xs)
place_step f xs n row b c next e g =
    g ∙ (λ i. e i || list_any f (next i)) ∙ sym (list_any-append f (take n xs) (take (length row) (drop n xs)))
    ∙ ap (list_any f) (sym (take-add n (length row) xs))

module _ (s : Payloads) (but : Option VrpValue) (p : PrefixValue) (origin : ℕ) where
  abbrev found : List VrpValue → Bool
  found xs = list_any (is_left but) xs

  abbrev valid : List VrpValue → Bool
  valid xs = list_any (λ v. is_left but v && matches p origin v) xs

  covering_less : covering (less s but) p ≡ filter (λ v. covers v.prefix p) (filter (is_left but) (items s))
  covering_less = ap (filter (λ v. covers v.prefix p)) (less_items s but)

  found_is : is_some (slice_get (covering (less s but) p) 0) ≡ found (covering s p)
  found_is = has_first (covering (less s but) p)
      ∙ ap (list_any (λ _. true)) covering_less
      ∙ any_of_two (λ v. covers v.prefix p) (is_left but) (λ _. true) (items s) ∙ always (is_left but) (covering s p)

  valid_is : list_any (matches p origin) (covering (less s but) p) ≡ valid (covering s p)
  valid_is = ap (list_any (matches p origin)) covering_less ∙ any_of_two (λ v. covers v.prefix p) (is_left but) (matches p origin) (items s)

  pub state_judged : state_of (less s but) p origin ≡ judged (found (covering s p)) (valid (covering s p))
  state_judged = λ i. judged (found_is i) (valid_is i)

  pub row_step : (f : VrpValue → Bool) (n : ℕ) (b c : Bool) → b ≡ list_any f (rows_below s p n) → c ≡ list_any f (of_prefix s (shortened p n)) → (b || c) ≡ list_any f (rows_below s p (n + 1))
  row_step f n b c e g =
      let next : suc n ≡ n + 1 = omega arith in
      (λ i. e i || g i) ∙ sym (list_any-append f (rows_below s p n) (of_prefix s (shortened p n))) ∙ ap (λ k. list_any f (rows_below s p k)) next

  pub ended : (b c : Bool) (n : ℕ) → b ≡ found (rows_below s p n) → c ≡ valid (rows_below s p n) → n ≡ suc p.len → rows_below s p (suc p.len) ≡ covering s p → judged b c ≡ state_of (less s but) p origin
  ended b c n e g l h =
      let all : rows_below s p n ≡ covering s p = ap (rows_below s p) l ∙ h in
      (λ i. judged (e i) (g i)) ∙ (λ i. judged (found (all i)) (valid (all i))) ∙ sym state_judged

  -- where all payloads have been looked at, the two answers tell the state
  pub all_ended : (b c : Bool) (n : ℕ) → b ≡ list_any (counts but p) (take n (items s)) → c ≡ list_any (counts_and_matches but p origin) (take n (items s)) → length (items s) ≤ n → judged b c ≡ state_of (less s but) p origin
  all_ended b c n e g l =
      let all : take n (items s) ≡ items s = take_all n (items s) l in
      (λ i. judged (e i) (g i)) ∙ (λ i. judged (list_any (counts but p) (all i)) (list_any (counts_and_matches but p origin) (all i)))
      ∙ (λ i. judged (list_any (counts but p) (items s)) (list_any (λ v. and_assoc (covers v.prefix p) (is_left but v) (matches p origin v) i) (items s)))
      ∙ sym (λ i. judged (any_of_filter (λ v. covers v.prefix p) (is_left but) (items s) i) (any_of_filter (λ v. covers v.prefix p) (λ v. is_left but v && matches p origin v) (items s) i))
      ∙ sym state_judged
