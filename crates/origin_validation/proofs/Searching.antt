-- A payload of a prefix that matches, found by its maximum length.
use Rattle.std.proofs.Common.{◌≡◌, ℕ, ◌≤◌, ◌<◌, ◌+◌, Bool, true, false, cond, not, ◌||◌, ◌&&◌, ◌==◌, List, [], ◌∷◌, refl, sym, ap, subst, ◌∙◌, Option, Some, None, arith}
use Rattle.std.specs.Prelude.{nat_le, nat_lt}
use Rattle.std.specs.List.{list_any, filter}
use Rattle.std.specs.Ordering.{eq_by_cmp}
use Rattle.std.specs.FinMap as fin
use Rattle.std.proofs.lemmas.Bool.Decides.{nat_tests}
use Rattle.net_names.specs.Addresses.{width}
use Rattle.net_names.specs.Prefixes.{PrefixValue, prefix_cmp}
use Rattle.net_names.specs.Payloads.{VrpValue, vrp_cmp, vrp_at}
use Rattle.net_names.specs.Orders.{vrp_total, exact_vrp, prefix_total, exact_prefix}
use Rattle.roa_table.specs.Sets.{Payloads, items, has, AreSound}
use Rattle.roa_table.specs.Cover.{of_prefix}
use Rattle.roa_table.proofs.Rising.{tie_self, eq_is}
use Rattle.origin_validation.specs.Judging.{matches}
use Rattle.origin_validation.specs.Leaving.{is_left, stands}

-- a member that passes both tests
any_at : (g f : VrpValue → Bool) (xs : List VrpValue) (v : VrpValue) → list_any (eq_by_cmp vrp_cmp v) xs ≡ true → g v ≡ true → f v ≡ true → list_any f (filter g xs) ≡ true
any_at g f [] v there a b = cc there
any_at g f (x ∷ xs) v there a b = by (eq_by_cmp vrp_cmp v x) refl there (any_at g f xs v)
  where
    here : (y : VrpValue) → v ≡ y → list_any f (filter g (y ∷ xs)) ≡ true
    here y e = subst (λ y. list_any f (filter g (y ∷ xs)) ≡ true) e (rw (a, b) refl)

    behind : (b : Bool) → list_any f (filter g xs) ≡ true → list_any f (cond b (x ∷ filter g xs) (filter g xs)) ≡ true
    behind true h = rw h (or_true (f x))
      where
        or_true : (a : Bool) → (a || true) ≡ true
        or_true true = refl
        or_true false = refl
    behind false h = h

    by : (t : Bool) → eq_by_cmp vrp_cmp v x ≡ t → (t || list_any (eq_by_cmp vrp_cmp v) xs) ≡ true → (list_any (eq_by_cmp vrp_cmp v) xs ≡ true → g v ≡ true → f v ≡ true → list_any f (filter g xs) ≡ true) → list_any f (filter g (x ∷ xs)) ≡ true
    by true e h i = here x (eq_is vrp_total exact_vrp v x e)
    by false e h i = behind (g x) (i h a b)

-- no member passes both tests
none_at : (g f : VrpValue → Bool) (xs : List VrpValue) → ((v : VrpValue) → list_any (eq_by_cmp vrp_cmp v) xs ≡ true → g v ≡ true → f v ≡ false) → list_any f (filter g xs) ≡ false
none_at g f [] h = refl
none_at g f (x ∷ xs) h = by (g x) refl (none_at g f xs (λ v e. h v (rw e (or_true (eq_by_cmp vrp_cmp v x)))))
  where
    or_true : (a : Bool) → (a || true) ≡ true
    or_true true = refl
    or_true false = refl

    by : (b : Bool) → g x ≡ b → list_any f (filter g xs) ≡ false → list_any f (cond b (x ∷ filter g xs) (filter g xs)) ≡ false
    by true e i = rw (h x (ap (λ b. b || list_any (eq_by_cmp vrp_cmp x) xs) (tie_self vrp_total exact_vrp x)) e, i) refl
    by false e i = i

module _ (s : Payloads) (but : Option VrpValue) (outer p : PrefixValue) (origin : ℕ) (positive : 0 < origin) where
  abbrev test : VrpValue → Bool
  test v = is_left but v && matches p origin v

  abbrev has_outer : VrpValue → Bool
  has_outer v = eq_by_cmp prefix_cmp v.prefix outer

  abbrev at : ℕ → VrpValue
  at m = record { prefix = outer; max = m; asn = origin }

  matches_at : (m : ℕ) → p.len ≤ m → matches p origin (at m) ≡ true
  matches_at m le = grind (arith, nat_tests, le, positive)

  -- the payload of a maximum length stands, so some payload of the prefix matches
  pub one_matches : (m : ℕ) → p.len ≤ m → stands s but (vrp_at outer m origin) ≡ true → list_any test (of_prefix s outer) ≡ true
  one_matches m le h = by (nat_lt m outer.len || nat_lt (width outer.family) m) h
    where
      by : (b : Bool) → stands s but (cond b None (Some (at m))) ≡ true → list_any test (of_prefix s outer) ≡ true
      by true k = cc k
      by false k = two (is_left but (at m)) refl (has s (at m)) refl k
        where
          two : (x : Bool) → is_left but (at m) ≡ x → (y : Bool) → has s (at m) ≡ y → (x && y) ≡ true → list_any test (of_prefix s outer) ≡ true
          two true e true f k = any_at has_outer test (items s) (at m) (sym (fin.contains_key-keys s (at m)) ∙ f) (tie_self prefix_total exact_prefix outer) (rw (e, matches_at m le) refl)
          two true e false f k = cc k
          two false e y f k = cc k

  -- none stands, so none matches
  pub none_matches : AreSound s → outer.len ≤ p.len → ((m : ℕ) → p.len ≤ m → m < width outer.family + 1 → stands s but (vrp_at outer m origin) ≡ false) → list_any test (of_prefix s outer) ≡ false
  none_matches sound short none = none_at has_outer test (items s) each
    where
      each : (v : VrpValue) → list_any (eq_by_cmp vrp_cmp v) (items s) ≡ true → has_outer v ≡ true → test v ≡ false
      each v there own = by (nat_le p.len v.max) refl (v.asn == origin) refl
        where
          inside : has s v ≡ true
          inside = fin.contains_key-keys s v ∙ there

          prefix : v.prefix ≡ outer
          prefix = eq_is prefix_total exact_prefix v.prefix outer own

          left_false : (a b : Bool) → a ≡ false → (a && b) ≡ false
          left_false a b e = ap (λ x. x && b) e

          right_false : (a : Bool) → (a && false) ≡ false
          right_false true = refl
          right_false false = refl

          missing : (x y : Bool) → (x && y) ≡ false → y ≡ true → x ≡ false
          missing true y e f = cc (e, f)
          missing false y e f = refl

          left : p.len ≤ v.max → v.asn ≡ origin → is_left but v ≡ false
          left le asn =
              let same : v ≡ at v.max = (λ i. record { prefix = prefix i; max = v.max; asn = asn i }) in
              let high : v.max ≤ width outer.family = subst (λ q. v.max ≤ width q.family) prefix (sound v inside).max.1 in
              let low : nat_lt v.max outer.len ≡ false = grind (arith, nat_tests, le, short) in
              let wide : nat_lt (width outer.family) v.max ≡ false = grind (arith, nat_tests, high) in
              let stood : stands s but (Some (at v.max)) ≡ false = sym ((λ i. stands s but (cond (low i || wide i) None (Some (at v.max))))) ∙ none v.max le (omega (arith, high)) in
              ap (is_left but) same ∙ missing (is_left but (at v.max)) (has s (at v.max)) stood (ap (has s) (sym same) ∙ inside)

          by : (a : Bool) → nat_le p.len v.max ≡ a → (b : Bool) → (v.asn == origin) ≡ b → (is_left but v && (a && (b && not (v.asn == 0)))) ≡ false
          by false e b f = right_false (is_left but v)
          by true e false f = right_false (is_left but v)
          by true e true f = left_false (is_left but v) (not (v.asn == 0)) (left (grind (arith, nat_tests, e)) (grind (arith, nat_tests, f)))
