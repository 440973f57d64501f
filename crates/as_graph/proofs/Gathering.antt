-- One AS after another takes the neighbours at its ends into a row.
use Rattle.std.proofs.Common.{◌≡◌, ◌≢◌, inl, inr, ℕ, zero, suc, ◌+◌, ◌-◌, ◌<◌, ◌≤◌, Bool, true, false, ◌||◌, ◌==◌, cond, nat_eq, nat_lt, Some, None, is_some, List, [], ◌∷◌, ◌++◌, length, take, drop, get_or, refl, sym, ◌∙◌, ap, subst, arith, length-append}
use Rattle.std.proofs.lemmas.Bool.{cases_eq, cases_lt, eq-eqb, ne_eqb, or_right, lt-ltb, ltb-true}
use Rattle.std.proofs.lemmas.List.{take_all, length-map, get_or_append_left}
use Rattle.std.specs.Map.{lookup, keys_of}
use Rattle.std.specs.Option.{option_map_or}
use Rattle.indexmap.specs.IndexMap.{get, IsUnique}
use Rattle.as_graph.specs.declared.neighbour.Neighbour.{Neighbour}
use Rattle.as_graph.specs.declared.row.Row.{Row}
use Rattle.as_graph.specs.declared.ends.End.{End}
use Rattle.as_graph.specs.Rows.{asn_at, blank, IsRising}
use Rattle.as_graph.specs.Ends.{ends_at, at_of, IsRun, IsNextEnd}
use Rattle.as_graph.specs.Graphs.{Rows, neighbours_of, is_marked, is_needed, is_there}
use Rattle.as_graph.specs.Gathering.{AreGathered, HasManyAses}
use Rattle.as_graph.proofs.EndLemmas.{at_is, none_at}
use Rattle.as_graph.proofs.Marking.{there_is}
use Rattle.as_graph.proofs.RowAses.{mark_at, occurs-keys}
use Rattle.as_graph.proofs.RowLinks.{items_at}

-- the ends xs before place j are of lower ASes than the ends ys from place i on
abbrev AreLower : List End → List End → ℕ → ℕ → Type 0
AreLower xs ys j i = (p q : ℕ) (d : End) → p < j → i ≤ q → q < length ys → (get_or xs p d).at < (get_or ys q d).at

-- the ends before the two places are of lower ASes than those from the places on
pub record IsSplit (hs ls : List End) (j i : ℕ) : Type 0 where
  pub hh : AreLower hs hs j j
  pub hl : AreLower hs ls j i
  pub lh : AreLower ls hs i j
  pub ll : AreLower ls ls i i

pub split_none : (hs ls : List End) → IsSplit hs ls 0 0
split_none hs ls = record { hh = λ p q d lt le h. absurd (omega arith); hl = λ p q d lt le h. absurd (omega arith); lh = λ p q d lt le h. absurd (omega arith); ll = λ p q d lt le h. absurd (omega arith) }

-- so are they past the runs of the next AS
lower_next : (xs ys : List End) (j k i l a : ℕ) → AreLower xs ys j i → IsRun xs a j k → IsRun ys a i l → AreLower xs ys k l
lower_next xs ys j k i l a lower x y p q d lt le inside = elim (cases_lt p j) [
  | inl before ↦ lower p q d before (omega (arith, y.start, le)) inside
  | inr from ↦ omega (arith, x.these p d from lt, y.after q d le inside)
]

pub split_next : (hs ls : List End) (j i k l a : ℕ) → IsSplit hs ls j i → IsRun hs a j k → IsRun ls a i l → IsSplit hs ls k l
split_next hs ls j i k l a s h t = record { hh = lower_next hs hs j k j k a s.hh h h; hl = lower_next hs ls j k i l a s.hl h t; lh = lower_next ls hs i l j k a s.lh t h; ll = lower_next ls ls i l i l a s.ll t t }

module _ (hs ls : List End) (j i a : ℕ) (s : IsSplit hs ls j i) (next : IsNextEnd hs ls j i a) where
  -- the next AS has no ends yet
  pub new_higher : (p : ℕ) (d : End) → p < j → (get_or hs p d).at ≢ a
  new_higher p d lt e = elim next.among [
    | inl at ↦ (let here = at_is hs j a at d in omega (arith, e, here.1, s.hh p j d lt (omega arith) here.0))
    | inr at ↦ (let here = at_is ls i a at d in omega (arith, e, here.1, s.hl p i d lt (omega arith) here.0))
  ]

  pub new_lower : (p : ℕ) (d : End) → p < i → (get_or ls p d).at ≢ a
  new_lower p d lt e = elim next.among [
    | inl at ↦ (let here = at_is hs j a at d in omega (arith, e, here.1, s.lh p j d lt (omega arith) here.0))
    | inr at ↦ (let here = at_is ls i a at d in omega (arith, e, here.1, s.ll p i d lt (omega arith) here.0))
  ]

-- ---- what a run takes

run_others : (xs : List End) (y a j to : ℕ) → y ≢ a → j ≤ to → ((k : ℕ) (d : End) → j ≤ k → k < to → k < length xs → (get_or xs k d).at ≡ a) → ends_at y (take to xs) ≡ ends_at y (take j xs)
run_others [] y a zero zero ne le these = refl
run_others [] y a zero (suc to) ne le these = refl
run_others [] y a (suc j) zero ne le these = refl
run_others [] y a (suc j) (suc to) ne le these = refl
run_others (x ∷ xs) y a zero zero ne le these = refl
run_others (x ∷ xs) y a zero (suc to) ne le these =
    let at : x.at ≡ a = these 0 x (omega arith) (omega arith) (omega arith) in
    ap (λ t. cond t (x.neighbour ∷ ends_at y (take to xs)) (ends_at y (take to xs))) (ne_eqb x.at y (λ e. ne (sym e ∙ at))) ∙ run_others xs y a 0 to ne (omega arith) (λ k d g h w. these (suc k) d (omega arith) (omega arith) (omega arith))
run_others (x ∷ xs) y a (suc j) zero ne le these = absurd (omega arith)
run_others (x ∷ xs) y a (suc j) (suc to) ne le these = ap (λ l. cond (x.at == y) (x.neighbour ∷ l) l) (run_others xs y a j to ne (omega arith) (λ k d g h w. these (suc k) d (omega arith) (omega arith) (omega arith)))

run_this : (xs : List End) (a j to : ℕ) → j ≤ to → ((k : ℕ) (d : End) → k < j → k < length xs → (get_or xs k d).at ≢ a) → ((k : ℕ) (d : End) → to ≤ k → k < length xs → (get_or xs k d).at ≢ a) → ends_at a (take to xs) ≡ ends_at a (drop j xs)
run_this [] a zero zero le before after = refl
run_this [] a zero (suc to) le before after = refl
run_this [] a (suc j) zero le before after = refl
run_this [] a (suc j) (suc to) le before after = refl
run_this (x ∷ xs) a zero zero le before after = sym (none_at a (x ∷ xs) (λ k d lt. after k d (omega arith) lt))
run_this (x ∷ xs) a zero (suc to) le before after = ap (λ l. cond (x.at == a) (x.neighbour ∷ l) l) (run_this xs a 0 to (omega arith) (λ k d lt w. absurd (omega arith)) (λ k d g w. after (suc k) d (omega arith) (omega arith)))
run_this (x ∷ xs) a (suc j) zero le before after = absurd (omega arith)
run_this (x ∷ xs) a (suc j) (suc to) le before after =
    ap (λ t. cond t (x.neighbour ∷ ends_at a (take to xs)) (ends_at a (take to xs))) (ne_eqb x.at a (before 0 x (omega arith) (omega arith)))
    ∙ run_this xs a j to (omega arith) (λ k d lt w. before (suc k) d (omega arith) (omega arith)) (λ k d g w. after (suc k) d (omega arith) (omega arith))

pub drop_whole : (xs : List End) (a j : ℕ) → ((k : ℕ) (d : End) → k < j → (get_or xs k d).at ≢ a) → ends_at a (drop j xs) ≡ ends_at a xs
drop_whole [] a zero before = refl
drop_whole [] a (suc j) before = refl
drop_whole (x ∷ xs) a zero before = refl
drop_whole (x ∷ xs) a (suc j) before = drop_whole xs a j (λ k d lt. before (suc k) d (omega arith)) ∙ sym (ap (λ t. cond t (x.neighbour ∷ ends_at a xs) (ends_at a xs)) (ne_eqb x.at a (before 0 x (omega arith))))

-- an AS at a place has a neighbour from there on
some_from : (xs : List End) (j a : ℕ) → at_of xs j ≡ Some a → 0 < length (ends_at a (drop j xs))
some_from [] j a e = absurd (none_not a e)
  where
    none_not : (a : ℕ) → None ≡ Some a → ⊥
    none_not a e = cc
some_from (x ∷ xs) zero a e =
    let head : ends_at a (x ∷ xs) ≡ x.neighbour ∷ ends_at a xs = ap (λ t. cond t (x.neighbour ∷ ends_at a xs) (ends_at a xs)) (eq-eqb x.at a (at_is (x ∷ xs) 0 a e x).1) in
    subst (λ (l : List Neighbour). 0 < length l) (sym head) (omega arith)
some_from (x ∷ xs) (suc j) a e = some_from xs j a e

-- no more neighbours among the first ends than among all
ends_take : (xs : List End) (a j : ℕ) → length (ends_at a (take j xs)) ≤ length (ends_at a xs)
ends_take [] a zero = omega arith
ends_take [] a (suc j) = omega arith
ends_take (x ∷ xs) a zero = omega arith
ends_take (x ∷ xs) a (suc j) = by (x.at == a) (ends_take xs a j)
  where
    by : (t : Bool) → length (ends_at a (take j xs)) ≤ length (ends_at a xs) → length (cond t (x.neighbour ∷ ends_at a (take j xs)) (ends_at a (take j xs))) ≤ length (cond t (x.neighbour ∷ ends_at a xs) (ends_at a xs))
    by true le = omega arith
    by false le = le

-- ---- the rows

pub gathered_none : (m : Rows) → IsUnique nat_eq m → m.entries ≡ [] → (hs ls : List End) → AreGathered m (take 0 hs) (take 0 ls)
gathered_none m unique e hs ls = record {
  unique = unique;
  neighbours = λ a. ap items_at (no_row a);
  unmarked = λ a. ap mark_at (no_row a);
  needed = λ a. ap is_some (no_row a) ∙ sym (ap (λ o. option_map_or is_needed o false) (no_row a));
}
  where
    no_row : (a : ℕ) → get nat_eq m a ≡ None
    no_row a = ap (λ (l : List (ℕ × Row)). lookup (nat_eq a) l) e

module _ (m n : Rows) (hs ls : List End) (j i k l a : ℕ) (row : Row) (s : IsSplit hs ls j i) (next : IsNextEnd hs ls j i a) (h : IsRun hs a j k) (t : IsRun ls a i l)
    (items : row.neighbours.items ≡ ends_at a (drop j hs) ++ ends_at a (drop i ls)) (unmarked : row.marked ≡ false)
    (gets : (q : ℕ) → get nat_eq n q ≡ cond (nat_eq a q) (Some row) (get nat_eq m q)) (unique : IsUnique nat_eq n) where
  here : get nat_eq n a ≡ Some row
  here = gets a ∙ ap (λ b. cond b (Some row) (get nat_eq m a)) (eq-eqb a a refl)

  other : (x : ℕ) → x ≢ a → get nat_eq n x ≡ get nat_eq m x
  other x o = gets x ∙ ap (λ b. cond b (Some row) (get nat_eq m x)) (ne_eqb a x (λ e. o (sym e)))

  this_row : row.neighbours.items ≡ ends_at a (take k hs) ++ ends_at a (take l ls)
  this_row = items ∙ (λ p. sym (run_this hs a j k h.start (λ q d lt w. new_higher hs ls j i a s next q d lt) (λ q d le w e. omega (arith, e, h.after q d le w))) p
      ++ sym (run_this ls a i l t.start (λ q d lt w. new_lower hs ls j i a s next q d lt) (λ q d le w e. omega (arith, e, t.after q d le w))) p)

  other_row : (x : ℕ) → x ≢ a → ends_at x (take j hs) ++ ends_at x (take i ls) ≡ ends_at x (take k hs) ++ ends_at x (take l ls)
  other_row x o = λ p. sym (run_others hs x a j k o h.start (λ q d g u w. h.these q d g u)) p ++ sym (run_others ls x a i l o t.start (λ q d g u w. t.these q d g u)) p

  some : nat_lt 0 (length row.neighbours.items) ≡ true
  some = lt-ltb 0 (length row.neighbours.items) (
      let len : length row.neighbours.items ≡ length (ends_at a (drop j hs)) + length (ends_at a (drop i ls)) = ap (λ (ns : List Neighbour). length ns) items ∙ length-append (ends_at a (drop j hs)) (ends_at a (drop i ls)) in
      elim next.among [ inl e ↦ omega (arith, len, some_from hs j a e) | inr e ↦ omega (arith, len, some_from ls i a e) ])

  pub gathered_next : AreGathered m (take j hs) (take i ls) → AreGathered n (take k hs) (take l ls)
  gathered_next before = record {
    unique = unique;
    neighbours = λ x. elim (cases_eq x a) [
      | inl e ↦ subst (λ y. neighbours_of n y ≡ ends_at y (take k hs) ++ ends_at y (take l ls)) (sym e) (ap items_at here ∙ this_row)
      | inr o ↦ ap items_at (other x o) ∙ before.neighbours x ∙ other_row x o
    ];
    unmarked = λ x. elim (cases_eq x a) [
      | inl e ↦ subst (λ y. is_marked n y ≡ false) (sym e) (ap mark_at here ∙ unmarked)
      | inr o ↦ ap mark_at (other x o) ∙ before.unmarked x
    ];
    needed = λ x. elim (cases_eq x a) [
      | inl e ↦ subst (λ y. is_some (get nat_eq n y) ≡ is_there n y) (sym e) (ap is_some here ∙ sym (ap (λ o. option_map_or is_needed o false) here ∙ or_right row.marked _ some))
      | inr o ↦ ap is_some (other x o) ∙ before.needed x ∙ sym (ap (λ z. option_map_or is_needed z false) (other x o))
    ];
  }

pub gathered_all : (m : Rows) (hs ls : List End) (j i : ℕ) → length hs ≤ j → length ls ≤ i → AreGathered m (take j hs) (take i ls) → AreGathered m hs ls
gathered_all m hs ls j i a b g = (let F : List End → List End → Type 0 = λ x y. AreGathered m x y in coe 0 1 (p. F (take_all j hs a p) (take_all i ls b p)) g)

-- the rows so far show ASes at the ends
pub many_ases : (m : Rows) (hs ls : List End) (j i : ℕ) → AreGathered m (take j hs) (take i ls) → 150000 < length m.entries → HasManyAses hs ls (keys_of m.entries)
many_ases m hs ls j i g many = record {
  apart = g.unique;
  each = λ a h.
      let there : is_there m a ≡ true = sym (g.needed a) ∙ sym (occurs-keys m.entries a) ∙ h in
      let some : nat_lt 0 (length (neighbours_of m a)) ≡ true = sym (ap (λ b. b || nat_lt 0 (length (neighbours_of m a))) (g.unmarked a)) ∙ sym (there_is m a) ∙ there in
      let len : length (neighbours_of m a) ≡ length (ends_at a (take j hs)) + length (ends_at a (take i ls)) = ap (λ (ns : List Neighbour). length ns) (g.neighbours a) ∙ length-append (ends_at a (take j hs)) (ends_at a (take i ls)) in
      omega (arith, ltb-true 0 (length (neighbours_of m a)) some, len, length-append (ends_at a hs) (ends_at a ls), ends_take hs a j, ends_take ls a i);
  many = omega (arith, many, length-map m.entries (λ (e : ℕ × Row). e.0));
}

-- ---- one step

rising_front : (xs ys : List Neighbour) → IsRising (xs ++ ys) → IsRising xs
rising_front xs ys rising i j lt h =
    let front : (k : ℕ) → k < length xs → asn_at (xs ++ ys) k ≡ asn_at xs k = λ k w. ap (λ (n : Neighbour). n.asn) (get_or_append_left xs ys blank k w) in
    omega (arith, front i (omega (arith, lt, h)), front j h, rising i j lt (omega (arith, h, length-append xs ys)))

module _ (hs ls : List End) (j i a : ℕ) (s : IsSplit hs ls j i) (next : IsNextEnd hs ls j i a) (rising : IsRising (ends_at a hs ++ ends_at a ls)) (none first : List Neighbour) (empty : none ≡ []) where
  -- the neighbours at the higher ends rise, and with them those at the lower ends
  pub first_rises : IsRising (none ++ ends_at a (drop j hs))
  first_rises = subst IsRising (sym (drop_whole hs a j (new_higher hs ls j i a s next)) ∙ sym (ap (λ ns. ns ++ ends_at a (drop j hs)) empty)) (rising_front (ends_at a hs) (ends_at a ls) rising)

  pub then_rises : first ≡ none ++ ends_at a (drop j hs) → IsRising (first ++ ends_at a (drop i ls))
  then_rises e = subst IsRising ((λ p. sym (e ∙ ap (λ ns. ns ++ ends_at a (drop j hs)) empty ∙ drop_whole hs a j (new_higher hs ls j i a s next)) p ++ sym (drop_whole ls a i (new_lower hs ls j i a s next)) p)) rising

  pub both_items : (last : List Neighbour) → first ≡ none ++ ends_at a (drop j hs) → last ≡ first ++ ends_at a (drop i ls) → last ≡ ends_at a (drop j hs) ++ ends_at a (drop i ls)
  both_items last e f = f ∙ ap (λ ns. ns ++ ends_at a (drop i ls)) (e ∙ ap (λ ns. ns ++ ends_at a (drop j hs)) empty)

-- fewer ends are left
moved : (xs : List End) (a from to : ℕ) → IsRun xs a from to → at_of xs from ≡ Some a → from < to
moved xs a from to run e = elim (cases_lt from to) [
  | inl lt ↦ lt
  | inr ge ↦ absurd (stays ge xs refl)
]
  where
    stays : to ≤ from → (ys : List End) → ys ≡ xs → ⊥
    stays ge [] same = (let none : None ≡ Some a = ap (λ zs. at_of zs from) same ∙ e in none_some a none)
      where
        none_some : (a : ℕ) → None ≡ Some a → ⊥
        none_some a e = cc
    stays ge (y ∷ ys) same = (let at = at_is xs from a e y in omega (arith, at.1, run.after from y (omega (arith, ge, run.start)) at.0))

pub fewer_left : (hs ls : List End) (j i k l a : ℕ) → j ≤ length hs → i ≤ length ls → IsNextEnd hs ls j i a → IsRun hs a j k → IsRun ls a i l → (length hs - k) + (length ls - l) < (length hs - j) + (length ls - i)
fewer_left hs ls j i k l a jw iw next h t = elim next.among [
  | inl e ↦ omega (arith, h.start, h.within, t.start, t.within, iw, moved hs a j k h e)
  | inr e ↦ omega (arith, h.start, h.within, t.start, t.within, jw, moved ls a i l t e)
]
