-- Which ASes there are after an edit, and how many.
use Rattle.std.proofs.Common.{◌≡◌, ◌≢◌, ◌⊎◌, inl, inr, ℕ, ◌+◌, Bool, true, false, ◌||◌, ◌&&◌, not, ◌==◌, cond, nat_lt, Some, None, refl, sym, ◌∙◌, ap, arith}
use Rattle.std.proofs.lemmas.Bool.{cases_Bool, or_cases, or_left, or_right, eqb-true, eq-eqb, ne_eqb}
use Rattle.std.proofs.lemmas.Cmp.{nat_cmp_total}
use Rattle.std.specs.Ordering.{nat_cmp, eq_by_cmp}
use Rattle.std.specs.Cmp.{unsigned_tied}
use Rattle.std.specs.FinMap as map
use Rattle.std.specs.FinSet as set
use Rattle.net_names.specs.declared.routes.Rel.{Rel}
use Rattle.net_names.specs.Links.{LinkMap, pair_cmp, converse}
use Rattle.net_names.specs.Numbers.{occurs}
use Rattle.net_names.proofs.Pairs.{pairs_total}
use Rattle.as_graph.specs.Topology.{Topology, ases, has, as_count, with_mark}
use Rattle.as_graph.specs.Edits.{with_link, without_link, without_mark, AsesAreKept}
use Rattle.as_graph.proofs.Links.{found, ends_of}
use Rattle.as_graph.proofs.RowAses.{same_test, occurs-items, occurs-append, end_found}
use Rattle.as_graph.proofs.EditsLemmas.{put_pair, is_put, is_put_turned}
use Rattle.as_graph.proofs.TakenLinks.{same_pair, pair_itself, take_pair, is_taken, is_taken_turned}
use Rattle.net_names.proofs.Shared.{or_swap}

-- a is an end of one of the links
abbrev is_end : LinkMap → ℕ → Bool
is_end links a = occurs a (ends_of (map.entries links))

-- a marked AS or an end
has_parts : (w : Topology) (a : ℕ) → has w a ≡ (set.contains w.marked a || is_end w.links a)
has_parts w a = occurs-append a (set.items w.marked) (ends_of (map.entries w.links)) ∙ ap (λ t. t || is_end w.links a) (occurs-items w.marked a)

-- an end is that of a pair that has an entry
abbrev IsEnd : LinkMap → ℕ → Type 0
IsEnd links a = (q : ℕ × ℕ) × (r : Rel) × (map.get links q ≡ Some r) × ((q.0 ≡ a) ⊎ (q.1 ≡ a))

end_is : (links : LinkMap) (a : ℕ) → is_end links a ≡ true → IsEnd links a
end_is links a h = let (q, r, is, end) = end_found (map.entries links) a h in (q, r, map.get-entries links q ∙ is, end)

is_end_of : (links : LinkMap) (q : ℕ × ℕ) (r : Rel) (a : ℕ) → map.get links q ≡ Some r → (q.0 ≡ a) ⊎ (q.1 ≡ a) → is_end links a ≡ true
is_end_of links q r a is (inl e) = ap (is_end links) (sym e) ∙ (found (map.entries links) q r (sym (map.get-entries links q) ∙ is)).0
is_end_of links q r a is (inr e) = ap (is_end links) (sym e) ∙ (found (map.entries links) q r (sym (map.get-entries links q) ∙ is)).1

module _ (links : LinkMap) (p : ℕ × ℕ) (v : Rel) where
  got : (q : ℕ × ℕ) (t : Bool) → eq_by_cmp pair_cmp q p ≡ t → map.get (map.insert links p v) q ≡ cond t (Some v) (map.get links q)
  got q t e = map.get-insert pairs_total links p v q ∙ ap (λ t. cond t (Some v) (map.get links q)) e

  -- the ends of a pair that is put in, and those there were
  ends-insert : (x : ℕ) → is_end (map.insert links p v) x ≡ (x == p.0 || (x == p.1 || is_end links x))
  ends-insert x = same_test _ _ there back
    where
      same : (q : ℕ × ℕ) → q ≡ p → (q.0 ≡ x) ⊎ (q.1 ≡ x) → (x == p.0 || (x == p.1 || is_end links x)) ≡ true
      same q is (inl e) = or_left (x == p.0) _ (eq-eqb x p.0 (sym e ∙ ap (λ (t : ℕ × ℕ). t.0) is))
      same q is (inr e) = or_right (x == p.0) _ (or_left (x == p.1) _ (eq-eqb x p.1 (sym e ∙ ap (λ (t : ℕ × ℕ). t.1) is)))

      there : is_end (map.insert links p v) x ≡ true → (x == p.0 || (x == p.1 || is_end links x)) ≡ true
      there h = let (q, r, is, end) = end_is (map.insert links p v) x h in
          elim (cases_Bool (eq_by_cmp pair_cmp q p)) [
            | inl e ↦ same q (same_pair q p e) end
            | inr e ↦ or_right (x == p.0) _ (or_right (x == p.1) _ (is_end_of links q r x (sym (got q false e) ∙ is) end))
          ]

      new : (p.0 ≡ x) ⊎ (p.1 ≡ x) → is_end (map.insert links p v) x ≡ true
      new end = is_end_of (map.insert links p v) p v x (got p true (pair_itself p)) end

      old : is_end links x ≡ true → is_end (map.insert links p v) x ≡ true
      old h = let (q, r, is, end) = end_is links x h in
          elim (cases_Bool (eq_by_cmp pair_cmp q p)) [
            | inl e ↦ is_end_of (map.insert links p v) q v x (got q true e) end
            | inr e ↦ is_end_of (map.insert links p v) q r x (got q false e ∙ is) end
          ]

      back : (x == p.0 || (x == p.1 || is_end links x)) ≡ true → is_end (map.insert links p v) x ≡ true
      back h = elim (or_cases (x == p.0) _ h) [
        | inl e ↦ new (inl (sym (eqb-true x p.0 e)))
        | inr more ↦ elim (or_cases (x == p.1) _ more) [ inl e ↦ new (inr (sym (eqb-true x p.1 e))) | inr e ↦ old e ]
      ]

module _ (links : LinkMap) (p : ℕ × ℕ) where
  left : (q : ℕ × ℕ) (t : Bool) → eq_by_cmp pair_cmp q p ≡ t → map.get (map.remove links p) q ≡ cond t None (map.get links q)
  left q t e = map.get-remove pairs_total links p q ∙ ap (λ t. cond t None (map.get links q)) e

  -- without a pair there are no new ends
  ends-remove : (x : ℕ) → is_end (map.remove links p) x ≡ true → is_end links x ≡ true
  ends-remove x h = let (q, r, is, end) = end_is (map.remove links p) x h in
      elim (cases_Bool (eq_by_cmp pair_cmp q p)) [
        | inl e ↦ gone r (sym (left q true e) ∙ is)
        | inr e ↦ is_end_of links q r x (sym (left q false e) ∙ is) end
      ]
    where
      gone : (r : Rel) → None ≡ Some r → is_end links x ≡ true
      gone r e = cc

  -- and all others are as before
  ends_off : (x : ℕ) → x ≢ p.0 → x ≢ p.1 → is_end (map.remove links p) x ≡ is_end links x
  ends_off x a b = same_test _ _ (ends-remove x) (λ h.
      let (q, r, is, end) = end_is links x h in
      elim (cases_Bool (eq_by_cmp pair_cmp q p)) [
        | inl e ↦ gone q (same_pair q p e) end
        | inr e ↦ is_end_of (map.remove links p) q r x (left q false e ∙ is) end
      ])
    where
      gone : (q : ℕ × ℕ) → q ≡ p → (q.0 ≡ x) ⊎ (q.1 ≡ x) → is_end (map.remove links p) x ≡ true
      gone q is (inl e) = absurd (a (sym e ∙ ap (λ (t : ℕ × ℕ). t.0) is))
      gone q is (inr e) = absurd (b (sym e ∙ ap (λ (t : ℕ × ℕ). t.1) is))

or_third : (m a b e : Bool) → (m || (a || (b || e))) ≡ (a || (b || (m || e)))
or_third true true b e = refl
or_third true false true e = refl
or_third true false false e = refl
or_third false a b e = refl

has-put : (w : Topology) (lo hi : ℕ) (v : Rel) (x : ℕ) → has (put_pair w lo hi v) x ≡ (x == lo || (x == hi || has w x))
unfolding put_pair
has-put w lo hi v x =
    has_parts (record w { links = map.insert w.links (lo, hi) v }) x
    ∙ ap (λ t. set.contains w.marked x || t) (ends-insert w.links (lo, hi) v x)
    ∙ or_third (set.contains w.marked x) (x == lo) (x == hi) (is_end w.links x)
    ∙ ap (λ t. x == lo || (x == hi || t)) (sym (has_parts w x))

pub has-with_link : (w : Topology) (a b : ℕ) (r : Rel) (x : ℕ) → has (with_link w a b r) x ≡ (x == a || (x == b || has w x))
has-with_link w a b r x = elim (cases_Bool (nat_lt a b)) [
  | inl e ↦ ap (λ g. has g x) (is_put w a b r e) ∙ has-put w a b r x
  | inr e ↦ ap (λ g. has g x) (is_put_turned w a b r e) ∙ has-put w b a (converse r) x ∙ or_swap (x == b) (x == a) (has w x)
]

or_less : (m e f : Bool) → (e ≡ true → f ≡ true) → (m || e) ≡ true → (m || f) ≡ true
or_less true e f less h = refl
or_less false e f less h = less h

module _ (w : Topology) (p : ℕ × ℕ) where
  has-removed : (x : ℕ) → has (record w { links = map.remove w.links p }) x ≡ true → has w x ≡ true
  has-removed x h = has_parts w x ∙ or_less (set.contains w.marked x) _ _ (ends-remove w.links p x) (sym (has_parts (record w { links = map.remove w.links p }) x) ∙ h)

  has_off : (x : ℕ) → x ≢ p.0 → x ≢ p.1 → has (record w { links = map.remove w.links p }) x ≡ has w x
  has_off x a b = has_parts (record w { links = map.remove w.links p }) x ∙ ap (λ t. set.contains w.marked x || t) (ends_off w.links p x a b) ∙ sym (has_parts w x)

pair_removed : (w : Topology) (lo hi x : ℕ) → has (take_pair w lo hi) x ≡ true → has w x ≡ true
unfolding take_pair
pair_removed w lo hi x h = has-removed w (lo, hi) x h

pair_off : (w : Topology) (lo hi x : ℕ) → x ≢ lo → x ≢ hi → has (take_pair w lo hi) x ≡ has w x
unfolding take_pair
pair_off w lo hi x a b = has_off w (lo, hi) x a b

has-without_link : (w : Topology) (a b x : ℕ) → has (without_link w a b) x ≡ true → has w x ≡ true
has-without_link w a b x h = elim (cases_Bool (nat_lt a b)) [
  | inl e ↦ pair_removed w a b x (ap (λ g. has g x) (sym (is_taken w a b e)) ∙ h)
  | inr e ↦ pair_removed w b a x (ap (λ g. has g x) (sym (is_taken_turned w a b e)) ∙ h)
]

other_ends : (w : Topology) (a b x : ℕ) → x ≢ a → x ≢ b → has (without_link w a b) x ≡ has w x
other_ends w a b x na nb = elim (cases_Bool (nat_lt a b)) [
  | inl e ↦ ap (λ g. has g x) (is_taken w a b e) ∙ pair_off w a b x na nb
  | inr e ↦ ap (λ g. has g x) (is_taken_turned w a b e) ∙ pair_off w b a x nb na
]

-- ---- marks

tied : (x a : ℕ) → eq_by_cmp nat_cmp x a ≡ (x == a)
tied x a = unsigned_tied x a

has-with_mark : (w : Topology) (a x : ℕ) → has (with_mark w a) x ≡ (x == a || has w x)
has-with_mark w a x =
    has_parts (with_mark w a) x
    ∙ ap (λ t. t || is_end w.links x) (set.contains-insert nat_cmp_total w.marked a x ∙ ap (λ t. t || set.contains w.marked x) (tied x a))
    ∙ or_assoc (x == a) (set.contains w.marked x) (is_end w.links x)
    ∙ ap (λ t. x == a || t) (sym (has_parts w x))
  where
    or_assoc : (a b c : Bool) → ((a || b) || c) ≡ (a || (b || c))
    or_assoc true b c = refl
    or_assoc false b c = refl

has-without_mark : (w : Topology) (a x : ℕ) → has (without_mark w a) x ≡ (not (x == a) && set.contains w.marked x || is_end w.links x)
has-without_mark w a x = has_parts (without_mark w a) x ∙ ap (λ t. t || is_end w.links x) (set.contains-remove nat_cmp_total w.marked a x ∙ ap (λ t. not t && set.contains w.marked x) (tied x a))

pub ases_are_kept_lem : AsesAreKept
ases_are_kept_lem = record {
  linked = has-with_link;
  unlinked = has-without_link;
  other_ends = other_ends;
  marked = has-with_mark;
  unmarked = λ w a x h. has_parts w x ∙ less (x == a) (set.contains w.marked x) (is_end w.links x) (sym (has-without_mark w a x) ∙ h);
  other_marks = λ w a x ne. has-without_mark w a x ∙ ap (λ t. (not t && set.contains w.marked x) || is_end w.links x) (ne_eqb x a ne) ∙ sym (has_parts w x);
}
  where
    less : (t m e : Bool) → ((not t && m) || e) ≡ true → (m || e) ≡ true
    less true true e h = refl
    less true false e h = h
    less false m e h = h

-- ---- how many there are with a link

as_set : Topology → set.FinSet nat_cmp
as_set g = set.from_list {R = nat_cmp} (ases g)

in_as_set : (g : Topology) (x : ℕ) → set.contains (as_set g) x ≡ has g x
unfolding as_set
in_as_set g x = set.contains-from_list_nat (ases g) x

set-with_link : (g : Topology) (a b : ℕ) (r : Rel) → as_set (with_link g a b r) ≡ set.insert (set.insert (as_set g) a) b
set-with_link g a b r = set.same_set nat_cmp_total set.nat_cmp-IsAntisymmetric _ _ (λ x.
    in_as_set (with_link g a b r) x ∙ has-with_link g a b r x ∙ or_swap (x == a) (x == b) (has g x)
    ∙ sym (
    set.contains-insert nat_cmp_total (set.insert (as_set g) a) b x
    ∙ (λ i. tied x b i || (set.contains-insert nat_cmp_total (as_set g) a x ∙ (λ j. tied x a j || in_as_set g x j)) i)
    ))

unfolded : (g : Topology) → set.from_list {R = nat_cmp} (ases g) ≡ as_set g
unfolding as_set
unfolded g = refl

-- one more where the AS is new
abbrev pub one_new : Bool → ℕ
one_new there = cond there 0 1

pub as_count-with_link : (g : Topology) (a b : ℕ) (r : Rel) → a ≢ b → as_count (with_link g a b r) ≡ as_count g + one_new (has g a) + one_new (has g b)
as_count-with_link g a b r ne =
    ap set.len (unfolded (with_link g a b r) ∙ set-with_link g a b r)
    ∙ set.len-insert nat_cmp_total (set.insert (as_set g) a) b
    ∙ (λ i. cond (second i) (first i) (first i + 1))
    ∙ by (has g a) (has g b) (as_count g)
  where
    second : set.contains (set.insert (as_set g) a) b ≡ has g b
    second = set.contains-insert nat_cmp_total (as_set g) a b ∙ (λ i. (tied b a ∙ ne_eqb b a (λ e. ne (sym e))) i || in_as_set g b i)

    first : set.len (set.insert (as_set g) a) ≡ cond (has g a) (as_count g) (as_count g + 1)
    first = set.len-insert nat_cmp_total (as_set g) a ∙ (λ i. cond (in_as_set g a i) (ap set.len (sym (unfolded g)) i) (ap set.len (sym (unfolded g)) i + 1))

    by : (x y : Bool) (n : ℕ) → cond y (cond x n (n + 1)) (cond x n (n + 1) + 1) ≡ n + one_new x + one_new y
    by true true n = omega arith
    by true false n = omega arith
    by false true n = omega arith
    by false false n = omega arith
