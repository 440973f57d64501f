-- The rows that the columns of a watch make are right.
use Rattle.std.proofs.Common.{◌≡◌, ◌⊎◌, inl, inr, ℕ, zero, suc, ◌+◌, ◌<◌, ◌^◌, Bool, true, false, ◌||◌, ◌&&◌, eqb, Some, None, List, [], ◌∷◌, length, get_or, map, refl, sym, ◌∙◌, ap, subst, arith, cond, true≢false}
use Rattle.std.specs.Prelude.{nat_eq, slice_get, filter}
use Rattle.std.specs.List.{list_any, range_with_len, count_by, sum_by, IsDistinct, AllByRecursion}
use Rattle.std.proofs.lemmas.Bool.{cases_Bool, eqb-true, eq-eqb, or_right}
use Rattle.std.proofs.lemmas.List.Sums.{sum_by-cons}
use Rattle.std.proofs.lemmas.List.FromFn.{length-range_with_len, get_or-range_with_len, fill_by_all, sum_by-map-range_with_len_more}
use Rattle.net_names.specs.Numbers.{occurs}
use Rattle.as_graph.specs.Topology.{Topology, relation, has}
use Rattle.data_trace.specs.declared.kinds.Hop.{Hop}
use Rattle.data_trace.specs.declared.kinds.Hop.TheVariants as hop
use Rattle.data_trace.specs.declared.places.PlaceHop.{PlaceHop}
use Rattle.data_trace.specs.declared.places.Mark.{Mark}
use Rattle.data_trace.specs.declared.places.Group.{Group}
use Rattle.data_trace.specs.declared.sums.Sums.{Sums}
use Rattle.data_trace.specs.Traces.{IsIn}
use Rattle.data_trace.specs.Marks.{next_of, mark_of, AreEnds}
use Rattle.data_trace.specs.Watches.{Row, IsRow, AreRows, IsRowOf}
use Rattle.data_trace.specs.Columns.{name_at, told, group_at, here_at, is_stub, row, rows, fresh, AreAses, AreHops, AreGroups, IsGroup}
use Rattle.data_trace.specs.Sums.{total}
use Rattle.data_trace.specs.Counted.{adds_at, adds, summed, AreCounted}
use Rattle.data_trace.proofs.Traces.{in_at, at_in}
use Rattle.data_trace.proofs.Naming.{occurs_in}
use Rattle.data_trace.proofs.Building.{range_all}
use Rattle.data_trace.proofs.Placing.{found_at, found_only}
use Rattle.data_trace.proofs.Summing.{Test}
use Rattle.data_trace.proofs.Changes.{summed_same, summed-le, adds-le}
use Rattle.data_trace.proofs.Seen.{ends_named, end_told_is, fresh_is, fresh_ends, kept_known}

pub range_below : (n x : ℕ) → IsIn x (range_with_len 0 n) → x < n
range_below n x h =
    let r : (k : ℕ) × (k < length (range_with_len 0 n)) × (get_or (range_with_len 0 n) k 0 ≡ x) = in_at x (range_with_len 0 n) h in
    let l : r.0 < n = omega (arith, r.1, length-range_with_len 0 n) in
    omega (arith, l, r.2, get_or-range_with_len 0 n r.0 0 l)

here_in : (x : ℕ) (xs : List ℕ) → IsIn x (x ∷ xs)
here_in x xs = ap (λ v. v || list_any (nat_eq x) xs) (eq-eqb x x refl)

apart_filter : (f : ℕ → ℕ) (t : ℕ → Bool) (a : ℕ) (xs : List ℕ) → AllByRecursion (λ y. eqb a y ≡ false) (map f xs) → AllByRecursion (λ y. eqb a y ≡ false) (map f (filter t xs))
apart_filter f t a [] h = tt
apart_filter f t a (x ∷ xs) h = by (t x) (apart_filter f t a xs h.1)
  where
    by : (b : Bool) → AllByRecursion (λ y. eqb a y ≡ false) (map f (filter t xs)) → AllByRecursion (λ y. eqb a y ≡ false) (map f (cond b (x ∷ filter t xs) (filter t xs)))
    by true q = (h.0, q)
    by false q = q

distinct_filter : (f : ℕ → ℕ) (t : ℕ → Bool) (xs : List ℕ) → IsDistinct nat_eq (map f xs) → IsDistinct nat_eq (map f (filter t xs))
unfolding IsDistinct
distinct_filter f t [] h = tt
distinct_filter f t (x ∷ xs) h = by (t x) (distinct_filter f t xs h.1)
  where
    by : (b : Bool) → IsDistinct nat_eq (map f (filter t xs)) → IsDistinct nat_eq (map f (cond b (x ∷ filter t xs) (filter t xs)))
    by true q = (apart_filter f t (f x) xs h.0, q)
    by false q = q

map_map : {A B C : Type 0} (f : B → C) (g : A → B) (xs : List A) → map f (map g xs) ≡ map (λ x. f (g x)) xs
map_map f g [] = refl
map_map f g (x ∷ xs) = ap (λ ys. f (g x) ∷ ys) (map_map f g xs)

none_some : (r : Row) → None ≡ Some r → ⊥
none_some r e = cc

module _ (ases : List ℕ) (hops : List PlaceHop) (marks : List Mark) (groups : List Group) where
  -- each row is that of a place whose AS is there
  row_in : (xs : List ℕ) (place : ℕ) (r : Row) → slice_get (map (row ases hops marks groups) (filter (here_at groups) xs)) place ≡ Some r → (x : ℕ) × IsIn x xs × (here_at groups x ≡ true) × (row ases hops marks groups x ≡ r)
  row_in [] place r e = absurd (none_some r e)
  row_in (x ∷ xs) place r e = by (λ k q. row_in xs k r q) (here_at groups x) refl place e
    where
      more : (x : ℕ) × IsIn x xs × (here_at groups x ≡ true) × (row ases hops marks groups x ≡ r) → (y : ℕ) × IsIn y (x ∷ xs) × (here_at groups y ≡ true) × (row ases hops marks groups y ≡ r)
      more q = (q.0, or_right (nat_eq q.0 x) (list_any (nat_eq q.0) xs) q.1, q.2, q.3)

      by : ((k : ℕ) → slice_get (map (row ases hops marks groups) (filter (here_at groups) xs)) k ≡ Some r → (y : ℕ) × IsIn y xs × (here_at groups y ≡ true) × (row ases hops marks groups y ≡ r)) → (b : Bool) → here_at groups x ≡ b → (place : ℕ) → slice_get (map (row ases hops marks groups) (cond b (x ∷ filter (here_at groups) xs) (filter (here_at groups) xs))) place ≡ Some r →
          (y : ℕ) × IsIn y (x ∷ xs) × (here_at groups y ≡ true) × (row ases hops marks groups y ≡ r)
      by go false h place e = more (go place e)
      by go true h zero e = let q : row ases hops marks groups x ≡ r = cc in (x, here_in x xs, h, q)
      by go true h (suc place) e = more (go place e)

  row_of : (xs : List ℕ) (x : ℕ) → IsIn x xs → here_at groups x ≡ true → (place : ℕ) × (slice_get (map (row ases hops marks groups) (filter (here_at groups) xs)) place ≡ Some (row ases hops marks groups x))
  row_of [] x i h = absurd (true≢false (sym i))
  row_of (y ∷ xs) x i h = at (λ k. row_of xs x k h) (cases_Bool (eqb x y))
    where
      first : x ≡ y → (b : Bool) → here_at groups y ≡ b → (place : ℕ) × (slice_get (map (row ases hops marks groups) (cond b (y ∷ filter (here_at groups) xs) (filter (here_at groups) xs))) place ≡ Some (row ases hops marks groups x))
      first e true q = (0, ap (λ t. Some (row ases hops marks groups t)) (sym e))
      first e false q = absurd (true≢false (sym h ∙ ap (here_at groups) e ∙ q))

      later : (b : Bool) → (place : ℕ) × (slice_get (map (row ases hops marks groups) (filter (here_at groups) xs)) place ≡ Some (row ases hops marks groups x)) →
          (place : ℕ) × (slice_get (map (row ases hops marks groups) (cond b (y ∷ filter (here_at groups) xs) (filter (here_at groups) xs))) place ≡ Some (row ases hops marks groups x))
      later true q = (suc q.0, q.1)
      later false q = q

      at : (IsIn x xs → (place : ℕ) × (slice_get (map (row ases hops marks groups) (filter (here_at groups) xs)) place ≡ Some (row ases hops marks groups x))) → (eqb x y ≡ true) ⊎ (eqb x y ≡ false) → (place : ℕ) × (slice_get (map (row ases hops marks groups) (filter (here_at groups) (y ∷ xs))) place ≡ Some (row ases hops marks groups x))
      at go (inl e) = first (eqb-true x y e) (here_at groups y) refl
      at go (inr e) = later (here_at groups y) (go (sym (ap (λ v. v || list_any (nat_eq x) xs) e) ∙ i))

  pub row_at : (place : ℕ) (r : Row) → slice_get (rows ases hops marks groups) place ≡ Some r → (x : ℕ) × (x < length ases) × (here_at groups x ≡ true) × (row ases hops marks groups x ≡ r)
  row_at place r e = let q : (x : ℕ) × IsIn x (range_with_len 0 (length ases)) × (here_at groups x ≡ true) × (row ases hops marks groups x ≡ r) = row_in (range_with_len 0 (length ases)) place r e in (q.0, range_below (length ases) q.0 q.1, q.2, q.3)

  -- the row of a place whose AS is there
  pub row_there : (x : ℕ) → x < length ases → here_at groups x ≡ true → IsRowOf (rows ases hops marks groups) (name_at ases x) (row ases hops marks groups x)
  row_there x l h = let q : (place : ℕ) × (slice_get (rows ases hops marks groups) place ≡ Some (row ases hops marks groups x)) = row_of (range_with_len 0 (length ases)) x (range_all (length ases) x l) h in
      record { place = q.0; there = q.1; asn = refl }

  names_in : (rs : List Row) (a : ℕ) → occurs a (map (λ (r : Row). r.asn) rs) ≡ true → (place : ℕ) × (r : Row) × (slice_get rs place ≡ Some r) × (r.asn ≡ a)
  names_in [] a e = absurd (true≢false (sym e))
  names_in (r ∷ rs) a e = at (λ k. names_in rs a k) (cases_Bool (eqb r.asn a))
    where
      at : (occurs a (map (λ (r : Row). r.asn) rs) ≡ true → (place : ℕ) × (s : Row) × (slice_get rs place ≡ Some s) × (s.asn ≡ a)) → (eqb r.asn a ≡ true) ⊎ (eqb r.asn a ≡ false) → (place : ℕ) × (s : Row) × (slice_get (r ∷ rs) place ≡ Some s) × (s.asn ≡ a)
      at go (inl q) = (0, r, refl, eqb-true r.asn a q)
      at go (inr q) = let k : (place : ℕ) × (s : Row) × (slice_get rs place ≡ Some s) × (s.asn ≡ a) = go (sym (ap (λ v. v || occurs a (map (λ (r : Row). r.asn) rs)) q) ∙ e) in (suc k.0, k.1, k.2, k.3)

  names_of : (rs : List Row) (place : ℕ) (r : Row) → slice_get rs place ≡ Some r → occurs r.asn (map (λ (r : Row). r.asn) rs) ≡ true
  names_of [] place r e = absurd (none_some r e)
  names_of (s ∷ rs) zero r e = let q : s ≡ r = cc in ap (λ v. v || occurs r.asn (map (λ (r : Row). r.asn) rs)) (eq-eqb s.asn r.asn (ap (λ (t : Row). t.asn) q))
  names_of (s ∷ rs) (suc place) r e = or_right (eqb s.asn r.asn) (occurs r.asn (map (λ (r : Row). r.asn) rs)) (names_of rs place r e)

  -- an AS has a row exactly where it has a place and is there
  pub listed_in : (a : ℕ) → occurs a (map (λ (r : Row). r.asn) (rows ases hops marks groups)) ≡ true → (x : ℕ) × (x < length ases) × (here_at groups x ≡ true) × (name_at ases x ≡ a)
  listed_in a e =
      let k : (place : ℕ) × (r : Row) × (slice_get (rows ases hops marks groups) place ≡ Some r) × (r.asn ≡ a) = names_in (rows ases hops marks groups) a e in
      let q : (x : ℕ) × (x < length ases) × (here_at groups x ≡ true) × (row ases hops marks groups x ≡ k.1) = row_at k.0 k.1 k.2 in
      (q.0, q.1, q.2, ap (λ (r : Row). r.asn) q.3 ∙ k.3)

  pub listed_there : (x : ℕ) → x < length ases → here_at groups x ≡ true → occurs (name_at ases x) (map (λ (r : Row). r.asn) (rows ases hops marks groups)) ≡ true
  listed_there x l h = let is : IsRowOf (rows ases hops marks groups) (name_at ases x) (row ases hops marks groups x) = row_there x l h in names_of (rows ases hops marks groups) is.place (row ases hops marks groups x) is.there

  pub rows_apart : IsDistinct nat_eq ases → IsDistinct nat_eq (map (λ (r : Row). r.asn) (rows ases hops marks groups))
  rows_apart d =
      let e : map (name_at ases) (range_with_len 0 (length ases)) ≡ ases = sym (fill_by_all (name_at ases) ases (length ases) 0 refl (λ k l. refl)) in
      subst (IsDistinct nat_eq) (sym (map_map (λ (r : Row). r.asn) (row ases hops marks groups) (filter (here_at groups) (range_with_len 0 (length ases)))))
      (distinct_filter (name_at ases) (here_at groups) (range_with_len 0 (length ases)) (subst (IsDistinct nat_eq) (sym e) d))

module _ (ases : List ℕ) (hops : List PlaceHop) (marks : List Mark) (groups : List Group) where
  -- no row is that of an AS which has no place
  pub none_found : (a : ℕ) → occurs a ases ≡ false → (r : Row) → IsRowOf (rows ases hops marks groups) a r → ⊥
  none_found a f r is =
      let q : (x : ℕ) × (x < length ases) × (here_at groups x ≡ true) × (row ases hops marks groups x ≡ r) = row_at ases hops marks groups is.place r is.there in
      let e : name_at ases q.0 ≡ a = ap (λ (t : Row). t.asn) q.3 ∙ is.asn in
      true≢false (sym (subst (λ t. IsIn t ases) e (at_in ases q.0 q.1)) ∙ sym (occurs_in a ases) ∙ f)

  -- nor that of an AS which is gone
  pub gone_found : (a place : ℕ) → IsDistinct nat_eq ases → slice_get ases place ≡ Some a → here_at groups place ≡ false → (r : Row) → IsRowOf (rows ases hops marks groups) a r → ⊥
  gone_found a place d p f r is =
      let q : (x : ℕ) × (x < length ases) × (here_at groups x ≡ true) × (row ases hops marks groups x ≡ r) = row_at ases hops marks groups is.place r is.there in
      let e : name_at ases q.0 ≡ a = ap (λ (t : Row). t.asn) q.3 ∙ is.asn in
      true≢false (sym q.2 ∙ ap (here_at groups) (found_only ases a place q.0 d p q.1 e) ∙ f)

  -- the row of the AS at a place that was sought
  pub row_found : (a place : ℕ) → slice_get ases place ≡ Some a → here_at groups place ≡ true → IsRowOf (rows ases hops marks groups) a (row ases hops marks groups place)
  row_found a place p h = let q : (place < length ases) × (name_at ases place ≡ a) = found_at ases a place p in
      subst (λ b. IsRowOf (rows ases hops marks groups) b (row ases hops marks groups place)) q.1 (row_there ases hops marks groups place q.0 h)

-- ---- the rows are right

module _ (g : Topology) (next : ℕ → Hop) (label : ℕ → ℕ) (ases : List ℕ) (hops : List PlaceHop) (marks : List Mark) (groups : List Group)
    (are : AreAses g ases) (h : AreHops (fresh g next) ases hops) (inside : (a b : ℕ) → next a ≡ hop.To b → has g b ≡ true) (gs : AreGroups g label ases groups) (ends : AreEnds (next_of hops) (length hops) marks) where
  closed : (a b : ℕ) → next a ≡ hop.To b → IsIn b ases
  closed a b e = sym (occurs_in b ases) ∙ are.listed b (inside a b e)

  in_graph : (x : ℕ) → x < length ases → here_at groups x ≡ true → has g (name_at ases x) ≡ true
  in_graph x l e = sym (gs.each x l).here ∙ e

  right : (x : ℕ) → x < length ases → here_at groups x ≡ true → IsRow (relation g) next label (row ases hops marks groups x)
  right x l e =
      let group : IsGroup g label (name_at ases x) (group_at groups x) = gs.each x l in
      let here : has g (name_at ases x) ≡ true = in_graph x l e in record {
        next_hop = h.follows x l ∙ fresh_is g next inside (name_at ases x) here;
        trace = end_told_is next ases hops marks x closed ends (λ d q. fresh_ends g next inside (name_at ases x) _ here (ends_named (fresh g next) ases hops h x d (omega (arith, l, h.len)) q)) (omega (arith, l, h.len));
        stub = group.stub here;
        group = group.label_is here;
      }

  listed : (a : ℕ) → occurs a (map (λ (r : Row). r.asn) (rows ases hops marks groups)) ≡ has g a
  listed a = at (cases_Bool (has g a)) (cases_Bool (occurs a (map (λ (r : Row). r.asn) (rows ases hops marks groups))))
    where
      there : has g a ≡ true → occurs a (map (λ (r : Row). r.asn) (rows ases hops marks groups)) ≡ true
      there e =
          let r : (k : ℕ) × (k < length ases) × (get_or ases k 0 ≡ a) = in_at a ases (sym (occurs_in a ases) ∙ are.listed a e) in
          subst (λ b. occurs b (map (λ (r : Row). r.asn) (rows ases hops marks groups)) ≡ true) r.2 (listed_there ases hops marks groups r.0 r.1 ((gs.each r.0 r.1).here ∙ ap (has g) r.2 ∙ e))

      back : occurs a (map (λ (r : Row). r.asn) (rows ases hops marks groups)) ≡ true → has g a ≡ true
      back e = let q : (x : ℕ) × (x < length ases) × (here_at groups x ≡ true) × (name_at ases x ≡ a) = listed_in ases hops marks groups a e in sym (ap (has g) q.3) ∙ in_graph q.0 q.1 q.2

      at : (has g a ≡ true) ⊎ (has g a ≡ false) → (occurs a (map (λ (r : Row). r.asn) (rows ases hops marks groups)) ≡ true) ⊎ (occurs a (map (λ (r : Row). r.asn) (rows ases hops marks groups)) ≡ false) → occurs a (map (λ (r : Row). r.asn) (rows ases hops marks groups)) ≡ has g a
      at (inl e) o = there e ∙ sym e
      at (inr e) (inl o) = absurd (true≢false (sym (back o) ∙ e))
      at (inr e) (inr o) = o ∙ sym e

  pub are_rows : AreRows g next label (rows ases hops marks groups)
  are_rows = record {
    listed = listed;
    apart = rows_apart ases hops marks groups are.apart;
    right = λ place r e. let q : (x : ℕ) × (x < length ases) × (here_at groups x ≡ true) × (row ases hops marks groups x ≡ r) = row_at ases hops marks groups place r e in subst (IsRow (relation g) next label) q.3 (right q.0 q.1 q.2);
  }

-- ---- the sums count the rows

from_zero : (n : ℕ) → 0 + n ≡ n
from_zero n = omega arith

module _ (t : Row → Bool) (f : ℕ → Row) (here : ℕ → Bool) where
  counted_over : (xs : List ℕ) → count_by t (map f (filter here xs)) ≡ sum_by (λ v. v) (map (λ x. cond (here x && t (f x)) 1 0) xs)
  counted_over [] = refl
  counted_over (x ∷ xs) = by (counted_over xs) (here x) ∙ sym (sum_by-cons (λ (v : ℕ). v) (cond (here x && t (f x)) 1 0) (map (λ x. cond (here x && t (f x)) 1 0) xs))
    where
      by : count_by t (map f (filter here xs)) ≡ sum_by (λ v. v) (map (λ x. cond (here x && t (f x)) 1 0) xs) → (b : Bool) → count_by t (map f (cond b (x ∷ filter here xs) (filter here xs))) ≡ cond (b && t (f x)) 1 0 + sum_by (λ v. v) (map (λ x. cond (here x && t (f x)) 1 0) xs)
      by go true = sum_by-cons (λ (r : Row). cond (t r) 1 0) (f x) (map f (filter here xs)) ∙ ap (λ n. cond (t (f x)) 1 0 + n) go
      by go false = go ∙ sym (from_zero (sum_by (λ v. v) (map (λ x. cond (here x && t (f x)) 1 0) xs)))

summed_range : (f : ℕ → ℕ) (n : ℕ) → sum_by (λ v. v) (map f (range_with_len 0 n)) ≡ summed f n
summed_range f zero = refl
summed_range f (suc n) =
    let e : n + 1 ≡ suc n = omega arith in
    let more : sum_by (λ (v : ℕ). v) (map f (range_with_len 0 (n + 1))) ≡ sum_by (λ (v : ℕ). v) (map f (range_with_len 0 n)) + f n = sum_by-map-range_with_len_more (λ (v : ℕ). v) f 0 n n (omega arith) in
    ap (λ k. sum_by (λ (v : ℕ). v) (map f (range_with_len 0 k))) (sym e) ∙ more ∙ ap (λ k. k + f n) (summed_range f n)

pub counted_rows : (sums : Sums) (ases : List ℕ) (hops : List PlaceHop) (marks : List Mark) (groups : List Group) (p : Test) → length hops ≡ length ases → AreEnds (next_of hops) (length hops) marks → AreCounted sums ases marks groups →
    total p sums ≡ count_by (λ (r : Row). p r.end r.stub r.label) (rows ases hops marks groups)
counted_rows sums ases hops marks groups p len ends h =
    h.each p
    ∙ summed_same (adds_at p ases marks groups) (λ x. cond (here_at groups x && p (told ases (mark_of marks x)) (is_stub (group_at groups x).standing) (group_at groups x).label) 1 0) (length ases)
    (λ x l. ap (λ o. adds p o (group_at groups x)) (kept_known ases hops marks x ends (omega (arith, l, len))))
    ∙ sym (summed_range (λ x. cond (here_at groups x && p (told ases (mark_of marks x)) (is_stub (group_at groups x).standing) (group_at groups x).label) 1 0) (length ases))
    ∙ sym (counted_over (λ (r : Row). p r.end r.stub r.label) (row ases hops marks groups) (here_at groups) (range_with_len 0 (length ases)))

pub few_counted : (sums : Sums) (ases : List ℕ) (hops : List PlaceHop) (marks : List Mark) (groups : List Group) → length ases < 4294967296 → AreCounted sums ases marks groups → total (λ e s l. true) sums < 2 ^ 63
few_counted sums ases hops marks groups few h = omega (arith, few, h.each (λ e s l. true), summed-le (adds_at (λ e s l. true) ases marks groups) (length ases) (λ x. adds-le (λ e s l. true) _ (group_at groups x)))
