-- What is left without a link, and which edits undo others.
use Rattle.std.proofs.Common.{◌≡◌, ◌≢◌, inl, inr, ℕ, ◌<◌, ◌≤◌, Bool, true, false, ◌||◌, ◌&&◌, not, cond, nat_lt, Option, Some, None, option_map, refl, sym, ◌∙◌, ap, arith}
use Rattle.std.proofs.lemmas.Bool.{cases_Bool, ltb-true, ltb-false, lt-ltb, eqb-true, false_from_ne_true}
use Rattle.std.proofs.lemmas.Cmp.{nat_cmp_total, tied_itself}
use Rattle.std.specs.Ordering.{nat_cmp, eq_by_cmp, is_eq}
use Rattle.std.specs.Cmp.{unsigned_tied}
use Rattle.std.specs.FinMap as map
use Rattle.std.specs.FinSet as set
use Rattle.net_names.specs.declared.routes.Rel.{Rel}
use Rattle.net_names.specs.Links.{LinkMap, pair_cmp, converse}
use Rattle.net_names.proofs.Pairs.{pairs_total, exact_pair}
use Rattle.as_graph.specs.Topology.{Topology, relation, with_mark}
use Rattle.as_graph.specs.Edits.{with_link, without_link, without_mark, LinksAreTaken, EditsAreUndone}
use Rattle.as_graph.proofs.Links.{relation_mutual}
use Rattle.as_graph.proofs.EditsLemmas.{twice_one}
pub use Rattle.net_names.proofs.Shared.{same_pair}

pub pair_itself : (p : ℕ × ℕ) → eq_by_cmp pair_cmp p p ≡ true
pair_itself p = ap is_eq (tied_itself pairs_total p)

-- without the pair, lower first
unfoldable pub take_pair : Topology → ℕ → ℕ → Topology
take_pair w lo hi = record w { links = map.remove w.links (lo, hi) }

pub is_taken : (w : Topology) (a b : ℕ) → nat_lt a b ≡ true → without_link w a b ≡ take_pair w a b
unfolding take_pair
is_taken w a b e = ap (λ t. record w { links = cond t (map.remove w.links (a, b)) (map.remove w.links (b, a)) }) e

pub is_taken_turned : (w : Topology) (a b : ℕ) → nat_lt a b ≡ false → without_link w a b ≡ take_pair w b a
unfolding take_pair
is_taken_turned w a b e = ap (λ t. record w { links = cond t (map.remove w.links (a, b)) (map.remove w.links (b, a)) }) e

get_taken : (links : LinkMap) (p : ℕ × ℕ) → map.get (map.remove links p) p ≡ None
get_taken links p = map.get-remove pairs_total links p p ∙ ap (λ t. cond t None (map.get links p)) (pair_itself p)

get_others : (links : LinkMap) (p q : ℕ × ℕ) → (q ≡ p → ⊥) → map.get (map.remove links p) q ≡ map.get links q
get_others links p q ne = map.get-remove pairs_total links p q ∙ ap (λ t. cond t None (map.get links q)) (false_from_ne_true (eq_by_cmp pair_cmp q p) (λ e. ne (same_pair q p e)))

taken_at : (w : Topology) (lo hi : ℕ) → relation (take_pair w lo hi) lo hi ≡ cond (nat_lt lo hi) None (cond (nat_lt hi lo) (option_map converse (map.get (map.remove w.links (lo, hi)) (hi, lo))) None)
unfolding take_pair
taken_at w lo hi = ap (λ o. cond (nat_lt lo hi) o (cond (nat_lt hi lo) (option_map converse (map.get (map.remove w.links (lo, hi)) (hi, lo))) None)) (get_taken w.links (lo, hi))

-- of a pair with its lower AS first, or of an AS with itself
taken_none : (w : Topology) (lo hi : ℕ) → lo ≤ hi → relation (take_pair w lo hi) lo hi ≡ None
taken_none w lo hi le = taken_at w lo hi ∙ by (nat_lt lo hi) (nat_lt hi lo) refl refl _
  where
    by : (x y : Bool) → nat_lt lo hi ≡ x → nat_lt hi lo ≡ y → (o : Option Rel) → cond x None (cond y o None) ≡ None
    by true y e f o = refl
    by false true e f o = (let up : hi < lo = ltb-true hi lo f in absurd (omega arith))
    by false false e f o = refl

taken_off : (w : Topology) (lo hi x y : ℕ) → ((x ≡ lo) × (y ≡ hi) → ⊥) → ((x ≡ hi) × (y ≡ lo) → ⊥) → relation (take_pair w lo hi) x y ≡ relation w x y
unfolding take_pair
taken_off w lo hi x y straight turned =
    λ i. cond (nat_lt x y) (get_others w.links (lo, hi) (x, y) (λ e. straight (ap (λ (p : ℕ × ℕ). p.0) e, ap (λ (p : ℕ × ℕ). p.1) e)) i)
    (cond (nat_lt y x) (option_map converse (get_others w.links (lo, hi) (y, x) (λ e. turned (ap (λ (p : ℕ × ℕ). p.1) e, ap (λ (p : ℕ × ℕ). p.0) e)) i)) None)

taken : (w : Topology) (a b : ℕ) → relation (without_link w a b) a b ≡ None
taken w a b = elim (cases_Bool (nat_lt a b)) [
  | inl e ↦ ap (λ g. relation g a b) (is_taken w a b e) ∙ taken_none w a b (let up : a < b = ltb-true a b e in omega arith)
  | inr e ↦ ap (λ g. relation g a b) (is_taken_turned w a b e) ∙ relation_mutual (take_pair w b a) b a ∙ ap (option_map converse) (taken_none w b a (ltb-false a b e))
]

pub links_are_taken_lem : LinksAreTaken
links_are_taken_lem = record {
  at = taken;
  back = λ w a b. relation_mutual (without_link w a b) a b ∙ ap (option_map converse) (taken w a b);
  others = λ w a b x y straight turned. elim (cases_Bool (nat_lt a b)) [
    | inl e ↦ ap (λ g. relation g x y) (is_taken w a b e) ∙ taken_off w a b x y straight turned
    | inr e ↦ ap (λ g. relation g x y) (is_taken_turned w a b e) ∙ taken_off w b a x y turned straight
  ];
}

-- ---- what undoes what

-- maps that tell the same at each pair
same_links : (w : Topology) (links : LinkMap) → ((q : ℕ × ℕ) → map.get links q ≡ map.get w.links q) → record w { links = links } ≡ w
same_links w links same = λ i. record { links = map.same_map pairs_total exact_pair links w.links same i; marked = w.marked; room = w.room }

-- the value of a pair is put back
put_back : (links : LinkMap) (p q : ℕ × ℕ) (o : Option Rel) (v : Option Rel) → map.get links p ≡ v → cond (eq_by_cmp pair_cmp q p) v (cond (eq_by_cmp pair_cmp q p) o (map.get links q)) ≡ map.get links q
put_back links p q o v was = elim (cases_Bool (eq_by_cmp pair_cmp q p)) [
  | inl e ↦ ap (λ t. cond t v (cond t o (map.get links q))) e ∙ sym was ∙ ap (map.get links) (sym (same_pair q p e))
  | inr e ↦ ap (λ t. cond t v (cond t o (map.get links q))) e
]

module _ (w : Topology) (p : ℕ × ℕ) where
  removed : (r : Rel) → map.get w.links p ≡ None → record w { links = map.remove (map.insert w.links p r) p } ≡ w
  removed r none = same_links w (map.remove (map.insert w.links p r) p) (λ q.
      map.get-remove pairs_total (map.insert w.links p r) p q ∙ ap (λ o. cond (eq_by_cmp pair_cmp q p) None o) (map.get-insert pairs_total w.links p r q) ∙ put_back w.links p q (Some r) None none)

  replaced : (r s : Rel) → map.get w.links p ≡ Some s → record w { links = map.insert (map.insert w.links p r) p s } ≡ w
  replaced r s some = same_links w (map.insert (map.insert w.links p r) p s) (λ q.
      map.get-insert pairs_total (map.insert w.links p r) p s q ∙ ap (λ o. cond (eq_by_cmp pair_cmp q p) (Some s) o) (map.get-insert pairs_total w.links p r q) ∙ put_back w.links p q (Some r) (Some s) some)

  restored : (r : Rel) → map.get w.links p ≡ Some r → record w { links = map.insert (map.remove w.links p) p r } ≡ w
  restored r some = same_links w (map.insert (map.remove w.links p) p r) (λ q.
      map.get-insert pairs_total (map.remove w.links p) p r q ∙ ap (λ o. cond (eq_by_cmp pair_cmp q p) (Some r) o) (map.get-remove pairs_total w.links p q) ∙ put_back w.links p q None (Some r) some)

-- what the pair has, by its entry with the lower AS first
module _ (w : Topology) (a b : ℕ) where
  straight : nat_lt a b ≡ true → relation w a b ≡ map.get w.links (a, b)
  straight e = ap (λ t. cond t (map.get w.links (a, b)) (cond (nat_lt b a) (option_map converse (map.get w.links (b, a))) None)) e

  turned : nat_lt a b ≡ false → a ≢ b → relation w a b ≡ option_map converse (map.get w.links (b, a))
  turned e ne =
      let le : b ≤ a = ltb-false a b e in
      let ne' : a ≢ b = ne in
      let up : nat_lt b a ≡ true = lt-ltb b a (omega arith) in
      (λ i. cond (e i) (map.get w.links (a, b)) (cond (up i) (option_map converse (map.get w.links (b, a))) None))

none_back : (o : Option Rel) → option_map converse o ≡ None → o ≡ None
none_back None h = refl
none_back (Some r) h = cc

some_back : (o : Option Rel) (r : Rel) → option_map converse o ≡ Some r → o ≡ Some (converse r)
some_back None r h = cc
some_back (Some s) r h = ap (λ t. Some t) (sym (twice_one s)) ∙ ap (option_map converse) h

module _ (w : Topology) (a b : ℕ) (ne : a ≢ b) where
  new_link : (r : Rel) → relation w a b ≡ None → without_link (with_link w a b r) a b ≡ w
  new_link r none = elim (cases_Bool (nat_lt a b)) [
    | inl e ↦ (λ i. record w { links = cond (e i) (map.remove (cond (e i) (map.insert w.links (a, b) r) (map.insert w.links (b, a) (converse r))) (a, b)) (map.remove (cond (e i) (map.insert w.links (a, b) r) (map.insert w.links (b, a) (converse r))) (b, a)) })
        ∙ removed w (a, b) r (sym (straight w a b e) ∙ none)
    | inr e ↦ (λ i. record w { links = cond (e i) (map.remove (cond (e i) (map.insert w.links (a, b) r) (map.insert w.links (b, a) (converse r))) (a, b)) (map.remove (cond (e i) (map.insert w.links (a, b) r) (map.insert w.links (b, a) (converse r))) (b, a)) })
        ∙ removed w (b, a) (converse r) (none_back _ (sym (turned w a b e ne) ∙ none))
  ]

  other_link : (r s : Rel) → relation w a b ≡ Some s → with_link (with_link w a b r) a b s ≡ w
  other_link r s some = elim (cases_Bool (nat_lt a b)) [
    | inl e ↦ (λ i. record w { links = cond (e i) (map.insert (cond (e i) (map.insert w.links (a, b) r) (map.insert w.links (b, a) (converse r))) (a, b) s) (map.insert (cond (e i) (map.insert w.links (a, b) r) (map.insert w.links (b, a) (converse r))) (b, a) (converse s)) })
        ∙ replaced w (a, b) r s (sym (straight w a b e) ∙ some)
    | inr e ↦ (λ i. record w { links = cond (e i) (map.insert (cond (e i) (map.insert w.links (a, b) r) (map.insert w.links (b, a) (converse r))) (a, b) s) (map.insert (cond (e i) (map.insert w.links (a, b) r) (map.insert w.links (b, a) (converse r))) (b, a) (converse s)) })
        ∙ replaced w (b, a) (converse r) (converse s) (some_back _ s (sym (turned w a b e ne) ∙ some))
  ]

  lost_link : (r : Rel) → relation w a b ≡ Some r → with_link (without_link w a b) a b r ≡ w
  lost_link r some = elim (cases_Bool (nat_lt a b)) [
    | inl e ↦ (λ i. record w { links = cond (e i) (map.insert (cond (e i) (map.remove w.links (a, b)) (map.remove w.links (b, a))) (a, b) r) (map.insert (cond (e i) (map.remove w.links (a, b)) (map.remove w.links (b, a))) (b, a) (converse r)) })
        ∙ restored w (a, b) r (sym (straight w a b e) ∙ some)
    | inr e ↦ (λ i. record w { links = cond (e i) (map.insert (cond (e i) (map.remove w.links (a, b)) (map.remove w.links (b, a))) (a, b) r) (map.insert (cond (e i) (map.remove w.links (a, b)) (map.remove w.links (b, a))) (b, a) (converse r)) })
        ∙ restored w (b, a) (converse r) (some_back _ r (sym (turned w a b e ne) ∙ some))
  ]

same_marks : (w : Topology) (marks : set.FinSet nat_cmp) → ((q : ℕ) → set.contains marks q ≡ set.contains w.marked q) → record w { marked = marks } ≡ w
same_marks w marks same = λ i. record { links = w.links; marked = set.same_set nat_cmp_total set.nat_cmp-IsAntisymmetric marks w.marked same i; room = w.room }

-- whether a number is in the set, where one number is put in or taken out and then back
mark_back : (w : Topology) (a q : ℕ) → set.contains w.marked q ≡ cond (eq_by_cmp nat_cmp q a) (set.contains w.marked a) (set.contains w.marked q)
mark_back w a q = elim (cases_Bool (eq_by_cmp nat_cmp q a)) [
  | inl e ↦ ap (set.contains w.marked) (eqb-true q a (sym (unsigned_tied q a) ∙ e)) ∙ sym (ap (λ t. cond t (set.contains w.marked a) (set.contains w.marked q)) e)
  | inr e ↦ sym (ap (λ t. cond t (set.contains w.marked a) (set.contains w.marked q)) e)
]

new_mark : (w : Topology) (a : ℕ) → set.contains w.marked a ≡ false → without_mark (with_mark w a) a ≡ w
new_mark w a none = same_marks w (set.remove (set.insert w.marked a) a) (λ q.
    set.contains-remove nat_cmp_total (set.insert w.marked a) a q ∙ ap (λ t. not (eq_by_cmp nat_cmp q a) && t) (set.contains-insert nat_cmp_total w.marked a q)
    ∙ by (eq_by_cmp nat_cmp q a) (set.contains w.marked q) ∙ sym (mark_back w a q ∙ ap (λ t. cond (eq_by_cmp nat_cmp q a) t (set.contains w.marked q)) none))
  where
    by : (x y : Bool) → (not x && (x || y)) ≡ cond x false y
    by true y = refl
    by false y = refl

lost_mark : (w : Topology) (a : ℕ) → set.contains w.marked a ≡ true → with_mark (without_mark w a) a ≡ w
lost_mark w a some = same_marks w (set.insert (set.remove w.marked a) a) (λ q.
    set.contains-insert nat_cmp_total (set.remove w.marked a) a q ∙ ap (λ t. eq_by_cmp nat_cmp q a || t) (set.contains-remove nat_cmp_total w.marked a q)
    ∙ by (eq_by_cmp nat_cmp q a) (set.contains w.marked q) ∙ sym (mark_back w a q ∙ ap (λ t. cond (eq_by_cmp nat_cmp q a) t (set.contains w.marked q)) some))
  where
    by : (x y : Bool) → (x || (not x && y)) ≡ cond x true y
    by true y = refl
    by false y = refl

-- an AS without a mark has none to take away
pub mark_absent : (w : Topology) (a : ℕ) → set.contains w.marked a ≡ false → without_mark w a ≡ w
mark_absent w a none = same_marks w (set.remove w.marked a) (λ q.
    set.contains-remove nat_cmp_total w.marked a q ∙ by (eq_by_cmp nat_cmp q a) (set.contains w.marked q) ∙ sym (mark_back w a q ∙ ap (λ t. cond (eq_by_cmp nat_cmp q a) t (set.contains w.marked q)) none))
  where
    by : (x y : Bool) → (not x && y) ≡ cond x false y
    by true y = refl
    by false y = refl

pub edits_are_undone_lem : EditsAreUndone
edits_are_undone_lem = record {
  new_link = λ w a b r ne none. new_link w a b ne r none;
  other_link = λ w a b r s ne some. other_link w a b ne r s some;
  lost_link = λ w a b r ne some. lost_link w a b ne r some;
  new_mark = new_mark;
  lost_mark = lost_mark;
}
