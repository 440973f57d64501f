-- An AS comes to the places.
use Rattle.std.proofs.Common.{◌≡◌, ⊎_elim, ℕ, ◌+◌, ◌<◌, ◌≤◌, true, ◌||◌, List, [], ◌∷◌, ◌++◌, length, get_or, take, refl, sym, ◌∙◌, ap, subst, arith, true≢false}
use Rattle.std.specs.Prelude.{nat_eq}
use Rattle.std.specs.List.{list_any, IsDistinct}
use Rattle.std.proofs.lemmas.Bool.{cases_lt, or_right}
use Rattle.std.proofs.lemmas.List.{take_more, length_push, length-append, get_or_push, get_or_append_left}
use Rattle.std.proofs.lemmas.List.Folds.{list_any-append}
use Rattle.std.proofs.lemmas.Cmp.{nat_eq_equiv}
use Rattle.std.proofs.lemmas.Map.Made.{length-le_from_is_member}
use Rattle.net_names.specs.Numbers.{occurs}
use Rattle.as_graph.specs.Topology.{Topology, has}
use Rattle.data_trace.specs.Traces.{IsIn}
use Rattle.data_trace.specs.Columns.{name_at}
use Rattle.data_trace.specs.Comes.{Comes}
use Rattle.data_trace.proofs.Traces.{in_at, at_in}
use Rattle.data_trace.proofs.Walking.{in_push, in_pushed, last_in}
use Rattle.data_trace.proofs.Naming.{occurs_in}
use Rattle.data_trace.proofs.Placing.{occurs_more}

pub comes_none : (g : Topology) (keys : List ℕ) → Comes g [] keys keys
comes_none g keys = record {
  more = omega arith;
  stay = λ x l. refl;
  among = λ x l m. absurd (omega (arith, l, m));
  in_graph = λ x l m. absurd (omega (arith, l, m));
  there = λ a o h. absurd (true≢false (sym o));
}

one_more : (a : ℕ) (xs : List ℕ) (i : ℕ) → i < length xs → occurs a (take i xs) ≡ true → occurs a (take (i + 1) xs) ≡ true
one_more a xs i l h =
    occurs_in a (take (i + 1) xs) ∙ subst (IsIn a) (sym (take_more xs i 0 l)) (in_push a (get_or xs i 0) (take i xs) (sym (occurs_in a (take i xs)) ∙ h))

-- the next AS of the list has a place, or is not in the graph
pub comes_over : (g : Topology) (coming old new : List ℕ) (i : ℕ) → i < length coming → Comes g (take i coming) old new → (has g (get_or coming i 0) ≡ true → occurs (get_or coming i 0) new ≡ true) → Comes g (take (i + 1) coming) old new
comes_over g coming old new i l c known = record {
  more = c.more;
  stay = c.stay;
  among = λ x k m. one_more (name_at new x) coming i l (c.among x k m);
  in_graph = c.in_graph;
  there = λ a o h. ⊎_elim (λ (e : a ≡ get_or coming i 0). subst (λ b. occurs b new ≡ true) (sym e) (known (sym (ap (has g) e) ∙ h))) (λ (q : occurs a (take i coming) ≡ true). c.there a q h) (occurs_more a coming i l o);
}

-- it gets one
pub comes_more : (g : Topology) (coming old new : List ℕ) (i : ℕ) → i < length coming → Comes g (take i coming) old new → has g (get_or coming i 0) ≡ true → Comes g (take (i + 1) coming) old (new ++ get_or coming i 0 ∷ [])
comes_more g coming old new i l c here = record {
  more = omega (arith, c.more, length_push new (get_or coming i 0));
  stay = λ x k. get_or_append_left new (get_or coming i 0 ∷ []) 0 x (omega (arith, k, c.more)) ∙ c.stay x k;
  among = λ x k m. ⊎_elim (λ (q : x < length new). subst (λ a. occurs a (take (i + 1) coming) ≡ true) (sym (left x q)) (one_more (name_at new x) coming i l (c.among x k q)))
      (λ (q : length new ≤ x). subst (λ a. occurs a (take (i + 1) coming) ≡ true) (sym (last x q m)) (occurs_in (get_or coming i 0) (take (i + 1) coming) ∙ subst (IsIn (get_or coming i 0)) (sym (take_more coming i 0 l)) (last_in (get_or coming i 0) (take i coming)))) (cases_lt x (length new));
  in_graph = λ x k m. ⊎_elim (λ (q : x < length new). ap (has g) (left x q) ∙ c.in_graph x k q) (λ (q : length new ≤ x). ap (has g) (last x q m) ∙ here) (cases_lt x (length new));
  there = λ a o h. occurs_in a (new ++ get_or coming i 0 ∷ []) ∙ ⊎_elim (λ (e : a ≡ get_or coming i 0). subst (λ b. IsIn b (new ++ get_or coming i 0 ∷ [])) (sym e) (last_in (get_or coming i 0) new))
      (λ (q : occurs a (take i coming) ≡ true). in_push a (get_or coming i 0) new (sym (occurs_in a new) ∙ c.there a q h)) (occurs_more a coming i l o);
} where
  left : (x : ℕ) → x < length new → name_at (new ++ get_or coming i 0 ∷ []) x ≡ name_at new x
  left x q = get_or_append_left new (get_or coming i 0 ∷ []) 0 x q

  last : (x : ℕ) → length new ≤ x → x < length (new ++ get_or coming i 0 ∷ []) → name_at (new ++ get_or coming i 0 ∷ []) x ≡ get_or coming i 0
  last x q m = get_or_push new (get_or coming i 0) 0 x (omega (arith, q, m, length_push new (get_or coming i 0)))

-- the ASes that come are among those of the graph, so there is room for one more
pub room_left : (g : Topology) (coming old new all : List ℕ) (a : ℕ) → Comes g coming old new → IsDistinct nat_eq (new ++ a ∷ []) → has g a ≡ true → ((b : ℕ) → occurs b all ≡ has g b) → length new + 1 ≤ length old + length all
room_left g coming old new all a c d here listed = omega (arith, length_push new a, length-append old all, length-le_from_is_member nat_eq_equiv (new ++ a ∷ []) (old ++ all) d member)
  where
    in_all : (q : ℕ) → has g q ≡ true → IsIn q (old ++ all)
    in_all q h = list_any-append (nat_eq q) old all ∙ or_right (list_any (nat_eq q) old) (list_any (nat_eq q) all) (sym (occurs_in q all) ∙ listed q ∙ h)

    at : (q x : ℕ) → x < length new → name_at new x ≡ q → IsIn q (old ++ all)
    at q x l e = ⊎_elim (λ (k : x < length old). list_any-append (nat_eq q) old all ∙ ap (λ v. v || list_any (nat_eq q) all) (subst (λ t. IsIn t old) (sym (c.stay x k) ∙ e) (at_in old x k)))
        (λ (k : length old ≤ x). in_all q (sym (ap (has g) e) ∙ c.in_graph x k l)) (cases_lt x (length old))

    member : (q : ℕ) → IsIn q (new ++ a ∷ []) → IsIn q (old ++ all)
    member q h = ⊎_elim (λ (e : q ≡ a). in_all q (ap (has g) e ∙ here)) (λ (k : IsIn q new). let r : (x : ℕ) × (x < length new) × (get_or new x 0 ≡ q) = in_at q new k in at q r.0 r.1 r.2) (in_pushed q a new h)
