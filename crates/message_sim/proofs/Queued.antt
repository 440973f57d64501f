-- How many messages are under way between the ASes of a graph.
use Rattle.std.proofs.Common.{◌≡◌, ℕ, ◌+◌, Bool, true, false, ◌||◌, ◌&&◌, nat_eq, cond, true≢false, is_some, sum_by, Option, Some, None, List, [], ◌∷◌, length, option_map, refl, sym, ◌∙◌, ap, arith}
use Rattle.std.specs.List.{IsDistinct as AreApart}
use Rattle.std.specs.Map.{lookup, keys_of}
use Rattle.std.proofs.lemmas.Bool.{eqb-true}
use Rattle.std.proofs.lemmas.List.Sums.{sum_by-cons}
use Rattle.net_names.specs.declared.routes.Rel.{Rel}
use Rattle.net_names.specs.Links.{converse}
use Rattle.net_names.specs.Numbers.{occurs, IsDistinct}
use Rattle.net_names.proofs.Marks.{in_order, distinct-in_order, occurs-in_order}
use Rattle.as_graph.specs.Topology.{Topology, ases, relation}
use Rattle.as_graph.proofs.Links.{linked_end, relation_mutual}
use Rattle.message_sim.specs.declared.line.Line.{Line}
use Rattle.message_sim.specs.Nets.{queue_on, waiting_in}
use Rattle.message_sim.specs.Rows.{AreWithin, LineRows, link_eq, queue_at}
use Rattle.message_sim.proofs.Lines.{link_refl}
use Rattle.message_sim.proofs.Values.{absent}

-- ---- each AS once

abbrev pub each : Topology → List ℕ
each g = in_order (ases g)

pub each_once : (g : Topology) → IsDistinct (each g)
each_once g = distinct-in_order (ases g)

among : (g : Topology) (b : ℕ) → occurs b (ases g) ≡ true → occurs b (each g) ≡ true
among g b here = occurs-in_order (ases g) b ∙ here

-- both ends of a link are among the ASes
pub ends_in : (g : Topology) (n a : ℕ) → is_some (relation g a n) ≡ true → (occurs n (each g) ≡ true) × (occurs a (each g) ≡ true)
ends_in g n a linked = by (relation g a n) refl linked
  where
    by : (r : Option Rel) → relation g a n ≡ r → is_some r ≡ true → (occurs n (each g) ≡ true) × (occurs a (each g) ≡ true)
    by None is h = absurd (true≢false (sym h))
    by (Some r) is h = (among g n (linked_end g a n r is), among g a (linked_end g n a (converse r) (relation_mutual g a n ∙ ap (option_map converse) is)))

-- ---- sums

sum_none : (xs : List ℕ) → sum_by (λ (_ : ℕ). 0) xs ≡ 0
sum_none [] = refl
sum_none (x ∷ xs) =
    let cons = sum_by-cons (λ (_ : ℕ). 0) x xs in
    let rest = sum_none xs in
    omega (arith, cons, rest)

sum_both : (f g : ℕ → ℕ) (xs : List ℕ) → sum_by (λ a. f a + g a) xs ≡ sum_by f xs + sum_by g xs
sum_both f g [] = refl
sum_both f g (x ∷ xs) =
    let both = sum_by-cons (λ a. f a + g a) x xs in
    let first = sum_by-cons f x xs in
    let second = sum_by-cons g x xs in
    let rest = sum_both f g xs in
    omega (arith, both, first, second, rest)

sum_absent : (k q : ℕ) (xs : List ℕ) → occurs q xs ≡ false → sum_by (λ a. cond (nat_eq a q) k 0) xs ≡ 0
sum_absent k q [] h = refl
sum_absent k q (x ∷ xs) h = by (nat_eq x q) refl h (sum_absent k q xs)
  where
    by : (b : Bool) → nat_eq x q ≡ b → (b || occurs q xs) ≡ false → (occurs q xs ≡ false → sum_by (λ a. cond (nat_eq a q) k 0) xs ≡ 0) → sum_by (λ a. cond (nat_eq a q) k 0) (x ∷ xs) ≡ 0
    by true is e rest = absurd (true≢false e)
    by false is e rest =
        let cons = sum_by-cons (λ a. cond (nat_eq a q) k 0) x xs in
        let here : cond (nat_eq x q) k 0 ≡ 0 = ap (λ b. cond b k 0) is in
        let others = rest e in
        omega (arith, cons, here, others)

sum_one : (k q : ℕ) (xs : List ℕ) → IsDistinct xs → occurs q xs ≡ true → sum_by (λ a. cond (nat_eq a q) k 0) xs ≡ k
sum_one k q [] d h = absurd (true≢false (sym h))
sum_one k q (x ∷ xs) d h = by (nat_eq x q) refl h (sum_one k q xs d.1)
  where
    by : (b : Bool) → nat_eq x q ≡ b → (b || occurs q xs) ≡ true → (occurs q xs ≡ true → sum_by (λ a. cond (nat_eq a q) k 0) xs ≡ k) → sum_by (λ a. cond (nat_eq a q) k 0) (x ∷ xs) ≡ k
    by true is e rest =
        let cons = sum_by-cons (λ a. cond (nat_eq a q) k 0) x xs in
        let here : cond (nat_eq x q) k 0 ≡ k = ap (λ b. cond b k 0) is in
        let gone = sum_absent k q xs (ap (λ t. occurs t xs) (sym (eqb-true x q is)) ∙ d.0) in
        omega (arith, cons, here, gone)
    by false is e rest =
        let cons = sum_by-cons (λ a. cond (nat_eq a q) k 0) x xs in
        let here : cond (nat_eq x q) k 0 ≡ 0 = ap (λ b. cond b k 0) is in
        let others = rest e in
        omega (arith, cons, here, others)

-- ---- the lines

-- how many messages are under way between ASes of the list
abbrev pub grid : LineRows → List ℕ → ℕ
grid es ns = sum_by (λ n. sum_by (λ a. length (queue_at es n a)) ns) ns

module _ (e : (ℕ × ℕ) × Line) (es : LineRows) (apart : lookup (link_eq e.0) es ≡ None) where
  one_more : (n a : ℕ) → length (queue_at (e ∷ es) n a) ≡ cond (nat_eq n e.0.0) (cond (nat_eq a e.0.1) (length e.1.queue) 0) 0 + length (queue_at es n a)
  one_more n a = by (nat_eq n e.0.0) refl (nat_eq a e.0.1) refl
    where
      gone : (n ≡ e.0.0) → (a ≡ e.0.1) → length (queue_at es n a) ≡ 0
      gone p q = (λ i. length (queue_at es (p i) (q i))) ∙ ap (λ o. length (queue_on o)) apart

      by : (b : Bool) → nat_eq n e.0.0 ≡ b → (c : Bool) → nat_eq a e.0.1 ≡ c
          → length (queue_on (cond (nat_eq n e.0.0 && nat_eq a e.0.1) (Some e.1) (lookup (link_eq (n, a)) es))) ≡ cond (nat_eq n e.0.0) (cond (nat_eq a e.0.1) (length e.1.queue) 0) 0 + length (queue_at es n a)
      by true p true q =
          let none = gone (eqb-true n e.0.0 p) (eqb-true a e.0.1 q) in
          let whole : length (queue_on (cond (nat_eq n e.0.0 && nat_eq a e.0.1) (Some e.1) (lookup (link_eq (n, a)) es))) ≡ length e.1.queue = (λ i. length (queue_on (cond (p i && q i) (Some e.1) (lookup (link_eq (n, a)) es)))) in
          let put : cond (nat_eq n e.0.0) (cond (nat_eq a e.0.1) (length e.1.queue) 0) 0 ≡ length e.1.queue = (λ i. cond (p i) (cond (q i) (length e.1.queue) 0) 0) in
          omega (arith, none, whole, put)
      by true p false q =
          let whole : length (queue_on (cond (nat_eq n e.0.0 && nat_eq a e.0.1) (Some e.1) (lookup (link_eq (n, a)) es))) ≡ length (queue_at es n a) = (λ i. length (queue_on (cond (p i && q i) (Some e.1) (lookup (link_eq (n, a)) es)))) in
          let put : cond (nat_eq n e.0.0) (cond (nat_eq a e.0.1) (length e.1.queue) 0) 0 ≡ 0 = (λ i. cond (p i) (cond (q i) (length e.1.queue) 0) 0) in
          omega (arith, whole, put)
      by false p c q =
          let whole : length (queue_on (cond (nat_eq n e.0.0 && nat_eq a e.0.1) (Some e.1) (lookup (link_eq (n, a)) es))) ≡ length (queue_at es n a) = (λ i. length (queue_on (cond (p i && nat_eq a e.0.1) (Some e.1) (lookup (link_eq (n, a)) es)))) in
          let put : cond (nat_eq n e.0.0) (cond (nat_eq a e.0.1) (length e.1.queue) 0) 0 ≡ 0 = (λ i. cond (p i) (cond (nat_eq a e.0.1) (length e.1.queue) 0) 0) in
          omega (arith, whole, put)

  module _ (ns : List ℕ) (distinct : IsDistinct ns) (in_first : occurs e.0.0 ns ≡ true) (in_second : occurs e.0.1 ns ≡ true) where
    row : (n : ℕ) → sum_by (λ a. length (queue_at (e ∷ es) n a)) ns ≡ cond (nat_eq n e.0.0) (length e.1.queue) 0 + sum_by (λ a. length (queue_at es n a)) ns
    row n =
        (λ i. sum_by (λ a. one_more n a i) ns)
        ∙ sum_both (λ a. cond (nat_eq n e.0.0) (cond (nat_eq a e.0.1) (length e.1.queue) 0) 0) (λ a. length (queue_at es n a)) ns
        ∙ ap (λ k. k + sum_by (λ a. length (queue_at es n a)) ns) (by (nat_eq n e.0.0))
      where
        by : (b : Bool) → sum_by (λ a. cond b (cond (nat_eq a e.0.1) (length e.1.queue) 0) 0) ns ≡ cond b (length e.1.queue) 0
        by true = sum_one (length e.1.queue) e.0.1 ns distinct in_second
        by false = sum_none ns

    pub one_line : grid (e ∷ es) ns ≡ length e.1.queue + grid es ns
    one_line =
        (λ i. sum_by (λ n. row n i) ns)
        ∙ sum_both (λ n. cond (nat_eq n e.0.0) (length e.1.queue) 0) (λ n. sum_by (λ a. length (queue_at es n a)) ns) ns
        ∙ ap (λ k. k + grid es ns) (sum_one (length e.1.queue) e.0.0 ns distinct in_first)

-- the count over the ASes is that over the lines, each of which joins two of them
pub counted : (ns : List ℕ) → IsDistinct ns → (es : LineRows) → AreApart link_eq (keys_of es) → AreWithin ns es → grid es ns ≡ waiting_in es
unfolding AreApart
counted ns distinct [] apart ends = (λ i. sum_by (λ (_ : ℕ). sum_none ns i) ns) ∙ sum_none ns
counted ns distinct (e ∷ es) apart ends =
    let here = ends e.0.0 e.0.1 (ap (λ b. is_some (cond b (Some e.1) (lookup (link_eq e.0) es))) (link_refl e.0.0 e.0.1)) in
    one_line e es (absent es e.0 apart.0) ns distinct here.0 here.1
    ∙ ap (λ k. length e.1.queue + k) (counted ns distinct es apart.1 (λ n a there. ends n a (kept (link_eq (n, a) e.0) (lookup (link_eq (n, a)) es) there)))
  where
    kept : (b : Bool) (o : Option Line) → is_some o ≡ true → is_some (cond b (Some e.1) o) ≡ true
    kept true o h = refl
    kept false o h = h
