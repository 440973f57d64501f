-- The rows of a net as finite maps.
use Rattle.std.proofs.Common.{◌≡◌, ℕ, Bool, true, false, ◌&&◌, cond, nat_eq, true≢false, Some, None, List, [], ◌∷◌, length, refl, sym, ◌∙◌, ap, subst, arith}
use Rattle.std.specs.Ordering.{nat_cmp}
use Rattle.std.specs.Cmp.{nat_cmp_total, unsigned_tied}
use Rattle.std.specs.List.{AllByRecursion, IsDistinct}
use Rattle.std.specs.Map.{lookup, keys_of}
use Rattle.std.specs.FinMap as fin
use Rattle.std.proofs.lemmas.Bool.{eqb-true}
use Rattle.net_names.specs.Links.{pair_cmp}
use Rattle.net_names.proofs.Pairs.{pairs_total}
use Rattle.as_graph.proofs.RowLinks.{pair_tied}
use Rattle.message_sim.specs.Messages.{MessageNet}
use Rattle.message_sim.specs.Nets.{NetWorld, NetValue, net_of, value_of, chosen, received_on, queue_on, waiting_in}
use Rattle.message_sim.specs.Rows.{ChoiceRows, LineRows, link_eq, queue_at}
use Rattle.message_sim.specs.Kept.{net_in}
use Rattle.message_sim.proofs.Lines.{link_refl}

find_number : {X : Type 0} (es : List (ℕ × X)) (q : ℕ) → fin.find nat_cmp q es ≡ lookup (nat_eq q) es
find_number [] q = refl
find_number (e ∷ es) q = (λ i. cond (unsigned_tied q e.0 i) (Some e.1) (find_number es q i))

find_link : (es : LineRows) (q : ℕ × ℕ) → fin.find pair_cmp q es ≡ lookup (link_eq q) es
find_link [] q = refl
find_link (e ∷ es) q = (λ i. cond (pair_tied q e.0 i) (Some e.1) (find_link es q i))

pub choice_got : (es : ChoiceRows) (a : ℕ) → fin.get (fin.from_entries {R = nat_cmp} es) a ≡ lookup (nat_eq a) es
choice_got es a = fin.get-from_entries nat_cmp_total es a ∙ find_number es a

pub line_got : (es : LineRows) (q : ℕ × ℕ) → fin.get (fin.from_entries {R = pair_cmp} es) q ≡ lookup (link_eq q) es
line_got es q = fin.get-from_entries pairs_total es q ∙ find_link es q

-- the net of the value is that of the rows
pub net_is : {P V : Type 0} (world : NetWorld P V) (choices : ChoiceRows) (lines : LineRows) → net_of (value_of world choices lines) ≡ net_in choices lines
net_is world choices lines = λ i. record {
  choice = λ a. chosen (choice_got choices a i);
  received = λ n a. received_on (line_got lines (n, a) i);
  queue = λ n a. queue_on (line_got lines (n, a) i);
}

-- what holds of the net of the rows holds of the net that contracts see
pub seen_as : {P V : Type 0} (world : NetWorld P V) (choices : ChoiceRows) (lines : LineRows) (v : NetValue P V) → value_of world choices lines ≡ v
    → (H : NetWorld P V → MessageNet → Type 0) → H world (net_in choices lines) → H v.world (net_of v)
seen_as {P} {V} world choices lines v view H here = subst (λ (n : NetValue P V). H n.world (net_of n)) view (subst (H world) (sym (net_is world choices lines)) here)

pub absent : (es : LineRows) (q : ℕ × ℕ) → AllByRecursion (λ y. link_eq q y ≡ false) (keys_of es) → lookup (link_eq q) es ≡ None
absent [] q h = refl
absent (e ∷ es) q h = ap (λ b. cond b (Some e.1) (lookup (link_eq q) es)) h.0 ∙ absent es q h.1

and_true : (b c : Bool) → (b && c) ≡ true → (b ≡ true) × (c ≡ true)
and_true true c h = (refl, h)
and_true false c h = absurd (true≢false (sym h))

pub link_is : (x y : ℕ × ℕ) → link_eq x y ≡ true → x ≡ y
link_is x y h = let (a, b) = and_true (nat_eq x.0 y.0) (nat_eq x.1 y.1) h in λ i. (eqb-true x.0 y.0 a i, eqb-true x.1 y.1 b i)

-- where every queue is empty, none is counted
pub none_counted : (es : LineRows) → IsDistinct link_eq (keys_of es) → ((n a : ℕ) → queue_at es n a ≡ []) → waiting_in es ≡ 0
unfolding IsDistinct
none_counted [] d h = refl
none_counted (e ∷ es) d h =
    let here : e.1.queue ≡ [] = sym (ap (λ b. queue_on (cond b (Some e.1) (lookup (link_eq e.0) es))) (link_refl e.0.0 e.0.1)) ∙ h e.0.0 e.0.1 in
    let l = ap length here in
    let r = none_counted es d.1 (λ n a. later (n, a) (link_eq (n, a) e.0) refl) in
    omega (arith, l, r)
  where
    later : (q : ℕ × ℕ) (b : Bool) → link_eq q e.0 ≡ b → queue_at es q.0 q.1 ≡ []
    later q true is = ap queue_on (ap (λ k. lookup (link_eq k) es) (link_is q e.0 is) ∙ absent es e.0 d.0)
    later q false is = sym (ap (λ b. queue_on (cond b (Some e.1) (lookup (link_eq q) es))) is) ∙ h q.0 q.1

pub nothing : (xs : LineRows) → length xs ≡ 0 → waiting_in xs ≡ 0
nothing [] e = refl
nothing (x ∷ xs) e = absurd (omega (arith, e))
