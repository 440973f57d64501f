-- Sums over cells.
use Rattle.std.proofs.Common.{◌≡◌, ⊎_elim, ℕ, zero, suc, ◌+◌, ◌<◌, ◌≤◌, Bool, true, false, ◌||◌, ◌&&◌, List, [], ◌∷◌, length, take, get_or, set, eqb, refl, sym, ◌∙◌, ap, cond, arith, true≢false}
use Rattle.std.specs.Prelude.{nat_lt}
use Rattle.std.specs.List.{sum_by, list_any}
use Rattle.std.proofs.lemmas.Bool.{and_parts, eqb-true, eq-eqb, ltb-true, lt-ltb, cases_lt}
use Rattle.std.proofs.lemmas.List.{take_more}
use Rattle.std.proofs.lemmas.List.Folds.{list_any-append}
use Rattle.std.proofs.lemmas.List.Sums.{sum_by-cons, sum_by-le-sum_by, sum_by-set, sum_by_push, sum_by-take-le}
use Rattle.data_trace.specs.declared.kinds.End.{End}
use Rattle.data_trace.specs.declared.kinds.End.TheVariants as the_end
use Rattle.data_trace.specs.declared.cell.Cell.{Cell}
use Rattle.data_trace.specs.Watches.{is_end}
use Rattle.data_trace.specs.Sums.{part, is_same_flag, is_key, is_counted}

abbrev pub Test : Type 0
Test = End → Bool → ℕ → Bool

abbrev pub all : Test
all = λ e s l. true

pub part-le : (p : Test) (c : Cell) → part p c ≤ c.count
part-le p c = by (p c.end c.stub c.label)
  where
    by : (b : Bool) → cond b c.count 0 ≤ c.count
    by true = omega arith
    by false = omega arith

pub total-le : (p : Test) (cs : List Cell) → sum_by (part p) cs ≤ sum_by (part all) cs
total-le p cs = sum_by-le-sum_by (part p) (part all) cs (part-le p)

-- ---- keys

same_flag : (a b : Bool) → is_same_flag a b ≡ true → a ≡ b
same_flag true true e = refl
same_flag true false e = cc
same_flag false true e = cc
same_flag false false e = refl

pub same_end : (e f : End) → is_end e f ≡ true → e ≡ f
same_end (the_end.At a) (the_end.At b) h = ap the_end.At (eqb-true a b h)
same_end (the_end.At a) the_end.NoRoute h = cc
same_end (the_end.At a) the_end.Loop h = cc
same_end the_end.NoRoute (the_end.At b) h = cc
same_end the_end.NoRoute the_end.NoRoute h = refl
same_end the_end.NoRoute the_end.Loop h = cc
same_end the_end.Loop (the_end.At b) h = cc
same_end the_end.Loop the_end.NoRoute h = cc
same_end the_end.Loop the_end.Loop h = refl

end_self : (e : End) → is_end e e ≡ true
end_self (the_end.At a) = eq-eqb a a refl
end_self the_end.NoRoute = refl
end_self the_end.Loop = refl

flag_self : (b : Bool) → is_same_flag b b ≡ true
flag_self true = refl
flag_self false = refl

pub key_self : (e : End) (s : Bool) (l : ℕ) → is_key e s l e s l ≡ true
key_self e s l = ap (λ x. x && (is_same_flag s s && eqb l l)) (end_self e) ∙ ap (λ x. x && eqb l l) (flag_self s) ∙ eq-eqb l l refl

-- a test says the same of a cell that counts a key and of the key
pub key_test : (p : Test) (e : End) (s : Bool) (l : ℕ) (c : Cell) → is_counted e s l c ≡ true → (p c.end c.stub c.label ≡ p e s l) × (0 < c.count)
key_test p e s l c h =
    let q = and_parts (nat_lt 0 c.count) (is_key e s l c.end c.stub c.label) h in
    let r = and_parts (is_end c.end e) (is_same_flag c.stub s && eqb c.label l) q.1 in
    let t = and_parts (is_same_flag c.stub s) (eqb c.label l) r.1 in
    (ap (λ x. p x c.stub c.label) (same_end c.end e r.0) ∙ ap (λ x. p e x c.label) (same_flag c.stub s t.0) ∙ ap (λ x. p e s x) (eqb-true c.label l t.1), ltb-true 0 c.count q.0)

-- ---- what a write changes

module _ (p : Test) (cs : List Cell) (i : ℕ) (c : Cell) (d : Cell) (l : i < length cs) where
  pub total-set : sum_by (part p) (set cs i c) + part p (get_or cs i d) ≡ sum_by (part p) cs + part p c
  total-set = sum_by-set (part p) cs i c d l

pub cell-le : (cs : List Cell) (i : ℕ) (d : Cell) → i < length cs → (get_or cs i d).count ≤ sum_by (part all) cs
cell-le [] i d l = absurd (omega arith)
cell-le (c ∷ cs) zero d l = omega (arith, sum_by-cons (part all) c cs)
cell-le (c ∷ cs) (suc i) d l = omega (arith, sum_by-cons (part all) c cs, cell-le cs i d (omega (arith, l)))

-- where no cell counts the key, its sum is 0
pub none_counted : (e : End) (s : Bool) (l : ℕ) (cs : List Cell) → list_any (is_counted e s l) cs ≡ false → sum_by (part (is_key e s l)) cs ≡ 0
none_counted e s l [] h = refl
none_counted e s l (c ∷ cs) h =
    let q = or_false (is_counted e s l c) (list_any (is_counted e s l) cs) h in
    let z : part (is_key e s l) c ≡ 0 = by (is_key e s l c.end c.stub c.label) refl q.0 in
    omega (arith, z, sum_by-cons (part (is_key e s l)) c cs, none_counted e s l cs q.1)
  where
    or_false : (a b : Bool) → (a || b) ≡ false → (a ≡ false) × (b ≡ false)
    or_false true b h = absurd (true≢false h)
    or_false false b h = (refl, h)

    by : (b : Bool) → is_key e s l c.end c.stub c.label ≡ b → (nat_lt 0 c.count && is_key e s l c.end c.stub c.label) ≡ false → cond b c.count 0 ≡ 0
    by false q h = refl
    by true q h = ⊎_elim (λ (k : 0 < c.count). absurd (true≢false (sym (both (nat_lt 0 c.count) (is_key e s l c.end c.stub c.label) (lt-ltb 0 c.count k) q) ∙ h))) (λ (k : c.count ≤ 0). omega (arith, k)) (cases_lt 0 c.count)
      where
        both : (a b : Bool) → a ≡ true → b ≡ true → (a && b) ≡ true
        both a b e f = ap (λ x. x && b) e ∙ f

-- one more cell of the front
pub total_more : (p : Test) (cs : List Cell) (i : ℕ) (d : Cell) → i < length cs → sum_by (part p) (take (i + 1) cs) ≡ sum_by (part p) (take i cs) + part p (get_or cs i d)
total_more p cs i d l = ap (sum_by (part p)) (take_more cs i d l) ∙ sum_by_push (part p) (take i cs) (get_or cs i d)

-- a front of cells of which none passes the test, and one more
pub none_more : (t : Cell → Bool) (cs : List Cell) (i : ℕ) (c : Cell) → i < length cs → c ≡ get_or cs i c → list_any t (take i cs) ≡ false → t c ≡ false → list_any t (take (i + 1) cs) ≡ false
none_more t cs i c l e h n =
    ap (list_any t) (take_more cs i c l) ∙ list_any-append t (take i cs) (get_or cs i c ∷ []) ∙ ap (λ b. b || (t (get_or cs i c) || false)) h ∙ ap (λ x. t x || false) (sym e) ∙ ap (λ b. b || false) n

-- a front of cells of which each counts an AS, and one more
pub some_more : (cs : List Cell) (i : ℕ) (c : Cell) → i < length cs → c ≡ get_or cs i c → i ≤ sum_by (part all) (take i cs) → (c.count ≡ 0 → ⊥) → i + 1 ≤ sum_by (part all) (take (i + 1) cs)
some_more cs i c l e h n =
    let m : sum_by (part all) (take (i + 1) cs) ≡ sum_by (part all) (take i cs) + (get_or cs i c).count = total_more all cs i c l in
    let k : c.count ≡ (get_or cs i c).count = ap (λ (x : Cell). x.count) e in
    omega (arith, m, k, h, ⊎_elim (λ (q : 0 < c.count). q) (λ (q : c.count ≤ 0). absurd (n (omega (arith, q)))) (cases_lt 0 c.count))

-- the sum over a front, and one cell more
pub sum_more : (p : Test) (cs : List Cell) (i : ℕ) (c : Cell) (sum w : ℕ) → i < length cs → c ≡ get_or cs i c → sum ≡ sum_by (part p) (take i cs) → w ≡ part p c → sum + w ≡ sum_by (part p) (take (i + 1) cs)
sum_more p cs i c sum w l e s is = omega (arith, total_more p cs i c l, s, is, ap (part p) e)

pub sum_fits : (p : Test) (cs : List Cell) (i : ℕ) (c : Cell) (sum w : ℕ) → i < length cs → c ≡ get_or cs i c → sum ≡ sum_by (part p) (take i cs) → w ≡ part p c → sum + w ≤ sum_by (part all) cs
sum_fits p cs i c sum w l e s is = omega (arith, sum_more p cs i c sum w l e s is, sum_by-take-le (part p) cs (i + 1), total-le p cs)
