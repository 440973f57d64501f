-- What a shortened prefix is, and which prefixes cover one.
use Rattle.std.proofs.Common.{◌≡◌, ℕ, ◌+◌, ◌-◌, ◌*◌, ◌/◌, ◌%◌, ◌^◌, ◌≤◌, ◌<◌, refl, sym, ap, subst, ◌∙◌, ◌⊎◌, inl, inr, arith, Bool, true, false, nat_eq, eqb-true, eq-eqb, pow-add}
use Rattle.std.specs.Prelude.{◌&&◌, nat_le}
use Rattle.std.proofs.Math.Nat.{mul_comm, mul_assoc, mul-mod_left, mul-le-mul_right, div-mul-le_self, mod-eq-sub-div-mul, mul-div_cancel}
use Rattle.std.proofs.lemmas.Nat.{pow_pos, le-div}
use Rattle.std.proofs.lemmas.Bool.{cases_lt}
use Rattle.std.proofs.lemmas.Bool.Decides.{nat_tests}
use Rattle.std.specs.declared.cmp.Ordering.TheVariants.{Less}
use Rattle.std.specs.Ordering.{nat_cmp, ordering_then}
use Rattle.std.specs.Cmp.{both_ways, nat_cmp_is, nat_cmp_total, tied_itself}
use Rattle.net_names.specs.declared.addresses.Family.{Family}
use Rattle.net_names.specs.declared.addresses.Family.TheVariants.{V4, V6}
use Rattle.net_names.specs.Addresses.{width}
use Rattle.net_names.specs.Prefixes.{PrefixValue, IsPrefix, prefix_cmp}
use Rattle.net_names.specs.Coverage.{has_bits, covers, shortened}

-- the value of a prefix, whose bits past its length are clear
abbrev pub IsWhole : PrefixValue → Type 0
IsWhole p = IsPrefix p.family p.addr p.len

-- a shortened prefix is one
pub shortened_whole : (p : PrefixValue) (n : ℕ) → IsWhole p → n ≤ p.len → IsWhole (shortened p n)
shortened_whole p n e h = record {
  short = omega (arith, e.short);
  fits = omega (arith, e.fits, div-mul-le_self p.addr (2 ^ (width p.family - n)));
  clear = mul-mod_left (p.addr / 2 ^ (width p.family - n)) (2 ^ (width p.family - n));
}

-- a number without a remainder is its quotient times the divisor
pub div-mul_whole : (a d : ℕ) → a % d ≡ 0 → a / d * d ≡ a
div-mul_whole a d e = omega (arith, e, mod-eq-sub-div-mul a d, div-mul-le_self a d)

-- a multiple is another number cut to one exactly where the quotients are equal
pub cut_alike : (a b d : ℕ) → 0 < d → a / d * d ≡ a → nat_eq a (b / d * d) ≡ nat_eq (a / d) (b / d)
cut_alike a b d pos whole = both_ways _ _
    (λ e. let same : a ≡ b / d * d = eqb-true a (b / d * d) e in eq-eqb (a / d) (b / d) (ap (λ x. x / d) same ∙ mul-div_cancel (b / d) pos))
    (λ e. let same : a / d ≡ b / d = eqb-true (a / d) (b / d) e in eq-eqb a (b / d * d) (sym whole ∙ ap (λ x. x * d) same))

-- an address begins as a prefix exactly where it is the prefix's own, cut to the length
pub cut_has_bits : (p : PrefixValue) (bits : ℕ) → IsWhole p → nat_eq p.addr (bits / 2 ^ (width p.family - p.len) * 2 ^ (width p.family - p.len)) ≡ has_bits p bits
cut_has_bits p bits e = cut_alike p.addr bits (2 ^ (width p.family - p.len)) (pow_pos (width p.family - p.len)) (div-mul_whole p.addr (2 ^ (width p.family - p.len)) e.clear)

-- families of one width are equal
pub family_is : (f g : Family) → nat_eq (width f) (width g) ≡ true → f ≡ g
family_is V4 V4 e = refl
family_is V4 V6 e = cc e
family_is V6 V4 e = cc e
family_is V6 V6 e = refl

-- two tests that both hold
pub record AreTrue (a b : Bool) : Type 0 where
  pub left : a ≡ true
  pub right : b ≡ true

pub both : (a b : Bool) → (a && b) ≡ true → AreTrue a b
both true b e = record { left = refl; right = e }
both false b e = cc e

pub both_true : (a b : Bool) → a ≡ true → b ≡ true → (a && b) ≡ true
both_true a b e f = (λ i. e i && b) ∙ f

-- the first of two prefixes is the second one, shortened to its length
pub record IsShortened (q p : PrefixValue) : Type 0 where
  pub len : q.len ≤ p.len
  pub is : q ≡ shortened p q.len

-- what covers a prefix is that prefix shortened
pub covers_to : (q p : PrefixValue) → IsWhole q → covers q p ≡ true → IsShortened q p
covers_to q p e h =
    let k = both _ _ h in
    let m = both _ _ k.right in
    let len : nat_le q.len p.len ≡ true = m.left in
    let f : q.family ≡ p.family = family_is q.family p.family k.left in
    let a : q.addr ≡ p.addr / 2 ^ (width q.family - q.len) * 2 ^ (width q.family - q.len) = eqb-true _ _ (cut_has_bits q p.addr e ∙ m.right) in
    record { len = grind (arith, nat_tests); is = λ i. record { family = f i; addr = (a ∙ ap (λ g. p.addr / 2 ^ (width g - q.len) * 2 ^ (width g - q.len)) f) i; len = q.len } }

-- and each shortened prefix covers it
pub shortened_covers : (p : PrefixValue) (n : ℕ) → n ≤ p.len → covers (shortened p n) p ≡ true
shortened_covers p n h =
    both_true _ _ (eq-eqb (width p.family) (width p.family) refl)
    (both_true (nat_le n p.len) _ (grind (arith, nat_tests))
    (eq-eqb (p.addr / 2 ^ (width p.family - n) * 2 ^ (width p.family - n) / 2 ^ (width p.family - n)) (p.addr / 2 ^ (width p.family - n)) (mul-div_cancel (p.addr / 2 ^ (width p.family - n)) (pow_pos (width p.family - n)))))

-- a number cut to a multiple is no greater than when it is cut to a multiple of a divisor
pub cut_le : (a d k : ℕ) → 0 < d → a / (d * k) * (d * k) ≤ a / d * d
cut_le a d k pos =
    let q = a / (d * k) in
    let turned : q * (d * k) ≡ q * k * d = ap (λ x. q * x) (mul_comm d k) ∙ sym (mul_assoc q k d) in
    let below : q * k * d ≤ a = subst (λ x. x ≤ a) turned (div-mul-le_self a (d * k)) in
    subst (λ x. x ≤ a / d * d) (sym turned) (mul-le-mul_right d (le-div (q * k) a d pos below))

-- a shorter prefix of a prefix has no greater address
pub shortened_le : (p : PrefixValue) (n m : ℕ) → n ≤ m → (shortened p n).addr ≤ (shortened p m).addr
shortened_le p n m le =
    let w = width p.family in
    let sum : w - n ≡ w - m + (w - n - (w - m)) = omega arith in
    let split : 2 ^ (w - n) ≡ 2 ^ (w - m) * 2 ^ (w - n - (w - m)) = ap (λ x. 2 ^ x) sum ∙ pow-add 2 (w - m) (w - n - (w - m)) in
    subst (λ d. p.addr / d * d ≤ p.addr / 2 ^ (w - m) * 2 ^ (w - m)) (sym split) (cut_le p.addr (2 ^ (w - m)) (2 ^ (w - n - (w - m))) (pow_pos (w - m)))

-- and so it comes first
pub shorter_first : (p : PrefixValue) (n m : ℕ) → n < m → prefix_cmp (shortened p n) (shortened p m) ≡ Less
shorter_first p n m lt =
    ap (λ r. ordering_then r (ordering_then (nat_cmp (shortened p n).addr (shortened p m).addr) (nat_cmp n m))) (tied_itself nat_cmp_total (width p.family))
    ∙ by (cases_lt (shortened p n).addr (shortened p m).addr)
  where
    by : ((shortened p n).addr < (shortened p m).addr) ⊎ ((shortened p m).addr ≤ (shortened p n).addr) → ordering_then (nat_cmp (shortened p n).addr (shortened p m).addr) (nat_cmp n m) ≡ Less
    by (inl less) = ap (λ r. ordering_then r (nat_cmp n m)) (sym (nat_cmp_is (shortened p n).addr (shortened p m).addr Less less))
    by (inr more) =
        let same : (shortened p n).addr ≡ (shortened p m).addr = omega (arith, shortened_le p n m (omega (arith, lt))) in
        ap (λ a. ordering_then (nat_cmp a (shortened p m).addr) (nat_cmp n m)) same
        ∙ ap (λ r. ordering_then r (nat_cmp n m)) (tied_itself nat_cmp_total (shortened p m).addr)
        ∙ sym (nat_cmp_is n m Less lt)
