-- A place leaves a list, and joins one.
use Rattle.std.proofs.Common.{◌==◌, ◌≡◌, ◌≢◌, ◌⊎◌, inl, inr, ⊎_elim, ℕ, ◌+◌, ◌<◌, true, false, eqb, Option, Some, None, refl, sym, ◌∙◌, ap, arith, cond}
use Rattle.std.proofs.lemmas.Bool.{cases_eq, cases_Bool, eq-eqb, eqb-true}
use Rattle.data_trace.specs.Lists.{AreLists, Unlinks, LinksFirst, owner_with}

none_some : (x : ℕ) → None ≡ Some x → ⊥
none_some x e = cc

some_same : (x y : ℕ) → Some x ≡ Some y → x ≡ y
some_same x y e = cc

-- whether an option is this number
pub is_this : (o : Option ℕ) (x : ℕ) → (o ≡ Some x) ⊎ (o ≢ Some x)
is_this None x = inr (none_some x)
is_this (Some y) x = ⊎_elim (λ (e : y ≡ x). inl (ap Some e)) (λ (ne : y ≢ x). inr (λ e. ne (some_same y x e))) (cases_eq y x)

pub or_none : (o : Option ℕ) → (o ≡ None) ⊎ ((x : ℕ) × (o ≡ Some x))
or_none None = inl refl
or_none (Some x) = inr (x, refl)

pub owner_same : (owner : ℕ → Option ℕ) (a : ℕ) (o : Option ℕ) → owner_with owner a o a ≡ o
owner_same owner a o = ap (λ b. cond b o (owner a)) (eq-eqb a a refl)

pub eqb_no : (x a : ℕ) → x ≢ a → eqb x a ≡ false
eqb_no x a ne = ⊎_elim (λ (e : eqb x a ≡ true). absurd (ne (eqb-true x a e))) (λ e. e) (cases_Bool (eqb x a))

pub owner_other : (owner : ℕ → Option ℕ) (a x : ℕ) (o : Option ℕ) → x ≢ a → owner_with owner a o x ≡ owner x
owner_other owner a x o ne = ap (λ b. cond b o (owner x)) (eqb_no x a ne)

-- who has an owner after a left is not a, and had it before
left_other : (owner : ℕ → Option ℕ) (a x y : ℕ) → owner_with owner a None x ≡ Some y → (x ≢ a) × (owner x ≡ Some y)
left_other owner a x y e =
    let ne : x ≢ a = λ q. none_some y (sym (owner_same owner a None) ∙ ap (owner_with owner a None) (sym q) ∙ e) in
    (ne, sym (owner_other owner a x None ne) ∙ e)

pub unlinked : (owner first before after first' before' after' : ℕ → Option ℕ) (rank : ℕ → ℕ) (a b : ℕ) → AreLists owner first before after rank → owner a ≡ Some b →
    Unlinks first before after first' before' after' b (before a) (after a) → AreLists (owner_with owner a None) first' before' after' rank
unlinked owner first before after first' before' after' rank a b h oa u = record {
  front = λ x y o n. front x y (left_other owner a x y o) n (is_this (after a) x);
  behind = λ x y q o e. behind x y q (left_other owner a x y o) e (is_this (after a) x);
  starts = λ x y e. starts x y e (or_none (before a));
  goes_on = λ x y z o e. goes_on x y z (left_other owner a x y o) e (is_this (before a) x);
} where
  same_owner : (x y z : ℕ) → owner x ≡ Some y → owner x ≡ Some z → y ≡ z
  same_owner x y z p q = some_same y z (sym p ∙ q)

  keeps : (x y : ℕ) → x ≢ a → owner x ≡ Some y → owner_with owner a None x ≡ Some y
  keeps x y ne o = owner_other owner a x None ne ∙ o

  below_after : (x : ℕ) → after a ≡ Some x → rank a < rank x
  below_after x e = let g : (owner x ≡ Some b) × (before x ≡ Some a) = h.goes_on a b x oa e in (h.behind x b a g.0 g.1).2

  front : (x y : ℕ) → (x ≢ a) × (owner x ≡ Some y) → before' x ≡ None → (after a ≡ Some x) ⊎ (after a ≢ Some x) → first' y ≡ Some x
  front x y o n (inl e) =
      let p : before a ≡ None = sym (u.before_c x e) ∙ n in
      let yb : y ≡ b = same_owner x y b o.1 (h.goes_on a b x oa e).0 in
      ap first' yb ∙ u.first_b p ∙ e
  front x y o n (inr ne) =
      let f : first y ≡ Some x = h.front x y o.1 (sym (u.before_other x ne) ∙ n) in
      u.first_other y (λ p q. o.0 (some_same x a (sym f ∙ ap first q ∙ h.front a b oa p))) ∙ f

  behind : (x y q : ℕ) → (x ≢ a) × (owner x ≡ Some y) → before' x ≡ Some q → (after a ≡ Some x) ⊎ (after a ≢ Some x) → (owner_with owner a None q ≡ Some y) × (after' q ≡ Some x) × (rank q < rank x)
  behind x y q o e (inl c) =
      let p : before a ≡ Some q = sym (u.before_c x c) ∙ e in
      let k : (owner q ≡ Some b) × (after q ≡ Some a) × (rank q < rank a) = h.behind a b q oa p in
      let yb : b ≡ y = same_owner x b y (h.goes_on a b x oa c).0 o.1 in
      let ne : q ≢ a = λ r. absurd (omega (arith, k.2, ap rank r)) in
      (keeps q y ne (k.0 ∙ ap Some yb), u.after_p q p ∙ c, omega (arith, k.2, below_after x c))
  behind x y q o e (inr c) =
      let k : (owner q ≡ Some y) × (after q ≡ Some x) × (rank q < rank x) = h.behind x y q o.1 (sym (u.before_other x c) ∙ e) in
      let ne : q ≢ a = λ r. c (ap after (sym r) ∙ k.1) in
      let np : before a ≢ Some q = λ r. o.0 (some_same x a (sym k.1 ∙ (h.behind a b q oa r).1)) in
      (keeps q y ne k.0, u.after_other q np ∙ k.1, k.2)

  starts : (x y : ℕ) → first' y ≡ Some x → (before a ≡ None) ⊎ ((p : ℕ) × (before a ≡ Some p)) → (owner_with owner a None x ≡ Some y) × (before' x ≡ None)
  starts x y e (inl p) = by (cases_eq y b)
    where
      by : (y ≡ b) ⊎ (y ≢ b) → (owner_with owner a None x ≡ Some y) × (before' x ≡ None)
      by (inl q) =
          let c : after a ≡ Some x = sym (u.first_b p) ∙ ap first' (sym q) ∙ e in
          let ne : x ≢ a = λ r. absurd (omega (arith, below_after x c, ap rank r)) in
          (keeps x y ne ((h.goes_on a b x oa c).0 ∙ ap Some (sym q)), u.before_c x c ∙ p)
      by (inr q) =
          let k : (owner x ≡ Some y) × (before x ≡ None) = h.starts x y (sym (u.first_other y (λ r. q)) ∙ e) in
          let ne : x ≢ a = λ r. q (same_owner a y b (ap owner (sym r) ∙ k.0) oa) in
          let nc : after a ≢ Some x = λ c. none_some a (sym k.1 ∙ (h.goes_on a b x oa c).1) in
          (keeps x y ne k.0, u.before_other x nc ∙ k.1)
  starts x y e (inr p) =
      let k : (owner x ≡ Some y) × (before x ≡ None) = h.starts x y (sym (u.first_other y (λ r. absurd (none_some p.0 (sym r ∙ p.1)))) ∙ e) in
      let ne : x ≢ a = λ r. none_some p.0 (sym k.1 ∙ ap before r ∙ p.1) in
      let nc : after a ≢ Some x = λ c. none_some a (sym k.1 ∙ (h.goes_on a b x oa c).1) in
      (keeps x y ne k.0, u.before_other x nc ∙ k.1)

  goes_on : (x y z : ℕ) → (x ≢ a) × (owner x ≡ Some y) → after' x ≡ Some z → (before a ≡ Some x) ⊎ (before a ≢ Some x) → (owner_with owner a None z ≡ Some y) × (before' z ≡ Some x)
  goes_on x y z o e (inl p) =
      let c : after a ≡ Some z = sym (u.after_p x p) ∙ e in
      let yb : b ≡ y = same_owner x b y (h.behind a b x oa p).0 o.1 in
      let ne : z ≢ a = λ r. absurd (omega (arith, below_after z c, ap rank r)) in
      (keeps z y ne ((h.goes_on a b z oa c).0 ∙ ap Some yb), u.before_c z c ∙ p)
  goes_on x y z o e (inr p) =
      let k : (owner z ≡ Some y) × (before z ≡ Some x) = h.goes_on x y z o.1 (sym (u.after_other x p) ∙ e) in
      let ne : z ≢ a = λ r. p (ap before (sym r) ∙ k.1) in
      let nc : after a ≢ Some z = λ c. o.0 (some_same x a (sym k.1 ∙ (h.goes_on a b z oa c).1)) in
      (keeps z y ne k.0, u.before_other z nc ∙ k.1)

abbrev pub rank_with : (ℕ → ℕ) → ℕ → ℕ → ℕ
rank_with rank a x = cond (x == a) 0 (rank x + 1)

rank_same : (rank : ℕ → ℕ) (a : ℕ) → rank_with rank a a ≡ 0
rank_same rank a = let z : ℕ = 0 in ap (λ b. cond b z (rank a + 1)) (eq-eqb a a refl)

rank_other : (rank : ℕ → ℕ) (a x : ℕ) → x ≢ a → rank_with rank a x ≡ rank x + 1
rank_other rank a x ne = let z : ℕ = 0 in ap (λ b. cond b z (rank x + 1)) (eqb_no x a ne)

pub linked : (owner first before after first' before' after' : ℕ → Option ℕ) (rank : ℕ → ℕ) (a b : ℕ) → AreLists owner first before after rank → owner a ≡ None →
    LinksFirst first before after first' before' after' a b (first b) → AreLists (owner_with owner a (Some b)) first' before' after' (rank_with rank a)
linked owner first before after first' before' after' rank a b h oa u = record {
  front = λ x y o n. front x y o n (cases_eq x a) (is_this (first b) x);
  behind = λ x y q o e. behind x y q o e (cases_eq x a) (is_this (first b) x);
  starts = λ x y e. starts x y e (cases_eq y b);
  goes_on = λ x y z o e. goes_on x y z o e (cases_eq x a);
} where
  not_a : (x y : ℕ) → owner x ≡ Some y → x ≢ a
  not_a x y o e = none_some y (sym oa ∙ ap owner (sym e) ∙ o)

  old : (x y : ℕ) → x ≢ a → owner_with owner a (Some b) x ≡ Some y → owner x ≡ Some y
  old x y ne o = sym (owner_other owner a x (Some b) ne) ∙ o

  keeps : (x y : ℕ) → owner x ≡ Some y → owner_with owner a (Some b) x ≡ Some y
  keeps x y o = owner_other owner a x (Some b) (not_a x y o) ∙ o

  here : (x y : ℕ) → x ≡ a → owner_with owner a (Some b) x ≡ Some y → b ≡ y
  here x y e o = some_same b y (sym (owner_same owner a (Some b)) ∙ ap (owner_with owner a (Some b)) (sym e) ∙ o)

  first_not_a : first b ≢ Some a
  first_not_a e = none_some b (sym oa ∙ (h.starts a b e).0)

  front : (x y : ℕ) → owner_with owner a (Some b) x ≡ Some y → before' x ≡ None → (x ≡ a) ⊎ (x ≢ a) → (first b ≡ Some x) ⊎ (first b ≢ Some x) → first' y ≡ Some x
  front x y o n (inl e) w = ap first' (sym (here x y e o)) ∙ u.first_b ∙ ap Some (sym e)
  front x y o n (inr ne) (inl c) = absurd (none_some a (sym n ∙ u.before_c x c))
  front x y o n (inr ne) (inr c) =
      let f : first y ≡ Some x = h.front x y (old x y ne o) (sym (u.before_other x ne c) ∙ n) in
      u.first_other y (λ q. c (ap first (sym q) ∙ f)) ∙ f

  behind : (x y q : ℕ) → owner_with owner a (Some b) x ≡ Some y → before' x ≡ Some q → (x ≡ a) ⊎ (x ≢ a) → (first b ≡ Some x) ⊎ (first b ≢ Some x) → (owner_with owner a (Some b) q ≡ Some y) × (after' q ≡ Some x) × (rank_with rank a q < rank_with rank a x)
  behind x y q o e (inl s) w = absurd (none_some q (sym (u.before_a first_not_a) ∙ ap before' (sym s) ∙ e))
  behind x y q o e (inr ne) (inl c) =
      let qa : a ≡ q = some_same a q (sym (u.before_c x c) ∙ e) in
      let by : b ≡ y = some_same b y (sym (h.starts x b c).0 ∙ old x y ne o) in (
        ap (owner_with owner a (Some b)) (sym qa) ∙ owner_same owner a (Some b) ∙ ap Some by,
        ap after' (sym qa) ∙ u.after_a ∙ c,
        omega (arith, rank_same rank a, rank_other rank a x ne, ap (rank_with rank a) qa),
      )
  behind x y q o e (inr ne) (inr c) =
      let k : (owner q ≡ Some y) × (after q ≡ Some x) × (rank q < rank x) = h.behind x y q (old x y ne o) (sym (u.before_other x ne c) ∙ e) in
      (keeps q y k.0, u.after_other q (not_a q y k.0) ∙ k.1, omega (arith, k.2, rank_other rank a q (not_a q y k.0), rank_other rank a x ne))

  starts : (x y : ℕ) → first' y ≡ Some x → (y ≡ b) ⊎ (y ≢ b) → (owner_with owner a (Some b) x ≡ Some y) × (before' x ≡ None)
  starts x y e (inl q) =
      let xa : a ≡ x = some_same a x (sym u.first_b ∙ ap first' (sym q) ∙ e) in
      (ap (owner_with owner a (Some b)) (sym xa) ∙ owner_same owner a (Some b) ∙ ap Some (sym q), ap before' (sym xa) ∙ u.before_a first_not_a)
  starts x y e (inr q) =
      let k : (owner x ≡ Some y) × (before x ≡ None) = h.starts x y (sym (u.first_other y q) ∙ e) in
      (keeps x y k.0, u.before_other x (not_a x y k.0) (λ c. q (some_same y b (sym k.0 ∙ (h.starts x b c).0))) ∙ k.1)

  goes_on : (x y z : ℕ) → owner_with owner a (Some b) x ≡ Some y → after' x ≡ Some z → (x ≡ a) ⊎ (x ≢ a) → (owner_with owner a (Some b) z ≡ Some y) × (before' z ≡ Some x)
  goes_on x y z o e (inl s) =
      let c : first b ≡ Some z = sym u.after_a ∙ ap after' (sym s) ∙ e in
      (keeps z y ((h.starts z b c).0 ∙ ap Some (here x y s o)), u.before_c z c ∙ ap Some (sym s))
  goes_on x y z o e (inr ne) =
      let k : (owner z ≡ Some y) × (before z ≡ Some x) = h.goes_on x y z (old x y ne o) (sym (u.after_other x ne) ∙ e) in
      (keeps z y k.0, u.before_other z (not_a z y k.0) (λ c. none_some x (sym (h.starts z b c).1 ∙ k.1)) ∙ k.1)
