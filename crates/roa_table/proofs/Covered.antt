-- The payloads of the shortened prefixes, one length after the other, are those that cover, and their order.
use Rattle.std.proofs.Common.{◌≡◌, ℕ, zero, suc, ◌<◌, Bool, true, false, cond, ◌||◌, ◌&&◌, List, [], ◌∷◌, refl, sym, ap, subst, ◌∙◌, arith, ◌⊎◌, inl, inr}
use Rattle.std.specs.List.{list_any, list_all, filter}
use Rattle.std.specs.List.Sorted.{IsStrictlySortedBy}
use Rattle.std.specs.declared.cmp.Ordering.TheVariants.{Less}
use Rattle.std.specs.Ordering.{eq_by_cmp, is_lt, nat_cmp, ordering_then}
use Rattle.std.specs.Cmp.{tied_itself, both_ways, nat_cmp_is, nat_cmp_total}
use Rattle.std.proofs.lemmas.List.Folds.{list_any-append}
use Rattle.std.specs.FinMap as fin
use Rattle.net_names.specs.Prefixes.{PrefixValue, prefix_cmp}
use Rattle.net_names.specs.Payloads.{VrpValue, vrp_cmp}
use Rattle.net_names.specs.Orders.{prefix_total, exact_prefix, vrp_total, exact_vrp}
use Rattle.net_names.specs.Coverage.{covers, shortened}
use Rattle.net_names.proofs.Shortening.{IsWhole, both, both_true, covers_to, shortened_covers, shorter_first}
use Rattle.roa_table.specs.Sets.{Payloads, has, items}
use Rattle.roa_table.specs.Lists.{is_rising}
use Rattle.roa_table.specs.Cover.{of_prefix, covering, cover_cmp, rows_below}
use Rattle.roa_table.proofs.Booleans.{either_true, or_left, or_right}
use Rattle.roa_table.proofs.Rising.{eq_is, tie_self, rising_keys, rising_filter, rising_append, strictly_from_rising, same_lists, any_filter}

-- what holds of each member holds of each element
all_members : (p : VrpValue → Bool) (vs : List VrpValue) → ((q : VrpValue) → list_any (eq_by_cmp vrp_cmp q) vs ≡ true → p q ≡ true) → list_all p vs ≡ true
all_members p [] h = refl
all_members p (v ∷ vs) h = both_true _ _ (h v (or_left _ _ (tie_self vrp_total exact_vrp v))) (all_members p vs (λ q e. h q (or_right (eq_by_cmp vrp_cmp q v) _ e)))

module _ (s : Payloads) (p : PrefixValue) where
  -- a payload of a shortened prefix of a length below n
  record IsRowed (q : VrpValue) (n : ℕ) : Type 0 where
    member : has s q ≡ true
    short : q.prefix.len < n
    is : q.prefix ≡ shortened p q.prefix.len

  any_items : (f : VrpValue → Bool) (q : VrpValue) → list_any (eq_by_cmp vrp_cmp q) (filter f (items s)) ≡ (has s q && f q)
  any_items f q = any_filter vrp_total exact_vrp f (items s) q ∙ ap (λ b. b && f q) (sym (fin.contains_key-keys s q))

  -- a payload of one row
  record IsOf (q : VrpValue) (n : ℕ) : Type 0 where
    member : has s q ≡ true
    at : q.prefix ≡ shortened p n

  of_this : (n : ℕ) (q : VrpValue) → list_any (eq_by_cmp vrp_cmp q) (of_prefix s (shortened p n)) ≡ true → IsOf q n
  of_this n q h =
      let k = both _ _ (sym (any_items (λ v. eq_by_cmp prefix_cmp v.prefix (shortened p n)) q) ∙ h) in
      record { member = k.left; at = eq_is prefix_total exact_prefix q.prefix (shortened p n) k.right }

  rowed : (n : ℕ) (q : VrpValue) → list_any (eq_by_cmp vrp_cmp q) (rows_below s p n) ≡ true → IsRowed q n
  rowed zero q h = cc h
  rowed (suc n) q h = by (either_true _ _ (sym (list_any-append (eq_by_cmp vrp_cmp q) (rows_below s p n) (of_prefix s (shortened p n))) ∙ h)) (rowed n q)
    where
      by : (list_any (eq_by_cmp vrp_cmp q) (rows_below s p n) ≡ true) ⊎ (list_any (eq_by_cmp vrp_cmp q) (of_prefix s (shortened p n)) ≡ true) → (list_any (eq_by_cmp vrp_cmp q) (rows_below s p n) ≡ true → IsRowed q n) → IsRowed q (suc n)
      by (inl e) f = let k = f e in record { member = k.member; short = omega (arith, k.short); is = k.is }
      by (inr e) f =
          let k = of_this n q e in
          let l : q.prefix.len ≡ n = ap (λ (b : PrefixValue). b.len) k.at in
          record { member = k.member; short = omega (arith, l); is = k.at ∙ ap (shortened p) (sym l) }

  in_rows : (n : ℕ) (q : VrpValue) → IsRowed q n → list_any (eq_by_cmp vrp_cmp q) (rows_below s p n) ≡ true
  in_rows zero q k = absurd (omega (arith, k.short))
  in_rows (suc n) q k =
      list_any-append (eq_by_cmp vrp_cmp q) (rows_below s p n) (of_prefix s (shortened p n)) ∙ by (cases q.prefix.len n k.short) (in_rows n q)
    where
      cases : (a b : ℕ) → a < suc b → (a < b) ⊎ (a ≡ b)
      cases zero zero h = inr refl
      cases zero (suc b) h = inl (omega arith)
      cases (suc a) zero h = absurd (omega (arith, h))
      cases (suc a) (suc b) h = up (cases a b (omega (arith, h)))
        where
          up : (a < b) ⊎ (a ≡ b) → (suc a < suc b) ⊎ (suc a ≡ suc b)
          up (inl l) = inl (omega (arith, l))
          up (inr e) = inr (ap suc e)

      by : (q.prefix.len < n) ⊎ (q.prefix.len ≡ n) → (IsRowed q n → list_any (eq_by_cmp vrp_cmp q) (rows_below s p n) ≡ true) → (list_any (eq_by_cmp vrp_cmp q) (rows_below s p n) || list_any (eq_by_cmp vrp_cmp q) (of_prefix s (shortened p n))) ≡ true
      by (inl l) f = or_left _ _ (f (record { member = k.member; short = l; is = k.is }))
      by (inr e) f =
          let at : q.prefix ≡ shortened p n = k.is ∙ ap (shortened p) e in
          or_right _ _ (any_items (λ v. eq_by_cmp prefix_cmp v.prefix (shortened p n)) q ∙ both_true _ _ k.member (ap (λ b. eq_by_cmp prefix_cmp b (shortened p n)) at ∙ tie_self prefix_total exact_prefix (shortened p n)))

  row_rising : (n : ℕ) → is_rising vrp_cmp (of_prefix s (shortened p n)) ≡ true
  row_rising n = rising_filter vrp_cmp (λ v. eq_by_cmp prefix_cmp v.prefix (shortened p n)) (items s) (rising_keys vrp_cmp s)

  -- the rows rise in the order of payloads
  rows_rising : (n : ℕ) → is_rising vrp_cmp (rows_below s p n) ≡ true
  rows_rising zero = refl
  rows_rising (suc n) = rising_append vrp_cmp (rows_below s p n) (of_prefix s (shortened p n)) (rows_rising n) (row_rising n)
      (all_members (λ x. list_all (λ y. is_lt (vrp_cmp x y)) (of_prefix s (shortened p n))) (rows_below s p n)
      (λ x h. all_members (λ y. is_lt (vrp_cmp x y)) (of_prefix s (shortened p n))
      (λ y k.
      let a = rowed n x h in
      let b = of_this n y k in
      let first : prefix_cmp x.prefix y.prefix ≡ Less = (λ i. prefix_cmp (a.is i) (b.at i)) ∙ shorter_first p x.prefix.len n a.short in
      ap (λ r. is_lt (ordering_then r (ordering_then (nat_cmp x.max y.max) (nat_cmp x.asn y.asn)))) first)))

  -- where each payload's prefix is one, the rows up to the length are what covers
  pub rows_cover : ((v : VrpValue) → has s v ≡ true → IsWhole v.prefix) → rows_below s p (suc p.len) ≡ covering s p
  rows_cover whole = same_lists vrp_total exact_vrp _ _ (rows_rising (suc p.len)) (rising_filter vrp_cmp (λ v. covers v.prefix p) (items s) (rising_keys vrp_cmp s))
      (λ q. both_ways _ _
      (λ h.
      let k = rowed (suc p.len) q h in
      let c : covers q.prefix p ≡ true = ap (λ b. covers b p) k.is ∙ shortened_covers p q.prefix.len (omega (arith, k.short)) in
      any_items (λ v. covers v.prefix p) q ∙ both_true _ _ k.member c)
      (λ h.
      let k = both _ _ (sym (any_items (λ v. covers v.prefix p) q) ∙ h) in
      let c = covers_to q.prefix p (whole q k.left) k.right in
      in_rows (suc p.len) q (record { member = k.left; short = omega (arith, c.len); is = c.is })))

  -- of two payloads of one prefix the order of payloads is that of the list
  same_row : (v w : VrpValue) → v.prefix ≡ w.prefix → is_lt (vrp_cmp v w) ≡ true → is_lt (cover_cmp v w) ≡ true
  same_row v w e h =
      let rest = ordering_then (nat_cmp v.max w.max) (nat_cmp v.asn w.asn) in
      ap (λ r. is_lt (ordering_then r rest)) (ap (λ (q : PrefixValue). nat_cmp q.len w.prefix.len) e ∙ tied_itself nat_cmp_total w.prefix.len)
      ∙ sym (ap (λ r. is_lt (ordering_then r rest)) (ap (λ q. prefix_cmp q w.prefix) e ∙ tied_itself prefix_total w.prefix))
      ∙ h

  rising_row : (n : ℕ) (vs : List VrpValue) → list_all (λ v. eq_by_cmp prefix_cmp v.prefix (shortened p n)) vs ≡ true → is_rising vrp_cmp vs ≡ true → is_rising cover_cmp vs ≡ true
  rising_row n [] h k = refl
  rising_row n (v ∷ vs) h k =
      let e = both _ _ h in
      let f = both _ _ k in
      both_true _ _ (below v vs (eq_is prefix_total exact_prefix v.prefix (shortened p n) e.left) e.right f.left) (rising_row n vs e.right f.right)
    where
      below : (x : VrpValue) (ws : List VrpValue) → x.prefix ≡ shortened p n → list_all (λ w. eq_by_cmp prefix_cmp w.prefix (shortened p n)) ws ≡ true → list_all (λ w. is_lt (vrp_cmp x w)) ws ≡ true → list_all (λ w. is_lt (cover_cmp x w)) ws ≡ true
      below x [] at g l = refl
      below x (w ∷ ws) at g l =
          let a = both _ _ g in
          let b = both _ _ l in
          both_true _ _ (same_row x w (at ∙ sym (eq_is prefix_total exact_prefix w.prefix (shortened p n) a.left)) b.left) (below x ws at a.right b.right)

  filter_passes : (f : VrpValue → Bool) (vs : List VrpValue) → list_all f (filter f vs) ≡ true
  filter_passes f [] = refl
  filter_passes f (v ∷ vs) = by (f v) refl (filter_passes f vs)
    where
      by : (b : Bool) → f v ≡ b → list_all f (filter f vs) ≡ true → list_all f (cond b (v ∷ filter f vs) (filter f vs)) ≡ true
      by true e h = both_true _ _ e h
      by false e h = h

  -- the rows rise by prefix length, then by maximum length, then by number
  rows_order : (n : ℕ) → is_rising cover_cmp (rows_below s p n) ≡ true
  rows_order zero = refl
  rows_order (suc n) = rising_append cover_cmp (rows_below s p n) (of_prefix s (shortened p n)) (rows_order n)
      (rising_row n (of_prefix s (shortened p n)) (filter_passes (λ v. eq_by_cmp prefix_cmp v.prefix (shortened p n)) (items s)) (row_rising n))
      (all_members (λ x. list_all (λ y. is_lt (cover_cmp x y)) (of_prefix s (shortened p n))) (rows_below s p n)
      (λ x h. all_members (λ y. is_lt (cover_cmp x y)) (of_prefix s (shortened p n))
      (λ y k.
      let a = rowed n x h in
      let b = of_this n y k in
      let lt : x.prefix.len < y.prefix.len = omega (arith, a.short, ap (λ (q : PrefixValue). q.len) b.at) in
      ap (λ r. is_lt (ordering_then r (ordering_then (nat_cmp x.max y.max) (nat_cmp x.asn y.asn)))) (sym (nat_cmp_is x.prefix.len y.prefix.len Less lt)))))

  pub cover_order : ((v : VrpValue) → has s v ≡ true → IsWhole v.prefix) → IsStrictlySortedBy cover_cmp (covering s p)
  cover_order whole = subst (IsStrictlySortedBy cover_cmp) (rows_cover whole) (strictly_from_rising cover_cmp (rows_below s p (suc p.len)) (rows_order (suc p.len)))
