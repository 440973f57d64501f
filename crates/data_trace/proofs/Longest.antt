-- The longest of a list of prefixes is in it, and no other one is longer.
use Rattle.std.proofs.Common.{◌≡◌, ◌⊎◌, inl, inr, ⊎_elim, zero, suc, ◌≤◌, Bool, true, false, ltb, Option, Some, None, List, [], ◌∷◌, refl, sym, ◌∙◌, ap, subst, cond, arith, true≢false}
use Rattle.std.specs.Prelude.{fold, filter, nat_lt, if◌then◌else◌}
use Rattle.std.specs.List.{Contains, reduce}
use Rattle.std.proofs.lemmas.Bool.{cases_Bool, ltb-true, ltb-false}
use Rattle.net_names.specs.Prefixes.{PrefixValue}

-- the longer of two prefixes, the first where they are equally long
abbrev pub longer_of : PrefixValue → PrefixValue → PrefixValue
longer_of p q = if nat_lt p.len q.len then q else p

-- the longer of the longest so far, if there is one, and a further prefix
abbrev pub longer : Option PrefixValue → PrefixValue → Option PrefixValue
longer None q = Some q
longer (Some p) q = Some (longer_of p q)

reduced_from : (p : PrefixValue) (ps : List PrefixValue) → fold longer (Some p) ps ≡ Some (fold longer_of p ps)
reduced_from p [] = refl
reduced_from p (q ∷ ps) = reduced_from (longer_of p q) ps

-- the longest of a list is found one after the other
pub reduced : (ps : List PrefixValue) → fold longer None ps ≡ reduce longer_of ps
reduced [] = refl
reduced (p ∷ ps) = reduced_from p ps

-- the longest so far stays or gives way to a longer prefix
stays : (acc : Option PrefixValue) (x : PrefixValue) →
    ((longer acc x ≡ Some x) × ((q : PrefixValue) → acc ≡ Some q → q.len ≤ x.len)) ⊎ ((r : PrefixValue) × (acc ≡ Some r) × (longer acc x ≡ Some r) × (x.len ≤ r.len))
stays None x = inl (refl, λ q e. absurd (let k : None ≡ Some q = e in cc))
stays (Some r) x = ⊎_elim shorter other (cases_Bool (ltb r.len x.len))
  where
    shorter : ltb r.len x.len ≡ true → ((longer (Some r) x ≡ Some x) × ((q : PrefixValue) → Some r ≡ Some q → q.len ≤ x.len)) ⊎ ((s : PrefixValue) × (Some r ≡ Some s) × (longer (Some r) x ≡ Some s) × (x.len ≤ s.len))
    shorter e = inl (ap (λ b. Some (cond b x r)) e, λ q h. let k : r ≡ q = cc in subst (λ (t : PrefixValue). t.len ≤ x.len) k (omega (arith, ltb-true r.len x.len e)))

    other : ltb r.len x.len ≡ false → ((longer (Some r) x ≡ Some x) × ((q : PrefixValue) → Some r ≡ Some q → q.len ≤ x.len)) ⊎ ((s : PrefixValue) × (Some r ≡ Some s) × (longer (Some r) x ≡ Some s) × (x.len ≤ s.len))
    other e = inr (r, refl, ap (λ b. Some (cond b x r)) e, ltb-false r.len x.len e)

first_or_later : (x q : PrefixValue) (ps : List PrefixValue) → Contains (x ∷ ps) q → (x ≡ q) ⊎ Contains ps q
first_or_later x q ps (zero, l, e) = inl e
first_or_later x q ps (suc k, l, e) = inr (k, omega arith, e)

later : (x q : PrefixValue) (ps : List PrefixValue) → Contains ps q → Contains (x ∷ ps) q
later x q ps (k, l, e) = (suc k, omega arith, e)

first : (x : PrefixValue) (ps : List PrefixValue) → Contains (x ∷ ps) x
first x ps = (0, omega arith, refl)

module _ (F : PrefixValue → Bool) where
  -- what is found is the start or a prefix that passes, and is as long as each of them
  pub record IsBestOf (ps : List PrefixValue) (acc : Option PrefixValue) (p : PrefixValue) : Type 0 where
    pub among : (acc ≡ Some p) ⊎ (Contains ps p × (F p ≡ true))
    pub start : (q : PrefixValue) → acc ≡ Some q → q.len ≤ p.len
    pub each : (q : PrefixValue) → Contains ps q → F q ≡ true → q.len ≤ p.len

  best_from : (ps : List PrefixValue) (acc : Option PrefixValue) (p : PrefixValue) → fold longer acc (filter F ps) ≡ Some p → IsBestOf ps acc p
  best_from [] acc p e = record {
    among = inl e;
    start = λ q h. let k : Some q ≡ Some p = sym h ∙ e in let s : q ≡ p = cc in subst (λ (t : PrefixValue). q.len ≤ t.len) s (omega arith);
    each = λ q h t. absurd (omega (arith, h.1));
  }
  best_from (x ∷ ps) acc p e = by (F x) refl e (λ acc' h. best_from ps acc' p h)
    where
      taken : F x ≡ true → IsBestOf ps (longer acc x) p →
          ((longer acc x ≡ Some x) × ((q : PrefixValue) → acc ≡ Some q → q.len ≤ x.len)) ⊎ ((r : PrefixValue) × (acc ≡ Some r) × (longer acc x ≡ Some r) × (x.len ≤ r.len)) → IsBestOf (x ∷ ps) acc p
      taken t b (inl s) = record {
        among = ⊎_elim (λ (h : longer acc x ≡ Some p). let k : Some x ≡ Some p = sym s.0 ∙ h in let q : x ≡ p = cc in inr (subst (λ u. Contains (x ∷ ps) u × (F u ≡ true)) q (first x ps, t))) (λ h. inr (later x p ps h.0, h.1)) b.among;
        start = λ q h. omega (arith, s.1 q h, b.start x s.0);
        each = λ q c u. ⊎_elim (λ (k : x ≡ q). subst (λ (v : PrefixValue). v.len ≤ p.len) k (b.start x s.0)) (λ c. b.each q c u) (first_or_later x q ps c);
      }
      taken t b (inr s) = record {
        among = ⊎_elim (λ (h : longer acc x ≡ Some p). inl (s.1 ∙ sym s.2 ∙ h)) (λ h. inr (later x p ps h.0, h.1)) b.among;
        start = λ q h. b.start q (s.2 ∙ sym s.1 ∙ h);
        each = λ q c u. ⊎_elim (λ (k : x ≡ q). subst (λ (v : PrefixValue). v.len ≤ p.len) k (omega (arith, s.3, b.start s.0 s.2))) (λ c. b.each q c u) (first_or_later x q ps c);
      }

      by : (v : Bool) → F x ≡ v → fold longer acc (cond v (x ∷ filter F ps) (filter F ps)) ≡ Some p → ((acc' : Option PrefixValue) → fold longer acc' (filter F ps) ≡ Some p → IsBestOf ps acc' p) → IsBestOf (x ∷ ps) acc p
      by true t e go = taken t (go (longer acc x) e) (stays acc x)
      by false t e go = let b : IsBestOf ps acc p = go acc e in record {
        among = ⊎_elim (λ h. inl h) (λ h. inr (later x p ps h.0, h.1)) b.among;
        start = b.start;
        each = λ q c u. ⊎_elim (λ (k : x ≡ q). absurd (true≢false (sym u ∙ ap F (sym k) ∙ t))) (λ c. b.each q c u) (first_or_later x q ps c);
      }

  pub best_of : (ps : List PrefixValue) (p : PrefixValue) → reduce longer_of (filter F ps) ≡ Some p → IsBestOf ps None p
  best_of ps p e = best_from ps None p (reduced (filter F ps) ∙ e)

  -- from something on, something is found
  found : (ps : List PrefixValue) (r : PrefixValue) → (p : PrefixValue) × (fold longer (Some r) (filter F ps) ≡ Some p)
  found [] r = (r, refl)
  found (x ∷ ps) r = by (F x) (λ s. found ps s)
    where
      by : (v : Bool) → ((s : PrefixValue) → (p : PrefixValue) × (fold longer (Some s) (filter F ps) ≡ Some p)) → (p : PrefixValue) × (fold longer (Some r) (cond v (x ∷ filter F ps) (filter F ps)) ≡ Some p)
      by false go = go r
      by true go = ⊎_elim (λ s. let q = go x in (q.0, ap (λ t. fold longer t (filter F ps)) s.0 ∙ q.1)) (λ s. let q = go s.0 in (q.0, ap (λ t. fold longer t (filter F ps)) s.2 ∙ q.1)) (stays (Some r) x)

  -- where nothing is found, no prefix passes
  none_from : (ps : List PrefixValue) → fold longer None (filter F ps) ≡ None → (q : PrefixValue) → Contains ps q → F q ≡ true → ⊥
  none_from [] e q c t = absurd (omega (arith, c.1))
  none_from (x ∷ ps) e q c t = by (F x) refl e (λ h k. none_from ps h q k t)
    where
      by : (v : Bool) → F x ≡ v → fold longer None (cond v (x ∷ filter F ps) (filter F ps)) ≡ None → (fold longer None (filter F ps) ≡ None → Contains ps q → ⊥) → ⊥
      by true u e go = let p = found ps x in (let k : None ≡ Some p.0 = sym e ∙ p.1 in cc)
      by false u e go = ⊎_elim (λ (k : x ≡ q). true≢false (sym t ∙ ap F (sym k) ∙ u)) (λ k. go e k) (first_or_later x q ps c)

  pub none_of : (ps : List PrefixValue) → reduce longer_of (filter F ps) ≡ None → (q : PrefixValue) → Contains ps q → F q ≡ true → ⊥
  none_of ps e q c t = none_from ps (reduced (filter F ps) ∙ e) q c t
