-- The stages of the giving of ranks.
use Rattle.std.proofs.Common.{◌≡◌, ◌≢◌, inl, inr, ℕ, zero, suc, ◌+◌, ◌-◌, ◌<◌, ◌≤◌, true, false, nat_lt, cond, Some, None, List, [], ◌∷◌, ◌++◌, length, get_or, set, take, drop, replicate, refl, sym, ◌∙◌, ap, subst, arith, get_or-set_other}
use Rattle.std.proofs.lemmas.Bool.{cases_Bool, cases_lt, cases_eq, lt-ltb, le-ltb}
use Rattle.std.proofs.lemmas.List.{length_push, length-take-le, drop_more, get_or_append_left, get_or_push, take-append-le, get_or_past, length-replicate, get_or-replicate}
use Rattle.std.proofs.lemmas.Grind.{get_or-set_at}
use Rattle.std.specs.List.Sorted.{IsNonDecreasingBy}
use Rattle.net_names.specs.Numbers.{occurs, IsDistinct}
use Rattle.net_names.specs.declared.routes.Rel.TheVariants.{Customer}
use Rattle.as_graph.specs.Hierarchy.{RankFits}
use Rattle.cycle_check.specs.Rows.{relation_by}
use Rattle.cycle_check.specs.Stages.{waiting, IsStage, IsNotifying, freed, AreFree}
use Rattle.cycle_check.specs.Ways.{AllLeftBelow}
use Rattle.cycle_check.proofs.Descents.{occurs_push, occurs_before, occurs_last, distinct_push}
use Rattle.cycle_check.proofs.Listing.{occurs_head, occurs_rest, occurs_cons, occurs_get, occurs_take, take_occurs, take_step, take_before, take_here, not_before, distinct_below}
use Rattle.cycle_check.proofs.Tallies.{cases_pos, times_same, waiting_some, waiting_done, times_other}

-- ---- the first stage

abbrev pub zeros : ℕ → List ℕ
zeros n = replicate n 0

pub length-zeros : (n : ℕ) → length (zeros n) ≡ n
length-zeros n = let zero : ℕ = 0 in length-replicate n zero

pub zeros_get : (n p : ℕ) → get_or (zeros n) p 0 ≡ 0
zeros_get n p =
    let zero : ℕ = 0 in
    elim (cases_lt p n) [
      | inl less ↦ get_or-replicate n p zero zero less
      | inr past ↦ get_or_past (replicate n zero) p zero (omega (arith, past, length-replicate n zero))
    ]

pub first_stage : (rows : ℕ → List ℕ) (n : ℕ) (counts order : List ℕ) → ((p : ℕ) → p < n → get_or counts p 0 ≡ waiting rows [] p n) → AreFree counts order n → IsStage rows n counts (zeros n) order [] []
first_stage rows n counts order counted free = record {
  counted = λ p h. (let c = counted p h in omega (arith, c));
  ended = free.ended;
  listed = free.listed;
  apart = free.apart;
  among = λ b o. cc;
  above = λ b p o there. cc;
  reached = λ p. inl (zeros_get n p);
  small = λ p. (let z = zeros_get n p in omega (arith, z));
  rising = λ i j d le lt. (let a = zeros_get n (get_or order i d) in let b = zeros_get n (get_or order j d) in omega (arith, a, b));
}

-- ---- a place begins to notify

module _ (rows : ℕ → List ℕ) (n : ℕ) (counts ranks order : List ℕ) where
  -- there are no more places in the order than there are places
  pub order_few : (done rest : List ℕ) → IsStage rows n counts ranks order done rest → length order ≤ n
  order_few done rest s = distinct_below n order s.apart (λ x o. (s.ended x o).0)

  module _ (h : ℕ) (less : h < length order) (s : IsStage rows n counts ranks order (take h order) []) where
    b : ℕ
    b = get_or order h 0

    pub head_inside : get_or order h 0 < n
    head_inside = (s.ended (get_or order h 0) (occurs_get order h 0 less)).0

    same_done : (a : ℕ) → a ≢ get_or order h 0 → occurs a (take (h + 1) order) ≡ occurs a (take h order)
    same_done a ne = elim (cases_Bool (occurs a (take h order))) [
      | inl e ↦ (let more = take_before h a order less e in cc)
      | inr e ↦ (elim (cases_Bool (occurs a (take (h + 1) order))) [
        | inl f ↦ (elim (take_step h a order less f) [ inl there ↦ cc | inr is ↦ absurd (ne (sym is)) ])
        | inr f ↦ cc
      ])
    ]

    taken : length (take h order) ≡ h
    taken = length-take-le h order (omega arith)

    taken_more : length (take (h + 1) order) ≡ h + 1
    taken_more = length-take-le (h + 1) order (omega arith)

    high : (a : ℕ) → occurs a (take (h + 1) order) ≡ true → get_or ranks a 0 ≤ get_or ranks (get_or order h 0) 0
    high a o =
        let (i, low, inside, is) = occurs_take (h + 1) a order o in
        subst (λ t. get_or ranks t 0 ≤ get_or ranks (get_or order h 0) 0) is (s.rising i h 0 (omega (arith, low)) less)

    pub begun_stage : IsStage rows n counts ranks order (take (h + 1) order) (rows (get_or order h 0))
    begun_stage = record {
      counted = λ p l. (
          let old = s.counted p l in
          let step = waiting_done rows (take h order) (take (h + 1) order) (get_or order h 0) p (not_before h order s.apart less) (take_here h order less) same_done n head_inside in
          omega (arith, old, step));
      ended = s.ended;
      listed = s.listed;
      apart = s.apart;
      among = λ a o. take_occurs (h + 1) a order o;
      above = λ a p d o. elim (take_step h a order less d) [
        | inl old ↦ (elim (s.above a p old o) [ inl none ↦ cc | inr le ↦ inr le ])
        | inr is ↦ inl (subst (λ t. occurs p (rows t) ≡ true) (sym is) o)
      ];
      reached = λ p. elim (s.reached p) [
        | inl e ↦ inl e
        | inr (a, d, o, e) ↦ inr (a, take_before h a order less d, o, e)
      ];
      small = λ p. (let old = s.small p in omega (arith, old, taken, taken_more));
      rising = s.rising;
    }

    pub begun_notifying : IsNotifying rows ranks (take (h + 1) order) (rows (get_or order h 0)) (get_or order h 0) (get_or ranks (get_or order h 0) 0)
    begun_notifying = record {
      own = λ p o. o;
      here = take_here h order less;
      rank = refl;
      high = high;
      low = λ p. elim (s.reached p) [
        | inl e ↦ omega (arith, e)
        | inr (a, d, o, e) ↦ (let top = high a (take_before h a order less d) in omega (arith, top, e))
      ];
      room = (let old = s.small (get_or order h 0) in omega (arith, old, taken, taken_more));
    }

-- ---- a provider is notified

occurs_freed : (c : ℕ) (order : List ℕ) (p q : ℕ) → occurs p order ≡ true → occurs p (freed c order q) ≡ true
occurs_freed zero order p q o = occurs_before p order q o
occurs_freed (suc c) order p q o = o

module _ (rows : ℕ → List ℕ) (n : ℕ) (counts ranks order done : List ℕ) (q : ℕ) (rest : List ℕ) (s : IsStage rows n counts ranks order done (q ∷ rest)) (inside : q < n) where
  waits : 0 < get_or counts q 0
  waits = let c = s.counted q inside in let t = times_same q q rest refl in omega (arith, c, t)

  not_ended : occurs q order ≡ false
  not_ended = elim (cases_Bool (occurs q order)) [
    | inl e ↦ (let none = (s.ended q e).1 in let some = waits in absurd (omega (arith, none, some)))
    | inr e ↦ e
  ]

  apart_from : (a : ℕ) → occurs a order ≡ true → a ≢ q
  apart_from a o e = let there : occurs q order ≡ true = subst (λ t. occurs t order ≡ true) e o in let away = not_ended in cc

  module _ (counted : length counts ≡ n) (ranked : length ranks ≡ n) (b r : ℕ) (t : IsNotifying rows ranks done (q ∷ rest) b r) (k : ℕ) (one_more : k ≡ suc r) where
    here : (p : ℕ) → p ≡ q → get_or (set ranks q k) p 0 ≡ k
    here p e = get_or-set_at ranks q p k 0 e (omega (arith, inside, ranked))

    other : (p : ℕ) → p ≢ q → get_or (set ranks q k) p 0 ≡ get_or ranks p 0
    other p ne = get_or-set_other ranks q p k 0 ne

    of_done : (a : ℕ) → occurs a done ≡ true → get_or (set ranks q k) a 0 ≡ get_or ranks a 0
    of_done a d = other a (apart_from a (s.among a d))

    rising_kept : IsNonDecreasingBy (λ x. get_or (set ranks q k) x 0) order
    rising_kept i j d le lt =
        let x = other (get_or order i d) (apart_from (get_or order i d) (occurs_get order i d (omega (arith, le, lt)))) in
        let y = other (get_or order j d) (apart_from (get_or order j d) (occurs_get order j d lt)) in
        let old = s.rising i j d le lt in
        omega (arith, x, y, old)

    rising_push : IsNonDecreasingBy (λ x. get_or (set ranks q k) x 0) (order ++ q ∷ [])
    rising_push i j d le lt = elim (cases_lt j (length order)) [
      | inl low ↦ (
          let x : get_or (order ++ q ∷ []) i d ≡ get_or order i d = get_or_append_left order (q ∷ []) d i (omega (arith, low, le)) in
          let y : get_or (order ++ q ∷ []) j d ≡ get_or order j d = get_or_append_left order (q ∷ []) d j low in
          rw (x, y) (rising_kept i j d le low))
      | inr past ↦ (
          let y : get_or (order ++ q ∷ []) j d ≡ q = get_or_push order q d j (omega (arith, past, lt, length_push order q)) in
          let top = here (get_or (order ++ q ∷ []) j d) y in
          elim (cases_lt i (length order)) [
            | inl low ↦ (
                let x : get_or (order ++ q ∷ []) i d ≡ get_or order i d = get_or_append_left order (q ∷ []) d i low in
                let value = other (get_or order i d) (apart_from (get_or order i d) (occurs_get order i d low)) in
                let same : get_or (set ranks q k) (get_or (order ++ q ∷ []) i d) 0 ≡ get_or (set ranks q k) (get_or order i d) 0 = ap (λ v. get_or (set ranks q k) v 0) x in
                let most = t.low (get_or order i d) in
                omega (arith, same, value, most, top, one_more))
            | inr far ↦ (
                let x : get_or (order ++ q ∷ []) i d ≡ q = get_or_push order q d i (omega (arith, far, le, lt, length_push order q)) in
                let bottom = here (get_or (order ++ q ∷ []) i d) x in
                omega (arith, bottom, top))
          ])
    ]

    freed_ended : (c : ℕ) → (p : ℕ) → occurs p (freed c order q) ≡ true → (p < n) × (get_or (set counts q c) p 0 ≡ 0)
    freed_ended zero p o = elim (occurs_push p order q o) [
      | inl old ↦ ((s.ended p old).0, get_or-set_other counts q p 0 0 (apart_from p old) ∙ (s.ended p old).1)
      | inr e ↦ (subst (λ x. x < n) e inside, get_or-set_at counts q p 0 0 (sym e) (omega (arith, inside, counted)))
    ]
    freed_ended (suc c) p o = ((s.ended p o).0, get_or-set_other counts q p (suc c) 0 (apart_from p o) ∙ (s.ended p o).1)

    freed_listed : (c : ℕ) → (p : ℕ) → p < n → get_or (set counts q c) p 0 ≡ 0 → occurs p (freed c order q) ≡ true
    freed_listed c p l none = elim (cases_eq p q) [
      | inl e ↦ at c (sym (get_or-set_at counts q p c 0 e (omega (arith, inside, counted))) ∙ none) e
      | inr ne ↦ occurs_freed c order p q (s.listed p l (sym (get_or-set_other counts q p c 0 ne) ∙ none))
    ]
      where
        at : (c : ℕ) → c ≡ 0 → p ≡ q → occurs p (freed c order q) ≡ true
        at zero z e = subst (λ x. occurs x (order ++ q ∷ []) ≡ true) (sym e) (occurs_last order q)
        at (suc c) z e = absurd (omega (arith, z))

    freed_apart : (c : ℕ) → IsDistinct (freed c order q)
    freed_apart zero = distinct_push order q s.apart not_ended
    freed_apart (suc c) = s.apart

    freed_rising : (c : ℕ) → IsNonDecreasingBy (λ x. get_or (set ranks q k) x 0) (freed c order q)
    freed_rising zero = rising_push
    freed_rising (suc c) = rising_kept

    pub notified_stage : (c : ℕ) → c ≡ get_or counts q 0 - 1 → IsStage rows n (set counts q c) (set ranks q k) (freed c order q) done rest
    notified_stage c less = record {
      counted = λ p l. elim (cases_eq p q) [
        | inl e ↦ (
            let at = get_or-set_at counts q p c 0 e (omega (arith, inside, counted)) in
            let old = s.counted p l in
            let of : get_or counts p 0 ≡ get_or counts q 0 = ap (λ x. get_or counts x 0) e in
            let one = times_same p q rest (sym e) in
            omega (arith, at, old, of, one, less))
        | inr ne ↦ (
            let at = get_or-set_other counts q p c 0 ne in
            let old = s.counted p l in
            let none = times_other p q rest (λ e. ne (sym e)) in
            omega (arith, at, old, none))
      ];
      ended = freed_ended c;
      listed = freed_listed c;
      apart = freed_apart c;
      among = λ a d. occurs_freed c order a q (s.among a d);
      above = λ a p d o. (
          let of = of_done a d in
          elim (cases_eq p q) [
            | inl e ↦ (let top = t.high a d in let value = here p e in inr (omega (arith, of, top, value, one_more)))
            | inr ne ↦ (elim (s.above a p d o) [
              | inl left ↦ (elim (occurs_cons p q rest left) [ inl e ↦ absurd (ne (sym e)) | inr there ↦ inl there ])
              | inr le ↦ (let value = other p ne in inr (omega (arith, of, value, le)))
            ])
          ]);
      reached = λ p. elim (cases_eq p q) [
        | inl e ↦ (
            let value = here p e in
            let of = of_done b t.here in
            let own : occurs p (rows b) ≡ true = subst (λ x. occurs x (rows b) ≡ true) (sym e) (t.own q (occurs_head q rest)) in
            let is = t.rank in
            inr (b, t.here, own, omega (arith, value, of, is, one_more)))
        | inr ne ↦ (elim (s.reached p) [
          | inl e ↦ inl (other p ne ∙ e)
          | inr (a, d, o, e) ↦ (let of = of_done a d in let value = other p ne in inr (a, d, o, omega (arith, value, of, e)))
        ])
      ];
      small = λ p. elim (cases_eq p q) [
        | inl e ↦ (let value = here p e in let room = t.room in omega (arith, value, room, one_more))
        | inr ne ↦ (let value = other p ne in let old = s.small p in omega (arith, value, old))
      ];
      rising = freed_rising c;
    }

    pub rest_notified : IsNotifying rows (set ranks q k) done rest b r
    rest_notified = record {
      own = λ p o. t.own p (occurs_rest p q rest o);
      here = t.here;
      rank = of_done b t.here ∙ t.rank;
      high = λ a d. (let of = of_done a d in let top = t.high a d in omega (arith, of, top));
      low = λ p. elim (cases_eq p q) [
        | inl e ↦ (let value = here p e in omega (arith, value, one_more))
        | inr ne ↦ (let value = other p ne in let old = t.low p in omega (arith, value, old))
      ];
      room = t.room;
    }

-- what was done stays so
take_freed : (h c : ℕ) (order : List ℕ) (q : ℕ) → h ≤ length order → take h (freed c order q) ≡ take h order
take_freed h zero order q less = take-append-le h order (q ∷ []) less
take_freed h (suc c) order q less = refl

length_freed : (c : ℕ) (order : List ℕ) (q : ℕ) → length order ≤ length (freed c order q)
length_freed zero order q = omega (arith, length_push order q)
length_freed (suc c) order q = omega arith

module _ (rows : ℕ → List ℕ) (n : ℕ) (counts ranks order : List ℕ) (h : ℕ) (q : ℕ) (rest : List ℕ) (within : h ≤ length order) (s : IsStage rows n counts ranks order (take h order) (q ∷ rest)) (inside : q < n)
    (counted : length counts ≡ n) (ranked : length ranks ≡ n) (b r : ℕ) (t : IsNotifying rows ranks (take h order) (q ∷ rest) b r) (k : ℕ) (one_more : k ≡ suc r)
    (new_counts new_ranks new_order : List ℕ) (counts_are : new_counts ≡ set counts q (get_or counts q 0 - 1)) (ranks_are : new_ranks ≡ set ranks q k) (order_is : new_order ≡ freed (get_or counts q 0 - 1) order q) where
  same_done_after : take h new_order ≡ take h order
  same_done_after = ap (take h) order_is ∙ take_freed h (get_or counts q 0 - 1) order q within

  pub next_within : h ≤ length new_order
  next_within = omega (arith, length_freed (get_or counts q 0 - 1) order q, within, ap length order_is)

  pub next_stage : IsStage rows n new_counts new_ranks new_order (take h new_order) rest
  next_stage =
      let m : ℕ = get_or counts q 0 - 1 in
      subst (λ xs. IsStage rows n new_counts new_ranks new_order xs rest) (sym same_done_after)
      (subst (λ xs. IsStage rows n new_counts new_ranks xs (take h order) rest) (sym order_is)
      (subst (λ xs. IsStage rows n new_counts xs (freed m order q) (take h order) rest) (sym ranks_are)
      (subst (λ xs. IsStage rows n xs (set ranks q k) (freed m order q) (take h order) rest) (sym counts_are)
      (notified_stage rows n counts ranks order (take h order) q rest s inside counted ranked b r t k one_more m refl))))

  pub next_notifying : IsNotifying rows new_ranks (take h new_order) rest b r
  next_notifying =
      subst (λ xs. IsNotifying rows new_ranks xs rest b r) (sym same_done_after)
      (subst (λ xs. IsNotifying rows xs (take h order) rest b r) (sym ranks_are)
      (rest_notified rows n counts ranks order (take h order) q rest s inside counted ranked b r t k one_more))

-- of the provider at a place of the list a customer waits
pub waits_at : (rows : ℕ → List ℕ) (n : ℕ) (counts ranks order done xs : List ℕ) (i : ℕ) → i < length xs → IsStage rows n counts ranks order done (drop i xs) → get_or xs i 0 < n → 0 < get_or counts (get_or xs i 0) 0
waits_at rows n counts ranks order done xs i inside s less = waits rows n counts ranks order done (get_or xs i 0) (drop (i + 1) xs) (subst (IsStage rows n counts ranks order done) (drop_more xs i 0 inside) s) less

-- ---- the last stage

module _ (rows : ℕ → List ℕ) (n : ℕ) (counts ranks order : List ℕ) (s : IsStage rows n counts ranks order order []) where
  -- a place that waits has a customer that waits
  pub left_below : AllLeftBelow rows n counts
  left_below p l some =
      let c = s.counted p l in
      let (b, less, away, there) = waiting_some rows order p n (omega (arith, c, some)) in (
        b,
        record {
          inside = less;
          left = elim (cases_pos (get_or counts b 0)) [
            | inl none ↦ (let here = s.listed b less none in cc)
            | inr more ↦ more
          ];
          linked = there;
        },
      )

  module _ (all : (p : ℕ) → p < n → get_or counts p 0 ≡ 0) (within : (a b : ℕ) → occurs a (rows b) ≡ true → b < n) where
    pub linked_occurs : (a b : ℕ) → relation_by rows a b ≡ Some Customer → occurs a (rows b) ≡ true
    linked_occurs a b e = elim (cases_Bool (occurs a (rows b))) [ inl o ↦ o | inr o ↦ (let none = ap (λ t. cond t (Some Customer) None) o in cc) ]

    pub ranks_fit : (a : ℕ) → RankFits (relation_by rows) (λ x. get_or ranks x 0) a
    ranks_fit a = record {
      above = λ b linked. (
          let o = linked_occurs a b linked in
          let less = within a b o in
          elim (s.above b a (s.listed b less (all b less)) o) [ inl none ↦ cc | inr le ↦ le ]);
      reached = elim (s.reached a) [
        | inl e ↦ inl e
        | inr (b, d, o, e) ↦ inr (b, ap (λ t. cond t (Some Customer) None) o, e)
      ];
    }

    pub order_complete : (a : ℕ) → occurs a order ≡ nat_lt a n
    order_complete a = elim (cases_lt a n) [
      | inl less ↦ s.listed a less (all a less) ∙ sym (lt-ltb a n less)
      | inr past ↦ (elim (cases_Bool (occurs a order)) [
        | inl there ↦ (let less = (s.ended a there).0 in absurd (omega (arith, less, past)))
        | inr away ↦ away ∙ sym (le-ltb a n past)
      ])
    ]

-- ---- the places that are free at the start

module _ (counts order : List ℕ) (i : ℕ) (free : AreFree counts order i) where
  pub free_push : get_or counts i 0 ≡ 0 → AreFree counts (order ++ i ∷ []) (i + 1)
  free_push none = record {
    ended = λ p o. elim (occurs_push p order i o) [
      | inl old ↦ (let less = (free.ended p old).0 in (omega (arith, less), (free.ended p old).1))
      | inr e ↦ (omega (arith, e), ap (λ x. get_or counts x 0) (sym e) ∙ none)
    ];
    listed = λ p less zero. elim (cases_eq p i) [
      | inl e ↦ subst (λ x. occurs x (order ++ i ∷ []) ≡ true) (sym e) (occurs_last order i)
      | inr ne ↦ occurs_before p order i (free.listed p (omega arith) zero)
    ];
    apart = distinct_push order i free.apart (elim (cases_Bool (occurs i order)) [ inl e ↦ (let less = (free.ended i e).0 in absurd (omega (arith, less))) | inr e ↦ e ]);
  }

  pub free_keep : 0 < get_or counts i 0 → AreFree counts order (i + 1)
  free_keep some = record {
    ended = λ p o. (let less = (free.ended p o).0 in (omega (arith, less), (free.ended p o).1));
    listed = λ p less zero. elim (cases_eq p i) [
      | inl e ↦ (let same : get_or counts p 0 ≡ get_or counts i 0 = ap (λ x. get_or counts x 0) e in absurd (omega (arith, same, zero, some)))
      | inr ne ↦ free.listed p (omega arith) zero
    ];
    apart = free.apart;
  }
