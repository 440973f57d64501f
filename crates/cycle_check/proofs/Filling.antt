-- The lists of the providers of a world's ASes, and the region that they fill.
use Rattle.std.proofs.Common.{◌≡◌, inl, inr, ℕ, zero, suc, ◌+◌, ◌-◌, ◌<◌, ◌≤◌, ◌^◌, true, Option, Some, None, option_map, List, [], ◌∷◌, ◌++◌, length, get_or, take, drop, refl, sym, ◌∙◌, ap, subst, arith, length-append}
use Rattle.std.proofs.lemmas.Bool.{cases_Bool, cases_lt}
use Rattle.std.proofs.lemmas.List.{get_or_append_left, get_or-append_right, get_or_push, get_or_past, take-append-le, drop-append-le, length-drop, drop_at, take_all}
use Rattle.std.specs.List.{All}
use Rattle.std.specs.List.Sorted.{IsStrictlyIncreasing}
use Rattle.net_names.specs.Numbers.{occurs}
use Rattle.net_names.specs.Links.{converse}
use Rattle.net_names.specs.declared.routes.Rel.{Rel}
use Rattle.net_names.specs.declared.routes.Rel.TheVariants.{Customer, Peer, Provider}
use Rattle.as_graph.specs.declared.neighbour.Neighbour.{Neighbour}
use Rattle.as_graph.specs.Neighbours.{asns, AreNeighbours}
use Rattle.cycle_check.specs.Rows.{row, AreRows}
use Rattle.cycle_check.specs.Places.{place_in}
use Rattle.cycle_check.specs.Providers.{put_provider, provider_places, AreProvidersAt, AreFilled, AreProviderRows}
use Rattle.cycle_check.proofs.Listing.{occurs_head, occurs_rest, occurs_cons, occurs_get}
use Rattle.cycle_check.proofs.Places.{place_less, place_at, at_place}

-- one more neighbour
pub provider_places-append : (ases : List ℕ) (ns : List Neighbour) (n : Neighbour) → provider_places ases (ns ++ n ∷ []) ≡ provider_places ases ns ++ put_provider n.rel (place_in ases n.asn) []
provider_places-append ases [] n = refl
provider_places-append ases (x ∷ xs) n = by x.rel (provider_places-append ases xs n)
  where
    by : (r : Rel) → provider_places ases (xs ++ n ∷ []) ≡ provider_places ases xs ++ put_provider n.rel (place_in ases n.asn) []
        → put_provider r (place_in ases x.asn) (provider_places ases (xs ++ n ∷ [])) ≡ put_provider r (place_in ases x.asn) (provider_places ases xs) ++ put_provider n.rel (place_in ases n.asn) []
    by Customer ih = ih
    by Peer ih = ih
    by Provider ih = ap (λ ps. place_in ases x.asn ∷ ps) ih

module _ (w : ℕ → ℕ → Option Rel) (ases : List ℕ) (a : ℕ) where
  -- each place is that of a provider
  found : (p : ℕ) (ns : List Neighbour) → All (λ n. w a n.asn ≡ Some n.rel) ns → occurs p (provider_places ases ns) ≡ true → (b : ℕ) × (w a b ≡ Some Provider) × (place_in ases b ≡ p)
  found p [] each o = cc
  found p (n ∷ ns) each o = by n.rel (each 0 n (omega arith)) o (found p ns (λ k d less. each (suc k) d (omega arith)))
    where
      by : (r : Rel) → w a n.asn ≡ Some r → occurs p (put_provider r (place_in ases n.asn) (provider_places ases ns)) ≡ true
          → (occurs p (provider_places ases ns) ≡ true → (b : ℕ) × (w a b ≡ Some Provider) × (place_in ases b ≡ p)) → (b : ℕ) × (w a b ≡ Some Provider) × (place_in ases b ≡ p)
      by Customer e o ih = ih o
      by Peer e o ih = ih o
      by Provider e o ih = elim (occurs_cons p (place_in ases n.asn) (provider_places ases ns) o) [
        | inl is ↦ (n.asn, e, is)
        | inr more ↦ ih more
      ]

  -- the place of each provider is among them
  placed : (b : ℕ) (ns : List Neighbour) → All (λ n. w a n.asn ≡ Some n.rel) ns → occurs b (asns ns) ≡ true → w a b ≡ Some Provider → occurs (place_in ases b) (provider_places ases ns) ≡ true
  placed b [] each o e = cc
  placed b (n ∷ ns) each o e = elim (occurs_cons b n.asn (asns ns) o) [
    | inl is ↦ here n.rel (each 0 n (omega arith)) is
    | inr more ↦ later n.rel (placed b ns (λ k d less. each (suc k) d (omega arith)) more e)
  ]
    where
      here : (r : Rel) → w a n.asn ≡ Some r → n.asn ≡ b → occurs (place_in ases b) (put_provider r (place_in ases n.asn) (provider_places ases ns)) ≡ true
      here Customer q is = let same : w a n.asn ≡ w a b = ap (w a) is in cc
      here Peer q is = let same : w a n.asn ≡ w a b = ap (w a) is in cc
      here Provider q is = subst (λ t. occurs t (place_in ases n.asn ∷ provider_places ases ns) ≡ true) (ap (place_in ases) is) (occurs_head (place_in ases n.asn) (provider_places ases ns))

      later : (r : Rel) → occurs (place_in ases b) (provider_places ases ns) ≡ true → occurs (place_in ases b) (put_provider r (place_in ases n.asn) (provider_places ases ns)) ≡ true
      later Customer o = o
      later Peer o = o
      later Provider o = occurs_rest (place_in ases b) (place_in ases n.asn) (provider_places ases ns) o

module _ (w : ℕ → ℕ → Option Rel) (alike : (a b : ℕ) → w b a ≡ option_map converse (w a b)) (ases : List ℕ) (rising : IsStrictlyIncreasing ases) (there : (a b : ℕ) (r : Rel) → w a b ≡ Some r → occurs b ases ≡ true) where
  seller : (a b : ℕ) → w a b ≡ Some Customer → w b a ≡ Some Provider
  seller a b e = alike a b ∙ ap (option_map converse) e

  buyer : (a b : ℕ) → w a b ≡ Some Provider → w b a ≡ Some Customer
  buyer a b e = alike a b ∙ ap (option_map converse) e

  -- the places of the providers among an AS's neighbours are those of its providers
  pub providers_at : (q a : ℕ) (ns : List Neighbour) → a ≡ get_or ases q 0 → AreNeighbours w a ns → AreProvidersAt w ases q (provider_places ases ns)
  providers_at q a ns is n = record {
    within = λ k less.
        let ps = provider_places ases ns in
        let (b, e, at) = found w ases a (get_or ps k 0) ns n.each (occurs_get ps k 0 less) in
        subst (λ x. x < length ases) at (place_less ases b (there a b Provider e));
    are = λ p less. (
      λ linked.
          let up : w a (get_or ases p 0) ≡ Some Provider = subst (λ x. w x (get_or ases p 0) ≡ Some Provider) (sym is) (seller (get_or ases p 0) (get_or ases q 0) linked) in
          subst (λ x. occurs x (provider_places ases ns) ≡ true) (place_at ases rising p less) (placed w ases a (get_or ases p 0) ns n.each (n.complete (get_or ases p 0) Provider up) up),
      λ o.
          let (b, e, at) = found w ases a p ns n.each o in
          let own : get_or ases p 0 ≡ b = ap (λ k. get_or ases k 0) (sym at) ∙ at_place ases b 0 (there a b Provider e) in
          subst (λ x. w x (get_or ases q 0) ≡ Some Customer) (sym own) (subst (λ x. w b x ≡ Some Customer) is (buyer a b e)),
    );
  }

  -- a region that is filled has the lists of all providers
  pub filled_providers : (starts items : List ℕ) → AreFilled w ases starts items (length ases) → AreProviderRows w ases starts items
  filled_providers starts items f = record {
    places = omega (arith, f.count);
    rising = rising;
    above = λ a b e. there b a Provider (seller a b e);
    below = λ a b e. there a b Customer e;
    rows = λ p q lp lq. (f.rows q lq).are p lp;
  }

  pub filled_rows : (starts items : List ℕ) → ((a : ℕ) → w a a ≡ None) → length ases ≤ 150000 → AreFilled w ases starts items (length ases) → AreRows starts items
  filled_rows starts items alone few f = record {
    some = omega (arith, f.count);
    few = omega (arith, f.count, few);
    first = f.first;
    rising = f.rising;
    last = subst (λ k. get_or starts k 0 ≡ length items) (omega (arith, f.count)) f.last;
    small = f.small;
    within = λ k less. (let l = f.within k less in omega (arith, l, f.count));
    apart = λ b. elim (cases_lt b (length ases)) [
      | inl less ↦ elim (cases_Bool (occurs b (row starts items b))) [
        | inl o ↦ (let linked = ((f.rows b less).are b less).1 o in let none = alone (get_or ases b 0) in cc)
        | inr o ↦ o
      ]
      | inr past ↦ (
          let end : get_or starts (b + 1) 0 ≡ 0 = get_or_past starts (b + 1) 0 (omega (arith, past, f.count)) in
          let none : get_or starts (b + 1) 0 - get_or starts b 0 ≡ 0 = omega (arith, end) in
          ap (λ k. occurs b (take k (drop (get_or starts b 0) items))) none)
    ];
  }

empty : List ℕ
empty = 0 ∷ []

zero_at : (i k : ℕ) → k ≡ 0 → get_or empty i k ≡ k
unfolding empty
zero_at zero k e = sym e
zero_at (suc i) k e = refl

-- no list stands in the empty region
pub filled_first : (w : ℕ → ℕ → Option Rel) (ases : List ℕ) → AreFilled w ases (0 ∷ []) [] 0
unfolding empty
filled_first w ases = record {
  count = refl;
  first = refl;
  rising = λ i j le less. omega (arith, zero_at i 0 refl, zero_at j 0 refl);
  last = refl;
  small = omega arith;
  within = λ k less. absurd (omega (arith, less));
  rows = λ q less. absurd (omega (arith, less));
}

module _ (w : ℕ → ℕ → Option Rel) (ases starts items ps : List ℕ) (n e : ℕ) (f : AreFilled w ases starts items n) (end : e ≡ length (items ++ ps)) where
  left_of : (k : ℕ) → k ≤ n → get_or (starts ++ e ∷ []) k 0 ≡ get_or starts k 0
  left_of k le = get_or_append_left starts (e ∷ []) 0 k (omega (arith, f.count, le))

  end_of : get_or (starts ++ e ∷ []) (n + 1) 0 ≡ e
  end_of = get_or_push starts e 0 (n + 1) (f.count)

  row_before : (q : ℕ) → q < n → row (starts ++ e ∷ []) (items ++ ps) q ≡ row starts items q
  row_before q less =
      let a : get_or (starts ++ e ∷ []) q 0 ≡ get_or starts q 0 = left_of q (omega (arith, less)) in
      let b : get_or (starts ++ e ∷ []) (q + 1) 0 ≡ get_or starts (q + 1) 0 = left_of (q + 1) (omega (arith, less)) in
      let top : get_or starts (q + 1) 0 ≤ get_or starts n 0 = f.rising (q + 1) n (omega (arith, less)) (omega (arith, f.count)) in
      let up : get_or starts q 0 ≤ get_or starts (q + 1) 0 = f.rising q (q + 1) (omega arith) (omega (arith, less, f.count)) in
      let last = f.last in
      let len : length (drop (get_or starts q 0) items) ≡ length items - get_or starts q 0 = length-drop (get_or starts q 0) items in
      let d = drop-append-le (get_or starts q 0) items ps (omega (arith, top, up, last)) in
      let t = take-append-le (get_or starts (q + 1) 0 - get_or starts q 0) (drop (get_or starts q 0) items) ps (omega (arith, top, up, last, len)) in
      rw (a, b, d, t) refl

  row_here : row (starts ++ e ∷ []) (items ++ ps) n ≡ ps
  row_here =
      let a : get_or (starts ++ e ∷ []) n 0 ≡ length items = left_of n (omega arith) ∙ f.last in
      let b = end_of in
      let size = length-append items ps in
      ap (take (get_or (starts ++ e ∷ []) (n + 1) 0 - get_or (starts ++ e ∷ []) n 0)) (drop_at items ps (get_or (starts ++ e ∷ []) n 0) (sym a))
      ∙ take_all (get_or (starts ++ e ∷ []) (n + 1) 0 - get_or (starts ++ e ∷ []) n 0) ps (omega (arith, a, b, end, size))

  pub filled_more : e < 2 ^ 32 → AreProvidersAt w ases n ps → AreFilled w ases (starts ++ e ∷ []) (items ++ ps) (n + 1)
  filled_more small at = record {
    count = omega (arith, length-append starts (e ∷ []), f.count);
    first = left_of 0 (omega arith) ∙ f.first;
    rising = λ i j le less. elim (cases_lt j (n + 1)) [
      | inl before ↦ (
          let rises = f.rising i j le (omega (arith, before, f.count)) in
          omega (arith, rises, left_of i (omega (arith, le, before)), left_of j (omega (arith, before))))
      | inr past ↦ (
          let last : j ≡ n + 1 = omega (arith, past, less, length-append starts (e ∷ []), f.count) in
          let top : get_or (starts ++ e ∷ []) j 0 ≡ e = ap (λ k. get_or (starts ++ e ∷ []) k 0) last ∙ end_of in
          elim (cases_lt i (n + 1)) [
            | inl before ↦ (
                let rises = f.rising i n (omega (arith, before)) (omega (arith, f.count)) in
                omega (arith, rises, left_of i (omega (arith, before)), f.last, top, end, length-append items ps))
            | inr same ↦ (let own : get_or (starts ++ e ∷ []) i 0 ≡ get_or (starts ++ e ∷ []) j 0 = ap (λ k. get_or (starts ++ e ∷ []) k 0) (omega (arith, same, le, last)) in omega (arith, own))
          ])
    ];
    last = end_of ∙ end;
    small = omega (arith, small, end);
    within = λ k less. elim (cases_lt k (length items)) [
      | inl before ↦ (let h = f.within k before in omega (arith, h, get_or_append_left items ps 0 k before))
      | inr past ↦ (
          let h = at.within (k - length items) (omega (arith, less, past, length-append items ps)) in
          omega (arith, h, get_or-append_right items ps (length items) k 0 refl past))
    ];
    rows = λ q less. elim (cases_lt q n) [
      | inl before ↦ subst (AreProvidersAt w ases q) (sym (row_before q before)) (f.rows q before)
      | inr past ↦ (let is : n ≡ q = omega (arith, less, past) in subst (λ k. AreProvidersAt w ases k (row (starts ++ e ∷ []) (items ++ ps) k)) is (subst (AreProvidersAt w ases n) (sym row_here) at))
    ];
  }
