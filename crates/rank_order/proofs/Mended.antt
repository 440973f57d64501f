-- Numbers that are mended fit everywhere.
use Rattle.std.proofs.Common.{◌≡◌, ◌≢◌, ◌⊎◌, inl, inr, ℕ, suc, ◌+◌, ◌<◌, ◌≤◌, Bool, true, false, Option, Some, option_map, unwrap_or, List, length, refl, sym, ap, subst, arith, ◌∙◌}
use Rattle.std.proofs.lemmas.Bool.{cases_Bool, cases_eq, cases_lt, false_from_ne_true}
use Rattle.std.proofs.lemmas.List.{get_or-map, length-map}
use Rattle.net_names.specs.Numbers.{occurs}
use Rattle.net_names.specs.Links.{converse}
use Rattle.net_names.specs.declared.routes.Rel.{Rel}
use Rattle.net_names.specs.declared.routes.Rel.TheVariants.{Customer, Peer, Provider}
use Rattle.as_graph.specs.declared.neighbour.Neighbour.{Neighbour}
use Rattle.as_graph.specs.Neighbours.{AreNeighbours, asns}
use Rattle.as_graph.specs.Rows.{blank}
use Rattle.as_graph.specs.Topology.{Topology, relation, has}
use Rattle.as_graph.specs.Hierarchy.{RankFits}
use Rattle.as_graph.specs.Edits.{LinksAreSound}
use Rattle.cycle_check.proofs.Listing.{occurs_index}
use Rattle.rank_order.specs.Mending.{neighbour_at, grown, IsNumberOver, IsCustomerAt, Bears, AllBear, IsMended}

at_link : (relation : ℕ → ℕ → Option Rel) (a : ℕ) (xs : List Neighbour) → AreNeighbours relation a xs → (n : ℕ) (r : Rel) → relation a n ≡ Some r → (j : ℕ) × (j < length xs) × ((neighbour_at xs j).asn ≡ n) × ((neighbour_at xs j).rel ≡ r)
at_link relation a xs are n r linked =
    let (j, less, is) = occurs_index n (asns xs) (are.complete n r linked) in
    let inside : j < length xs = omega (arith, less, length-map xs (λ (x : Neighbour). x.asn)) in
    let here : (neighbour_at xs j).asn ≡ n = sym (get_or-map (λ (x : Neighbour). x.asn) xs j blank 0 inside) ∙ is in
    let rel : Some (neighbour_at xs j).rel ≡ Some r = sym (are.each j blank inside) ∙ ap (relation a) here ∙ linked in
    (j, inside, here, ap (λ o. unwrap_or o r) rel)

pub fits_over : (relation : ℕ → ℕ → Option Rel) (number : ℕ → ℕ) (a n : ℕ) (xs : List Neighbour) → AreNeighbours relation a xs → IsNumberOver number xs (length xs) n → number a ≡ n → RankFits relation number a
fits_over relation number a n xs are over e = record {
  above = λ b link.
      let (j, less, here, rel) = at_link relation a xs are b Customer link in
      let high : suc (number (neighbour_at xs j).asn) ≤ n = over.above j less rel in
      let same : number (neighbour_at xs j).asn ≡ number b = ap number here in
      omega (arith, high, same, e);
  reached = by over.reached;
}
  where
    by : (n ≡ 0) ⊎ ((k : ℕ) × (m : ℕ) × IsCustomerAt number xs k m × (n ≡ suc m)) → (number a ≡ 0) ⊎ ((b : ℕ) × (relation a b ≡ Some Customer) × (number a ≡ suc (number b)))
    by (inl z) = inl (e ∙ z)
    by (inr (k, m, at, is)) = inr ((neighbour_at xs k).asn, are.each k blank at.inside ∙ ap Some at.customer, e ∙ is ∙ ap suc (sym at.number_is))

pub bear_over : (w : Topology) → LinksAreSound → (numbered : ℕ → Bool) (old : ℕ → ℕ) (before later a : ℕ) (xs : List Neighbour) → AreNeighbours (relation w) a xs → AllBear numbered old before later xs (length xs)
    → (p : ℕ) → relation w p a ≡ Some Customer → Bears numbered old before later p
bear_over w sound numbered old before later a xs are all p link =
    let (j, less, here, rel) = at_link (relation w) a xs are p Provider (sound.alike w p a ∙ ap (option_map converse) link) in
    subst (Bears numbered old before later) here (all j less rel)

module _ (w : Topology) (sound : LinksAreSound) (ends : List ℕ) (numbered : ℕ → Bool) (old new : ℕ → ℕ) where
  module _
      (complete : (a : ℕ) → occurs a ends ≡ true → has w a ≡ true → numbered a ≡ true)
      (mended : (a : ℕ) → numbered a ≡ true → IsMended (relation w) numbered old new a)
      (fits : (a : ℕ) → has w a ≡ true → occurs a ends ≡ false → RankFits (relation w) old a)
      (kept : (a : ℕ) → numbered a ≡ false → occurs a ends ≡ false → new a ≡ old a)
      (none : (a : ℕ) → has w a ≡ false → new a ≡ 0)
    where
      no_end : (a : ℕ) → numbered a ≡ false → has w a ≡ true → occurs a ends ≡ false
      no_end a f h = false_from_ne_true (occurs a ends) (λ o. (let t = complete a o h in cc))

      -- a customer of who is not numbered keeps its number, or the change does not matter
      change : (a b : ℕ) → numbered a ≡ false → relation w a b ≡ Some Customer → (new b ≡ old b) ⊎ ((suc (new b) ≤ old a) × (suc (old b) ≢ old a))
      change a b f link = elim (cases_Bool (numbered b)) [
        | inl t ↦ by (mended b t).providers
        | inr g ↦ inl (kept b g (no_end b g (sound.ends w a b Customer link)))
      ]
        where
          by_bears : Bears numbered old (old b) (new b) a → (new b ≡ old b) ⊎ ((suc (new b) ≤ old a) × (suc (old b) ≢ old a))
          by_bears (inl t) = cc
          by_bears (inr q) = inr q

          by : (new b ≡ old b) ⊎ ((p : ℕ) → relation w p b ≡ Some Customer → Bears numbered old (old b) (new b) p) → (new b ≡ old b) ⊎ ((suc (new b) ≤ old a) × (suc (old b) ≢ old a))
          by (inl e) = inl e
          by (inr bears) = by_bears (bears a link)

      kept_fits : (a : ℕ) → numbered a ≡ false → has w a ≡ true → RankFits (relation w) new a
      kept_fits a f h = record {
        above = λ b link. above b link (change a b f link);
        reached = reached was.reached;
      }
        where
          same : new a ≡ old a
          same = kept a f (no_end a f h)

          was : RankFits (relation w) old a
          was = fits a h (no_end a f h)

          above : (b : ℕ) → relation w a b ≡ Some Customer → (new b ≡ old b) ⊎ ((suc (new b) ≤ old a) × (suc (old b) ≢ old a)) → suc (new b) ≤ new a
          above b link (inl e) = let high : suc (old b) ≤ old a = was.above b link in let s : new a ≡ old a = same in omega (arith, high, e, s)
          above b link (inr (high, other)) = let s : new a ≡ old a = same in omega (arith, high, s)

          stays : (b : ℕ) → old a ≡ suc (old b) → (new b ≡ old b) ⊎ ((suc (new b) ≤ old a) × (suc (old b) ≢ old a)) → new b ≡ old b
          stays b e (inl same) = same
          stays b e (inr (high, other)) = absurd (other (sym e))

          reached : (old a ≡ 0) ⊎ ((b : ℕ) × (relation w a b ≡ Some Customer) × (old a ≡ suc (old b))) → (new a ≡ 0) ⊎ ((b : ℕ) × (relation w a b ≡ Some Customer) × (new a ≡ suc (new b)))
          reached (inl z) = inl (same ∙ z)
          reached (inr (b, link, e)) = inr (b, link, same ∙ e ∙ ap suc (sym (stays b e (change a b f link))))

      pub all_fit : (a : ℕ) → RankFits (relation w) new a
      all_fit a = elim (cases_Bool (numbered a)) [
        | inl t ↦ (mended a t).fits
        | inr f ↦ elim (cases_Bool (has w a)) [
          | inl h ↦ kept_fits a f h
          | inr h ↦ record {
            above = λ b link. (let there = sound.ends w b a Provider (sound.alike w a b ∙ ap (option_map converse) link) in cc);
            reached = inl (none a h);
          }
        ]
      ]

-- one neighbour more
pub number_more : (number : ℕ → ℕ) (ns : List Neighbour) (i n m : ℕ) → i < length ns → m ≡ grown (neighbour_at ns i).rel (number (neighbour_at ns i).asn) n → IsNumberOver number ns i n → IsNumberOver number ns (i + 1) m
number_more number ns i n m inside is over = by (neighbour_at ns i).rel refl is
  where
    own : ℕ
    own = number (neighbour_at ns i).asn

    higher : (k : ℕ) → k < i → n ≤ m → (neighbour_at ns k).rel ≡ Customer → suc (number (neighbour_at ns k).asn) ≤ m
    higher k low le customer = let h : suc (number (neighbour_at ns k).asn) ≤ n = over.above k low customer in omega (arith, h, le)

    same : m ≡ n → ((neighbour_at ns i).rel ≡ Customer → ⊥) → IsNumberOver number ns (i + 1) m
    same e other = record {
      above = λ k low customer. elim (cases_eq k i) [
        | inl here ↦ absurd (other (ap (λ j. (neighbour_at ns j).rel) (sym here) ∙ customer))
        | inr ne ↦ higher k (omega (arith, low, ne)) (omega (arith, e)) customer
      ];
      reached = subst (λ t. (t ≡ 0) ⊎ ((k : ℕ) × (q : ℕ) × IsCustomerAt number ns k q × (t ≡ suc q))) (sym e) over.reached;
    }

    above : (neighbour_at ns i).rel ≡ Customer → n ≤ m → suc own ≤ m → (k : ℕ) → k < i + 1 → (neighbour_at ns k).rel ≡ Customer → suc (number (neighbour_at ns k).asn) ≤ m
    above is_customer le high k low customer = elim (cases_eq k i) [
      | inl here ↦ (let e : number (neighbour_at ns k).asn ≡ own = ap (λ j. number (neighbour_at ns j).asn) here in omega (arith, e, high))
      | inr ne ↦ higher k (omega (arith, low, ne)) le customer
    ]

    by : (r : Rel) → (neighbour_at ns i).rel ≡ r → m ≡ grown r own n → IsNumberOver number ns (i + 1) m
    by Customer e q = elim (cases_lt own n) [
      | inl less ↦ (
          let t : m ≡ n = omega (arith, q, less) in
          record {
            above = above e (omega (arith, t)) (omega (arith, t, less));
            reached = subst (λ t. (t ≡ 0) ⊎ ((k : ℕ) × (q : ℕ) × IsCustomerAt number ns k q × (t ≡ suc q))) (sym t) over.reached;
          })
      | inr more ↦ (
          let t : m ≡ suc own = omega (arith, q, more) in
          record {
            above = above e (omega (arith, t, more)) (omega (arith, t));
            reached = inr (i, own, record { inside = inside; customer = e; number_is = refl }, t);
          })
    ]
    by Peer e q = same q (λ c. (let f = sym e ∙ c in cc))
    by Provider e q = same q (λ c. (let f = sym e ∙ c in cc))
