-- Each message has a weight, and a delivery takes more weight out than it puts in.
use Rattle.std.proofs.Common.{◌≡◌, ◌≢◌, inl, inr, ℕ, suc, ◌+◌, ◌-◌, ◌*◌, ◌^◌, ◌<◌, ◌≤◌, ◌||◌, true, true≢false, Option, Some, None, option_map, List, [], ◌∷◌, length, refl, sym, ◌∙◌, ap, subst, arith, zero-le, le_of_eq, le_trans, mul-le-mul, mul-le-mul_right, suc-mul, zero-mul, add-mul, mul_comm, length-append}
use Rattle.std.proofs.Math.Nat.{one-le-pow, pow-le-pow_right, pow-suc}
use Rattle.std.proofs.lemmas.Bool.{cases_eq, cases_lt, eq-eqb}
use Rattle.net_names.specs.declared.routes.Rel.{Rel}
use Rattle.net_names.specs.declared.routes.Rel.TheVariants.{Customer, Peer, Provider}
use Rattle.net_names.specs.Links.{converse}
use Rattle.net_names.specs.Numbers.{occurs, IsDistinct}
use Rattle.as_graph.proofs.Chains.{IsMutual}
use Rattle.stability_laws.specs.declared.entry.Seed.{Seed}
use Rattle.stability_laws.specs.Offers.{Setting}
use Rattle.stability_laws.specs.Stable.{IsLawful}
use Rattle.message_sim.specs.Messages.{Message, MessageNet, sends, IsTold}
use Rattle.message_sim.specs.Delivery.{IsDelivery, AreTrueDeliveries}
use Rattle.message_sim.specs.Agreement.{Agrees}
use Rattle.message_sim.proofs.Quiet.{delivery_agrees}
use Rattle.message_sim.proofs.Sums.{total, total_within, total_grows, total_sum, total_loses, total_moves, total_spread}
use Rattle.message_sim.proofs.Lows.{sent_stays}
use Rattle.message_sim.proofs.Parts.{AreParts, apart_ends, parts}

-- the weight of a message among n ASes with chains of at most so many, by what the sender is to the receiver and by the rank of the receiver
abbrev pub weight : ℕ → ℕ → Option Rel → ℕ → ℕ
weight n height None rank = 0
weight n height (Some Customer) rank = n ^ (2 * height - suc rank)
weight n height (Some Peer) rank = n ^ (height - 1)
weight n height (Some Provider) rank = n ^ rank

-- a power times its base is at most a higher power
raised : (n i j : ℕ) → 0 < n → suc i ≤ j → n ^ i * n ≤ n ^ j
raised n i j positive le = subst (λ t. t ≤ n ^ j) (pow-suc n i) (pow-le-pow_right positive le)

occupied : (a : ℕ) (xs : List ℕ) → occurs a xs ≡ true → 0 < length xs
occupied a [] h = absurd (true≢false (sym h))
occupied a (x ∷ xs) h = omega arith

fewer_by_one : (s n whole : ℕ) → 0 < whole → s * n + whole ≤ n * whole → s < whole
fewer_by_one s n whole positive h = elim (cases_lt s whole) [
  | inl lt ↦ lt
  | inr ge ↦ (let le : whole * n ≤ s * n = mul-le-mul_right n ge in let same : whole * n ≡ n * whole = mul_comm whole n in absurd (omega arith))
]

module _ (w : Setting) (lawful : (a : ℕ) → IsLawful (w.policy a)) (turns : IsMutual w.relation) (self : (a : ℕ) → w.relation a a ≡ None) (ends : (a b : ℕ) (r : Rel) → w.relation a b ≡ Some r → w.has a ≡ true) (seeds : ℕ → Option Seed)
    (rank : ℕ → ℕ) (falls : (a b : ℕ) → w.relation a b ≡ Some Customer → suc (rank b) ≤ rank a) (height : ℕ) (within : (a : ℕ) → w.has a ≡ true → rank a < height)
    (ases : List ℕ) (distinct : IsDistinct ases) (listed : (a : ℕ) → occurs a ases ≡ w.has a) where
  -- the weight of a message from m to b
  abbrev at : ℕ → ℕ → ℕ
  at m b = weight (length ases) height (w.relation b m) (rank b)

  -- the weight of all messages from m, and of all messages
  abbrev row : MessageNet → ℕ → ℕ
  row x m = total (λ b. length (x.queue m b) * at m b) ases

  abbrev pub burden : MessageNet → ℕ
  burden x = total (row x) ases

  in_list : (a : ℕ) → w.has a ≡ true → occurs a ases ≡ true
  in_list a here = listed a ∙ here

  -- one delivery
  module _ (x y : MessageNet) (n a : ℕ) (from : Rel) (linked : w.relation a n ≡ Some from) (whole : IsDelivery w seeds x n a y) (agrees : Agrees w seeds x) where
    here : w.has a ≡ true
    here = ends a n from linked

    there : w.has n ≡ true
    there = ends n a (converse from) (turns a n ∙ ap (option_map converse) linked)

    apart : n ≢ a
    apart = apart_ends w self n a from linked

    d : AreParts w seeds x n a y
    d = parts w seeds x y n a apart whole

    some : 0 < length ases
    some = occupied a ases (in_list a here)

    turned : (b : ℕ) (r : Rel) → w.relation b a ≡ Some r → w.relation a b ≡ Some (converse r)
    turned b r is = turns b a ∙ ap (option_map converse) is

    not_down : (b : ℕ) (r : Rel) → w.relation b a ≡ Some r → r ≢ Provider → w.relation a b ≢ Some Customer
    not_down b r is up c = by r up (let e : Some (converse r) ≡ Some Customer = sym (turned b r is) ∙ c in cc)
      where
        by : (r : Rel) → r ≢ Provider → converse r ≡ Customer → ⊥
        by Customer up e = cc
        by Peer up e = cc
        by Provider up e = up refl

    -- what a tells is lighter than what it got
    lighter_by : (b : ℕ) (r got : Rel) → w.relation b a ≡ Some r → w.relation a n ≡ Some got → sends w x.choice a b ≢ sends w y.choice a b
        → weight (length ases) height (Some r) (rank b) * length ases ≤ weight (length ases) height (Some got) (rank a)
    lighter_by b Customer Customer is was changed =
        let rises : suc (rank a) ≤ rank b = falls b a is in
        let top : rank b < height = within b (ends b a Customer is) in
        raised (length ases) (2 * height - suc (rank b)) (2 * height - suc (rank a)) some (omega arith)
    lighter_by b Peer Customer is was changed =
        let top : rank a < height = within a here in
        raised (length ases) (height - 1) (2 * height - suc (rank a)) some (omega arith)
    lighter_by b Provider Customer is was changed =
        let top : rank a < height = within a here in
        let down : suc (rank b) ≤ rank a = falls a b (turned b Provider is) in
        raised (length ases) (rank b) (2 * height - suc (rank a)) some (omega arith)
    lighter_by b Provider Peer is was changed =
        let top : rank a < height = within a here in
        let down : suc (rank b) ≤ rank a = falls a b (turned b Provider is) in
        raised (length ases) (rank b) (height - 1) some (omega arith)
    lighter_by b Provider Provider is was changed =
        let down : suc (rank b) ≤ rank a = falls a b (turned b Provider is) in
        raised (length ases) (rank b) (rank a) some down
    lighter_by b Customer Peer is was changed = absurd (changed (sent_stays w lawful seeds x y n a d (agrees.right a here) (λ c. (let e : Some Peer ≡ Some Customer = sym was ∙ c in cc)) b (not_down b Customer is (λ e. (let f : Customer ≡ Provider = e in cc)))))
    lighter_by b Customer Provider is was changed = absurd (changed (sent_stays w lawful seeds x y n a d (agrees.right a here) (λ c. (let e : Some Provider ≡ Some Customer = sym was ∙ c in cc)) b (not_down b Customer is (λ e. (let f : Customer ≡ Provider = e in cc)))))
    lighter_by b Peer Peer is was changed = absurd (changed (sent_stays w lawful seeds x y n a d (agrees.right a here) (λ c. (let e : Some Peer ≡ Some Customer = sym was ∙ c in cc)) b (not_down b Peer is (λ e. (let f : Peer ≡ Provider = e in cc)))))
    lighter_by b Peer Provider is was changed = absurd (changed (sent_stays w lawful seeds x y n a d (agrees.right a here) (λ c. (let e : Some Provider ≡ Some Customer = sym was ∙ c in cc)) b (not_down b Peer is (λ e. (let f : Peer ≡ Provider = e in cc)))))

    abbrev Told : ℕ → Type 0
    Told b = IsTold (sends w x.choice a b) (sends w y.choice a b) (x.queue a b) (y.queue a b)

    -- the weight that a puts in for b
    abbrev put : (b : ℕ) → Told b → ℕ
    put b (inl same) = 0
    put b (inr told) = at a b

    lighter : (b : ℕ) (t : Told b) → put b t * length ases ≤ at n a
    lighter b (inl same) = subst (λ k. k ≤ at n a) (sym (zero-mul (length ases))) zero-le
    lighter b (inr (changed, is)) = by (w.relation b a) refl
      where
        by : (r : Option Rel) → w.relation b a ≡ r → weight (length ases) height r (rank b) * length ases ≤ at n a
        by None none = subst (λ k. k ≤ at n a) (sym (zero-mul (length ases))) zero-le
        by (Some r) of = subst (λ t. weight (length ases) height (Some r) (rank b) * length ases ≤ weight (length ases) height t (rank a)) (sym linked) (lighter_by b r from of linked changed)

    to_itself : (t : Told a) → put a t ≡ 0
    to_itself (inl same) = refl
    to_itself (inr told) = ap (λ r. weight (length ases) height r (rank a)) (self a)

    -- n has one message less
    row_taken : row y n + at n a ≤ row x n
    row_taken = total_loses (λ b. length (y.queue n b) * at n b) (λ b. length (x.queue n b) * at n b) a (at n a) ases (in_list a here) (le_of_eq (sym gone)) others
      where
        gone : length (x.queue n a) * at n a ≡ length (y.queue n a) * at n a + at n a
        gone = ap (λ (q : List Message). length q * at n a) d.oldest ∙ suc-mul (length d.rest) (at n a) ∙ ap (λ (q : List Message). length q * at n a + at n a) (sym d.taken)

        others : (b : ℕ) → length (y.queue n b) * at n b ≤ length (x.queue n b) * at n b
        others b = elim (cases_eq b a) [
          | inl e ↦ subst (λ t. length (y.queue n t) * at n t ≤ length (x.queue n t) * at n t) (sym e) (let is = gone in omega (arith, is))
          | inr ne ↦ le_of_eq (ap (λ (q : List Message). length q * at n b) (d.other_queues n b apart (λ p. ne p.1)))
        ]

    -- a has what it tells more
    row_told : row y a ≤ row x a + total (λ b. put b (d.told b)) ases
    row_told = total_sum (λ b. length (y.queue a b) * at a b) (λ b. length (x.queue a b) * at a b) (λ b. put b (d.told b)) ases (λ b. told b (d.told b))
      where
        told : (b : ℕ) (t : Told b) → length (y.queue a b) * at a b ≤ length (x.queue a b) * at a b + put b t
        told b (inl (same, is)) = le_of_eq (ap (λ (q : List Message). length q * at a b) is ∙ omega arith)
        told b (inr (changed, is)) = le_of_eq (ap (λ (q : List Message). length q * at a b) is
            ∙ ap (λ k. k * at a b) (length-append (x.queue a b) (sends w y.choice a b ∷ []))
            ∙ add-mul (length (x.queue a b)) 1 (at a b) ∙ omega arith)

    row_stays : (m : ℕ) → m ≢ n → m ≢ a → row y m ≤ row x m
    row_stays m not_n not_a = total_grows (λ b. length (y.queue m b) * at m b) (λ b. length (x.queue m b) * at m b) ases
        (λ b in_ases. le_of_eq (ap (λ (q : List Message). length q * at m b) (d.other_queues m b not_a (λ p. not_n p.0))))

    weighs : 0 < at n a
    weighs = subst (λ r. 0 < weight (length ases) height r (rank a)) (sym linked) (by from)
      where
        by : (r : Rel) → 0 < weight (length ases) height (Some r) (rank a)
        by Customer = one-le-pow (2 * height - suc (rank a)) (length ases) some
        by Peer = one-le-pow (height - 1) (length ases) some
        by Provider = one-le-pow (rank a) (length ases) some

    pub burden_falls : burden y < burden x
    burden_falls =
        let put_in = total (λ b. put b (d.told b)) ases in
        let moves : burden y + at n a ≤ burden x + put_in = total_moves (row y) (row x) n a (at n a) put_in ases distinct (in_list n there) apart row_taken row_told row_stays in
        let light : put_in < at n a = fewer_by_one put_in (length ases) (at n a) weighs
        (total_spread (λ b. put b (d.told b)) a (length ases) (at n a) ases (in_list a here) (to_itself (d.told a)) (λ b. lighter b (d.told b))) in
        omega (arith, moves, light)

  -- so a run is no longer than the burden at its start
  pub run_short : (ls : List (ℕ × ℕ)) (x y : MessageNet) → AreTrueDeliveries w seeds ls x y → Agrees w seeds x → length ls + burden y ≤ burden x
  run_short [] x y is agrees = le_of_eq (ap (λ k. 0 + k) (sym (ap burden is)) ∙ omega arith)
  run_short (l ∷ ls) x y (z, linked, d, rest) agrees = by (w.relation l.1 l.0) refl (λ then. run_short ls z y rest then)
    where
      by : (r : Option Rel) → w.relation l.1 l.0 ≡ r → (Agrees w seeds z → length ls + burden y ≤ burden z) → length (l ∷ ls) + burden y ≤ burden x
      by None is later = absurd (linked is)
      by (Some from) is later =
          let one : burden z < burden x = burden_falls x z l.0 l.1 from is d agrees in
          let others : length ls + burden y ≤ burden z = later (delivery_agrees w seeds self ends x z l.0 l.1 from is d agrees) in
          omega (arith, one, others)

  -- the weight of one message is bounded
  lightest : (m b : ℕ) → w.has b ≡ true → at m b ≤ length ases ^ (2 * height - 2)
  lightest m b here = by (w.relation b m) refl
    where
      some : 0 < length ases
      some = occupied b ases (in_list b here)

      top : rank b < height
      top = within b here

      by : (r : Option Rel) → w.relation b m ≡ r → weight (length ases) height r (rank b) ≤ length ases ^ (2 * height - 2)
      by None is = zero-le
      by (Some Customer) is = (let up : suc (rank m) ≤ rank b = falls b m is in pow-le-pow_right some (omega (arith, up, top)))
      by (Some Peer) is = pow-le-pow_right some (omega (arith, top))
      by (Some Provider) is =
          (let back : w.relation m b ≡ Some Customer = turns b m ∙ ap (option_map converse) is in
          let up : suc (rank b) ≤ rank m = falls m b back in
          let over : rank m < height = within m (ends m b Customer back) in
          pow-le-pow_right some (omega (arith, up, over)))

  -- and so is the burden of a net with at most k messages on each link
  pub burden_within : (k : ℕ) (x : MessageNet) → ((n a : ℕ) → length (x.queue n a) ≤ k) → burden x ≤ length ases * (length ases * (k * length ases ^ (2 * height - 2)))
  burden_within k x few = total_within (row x) (length ases * (k * length ases ^ (2 * height - 2))) ases (λ m m_in.
      total_within (λ b. length (x.queue m b) * at m b) (k * length ases ^ (2 * height - 2)) ases (λ b b_in. mul-le-mul (few m b) (lightest m b (sym (listed b) ∙ b_in))))

  squared : (n k e : ℕ) → n * (n * (k * n ^ e)) ≡ k * n ^ suc (suc e)
  squared n k e =
      ap (λ t. n * t) (turn n k (n ^ e)) ∙ turn n k (n ^ e * n)
      ∙ ap (λ t. k * t) (ap (λ t. t * n) (sym (pow-suc n e)) ∙ sym (pow-suc n (suc e)))
    where
      turn : (n k p : ℕ) → n * (k * p) ≡ k * (p * n)
      turn n k p = grind arith

  nobody : height ≤ 0 → (xs : List ℕ) → ((a : ℕ) → occurs a xs ≡ true → w.has a ≡ true) → length xs ≡ 0
  nobody low [] there = refl
  nobody low (x ∷ xs) there = let top : rank x < height = within x (there x (ap (λ b. b || occurs x xs) (eq-eqb x x refl))) in absurd (omega (arith, low, top))

  pub burden_bound : (k : ℕ) (x : MessageNet) → ((n a : ℕ) → length (x.queue n a) ≤ k) → burden x ≤ k * length ases ^ (2 * height)
  burden_bound k x few = elim (cases_lt 0 height) [
    | inl high ↦ (let same : suc (suc (2 * height - 2)) ≡ 2 * height = omega arith in
        subst (λ t. burden x ≤ t) (squared (length ases) k (2 * height - 2) ∙ ap (λ e. k * length ases ^ e) same) (burden_within k x few))
    | inr low ↦ (let most : ℕ = length ases * (k * length ases ^ (2 * height - 2)) in
        let none : length ases * most ≡ 0 = ap (λ t. t * most) (nobody low ases (λ a in_ases. sym (listed a) ∙ in_ases)) ∙ zero-mul most in
        le_trans (subst (λ t. burden x ≤ t) none (burden_within k x few)) zero-le)
  ]
