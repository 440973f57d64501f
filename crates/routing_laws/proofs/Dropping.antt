-- Where ASes begin to drop invalid routes, valid own and customers' routes stay, and get no longer.
use denote.Enum.Bare.{sameb}
use Rattle.std.proofs.Common.{◌≡◌, ◌≢◌, ◌⊎◌, inl, inr, ℕ, zero, suc, ◌+◌, ◌<◌, ◌≤◌, Bool, true, false, true≢false, ◌&&◌, ◌||◌, ◌==◌, not, IsTrue, Option, Some, None, option_map, is_some, List, [], ◌∷◌, length, nat_lt, refl, sym, ◌∙◌, ap, subst, arith}
use Rattle.std.proofs.lemmas.Bool.{cases_Bool, cases_eq, or_cases, or_left, or_right, and_parts, eqb-true, ltb-true, false_from_ne_true}
use Rattle.net_names.specs.contracts.routes.State.{the_type as state_type}
use Rattle.net_names.specs.declared.routes.Rel.{Rel}
use Rattle.net_names.specs.declared.routes.Rel.TheVariants.{Customer, Provider}
use Rattle.net_names.specs.declared.routes.State.{State}
use Rattle.net_names.specs.declared.routes.State.TheVariants.{Invalid}
use Rattle.net_names.specs.Links.{converse}
use Rattle.net_names.specs.Numbers.{occurs, last_or}
use Rattle.policy_laws.specs.declared.policy.View.{View}
use Rattle.policy_laws.specs.Policy.{Policy, is_own_or_customers}
use Rattle.as_graph.specs.Hierarchy.{HasNoProviderCycle}
use Rattle.as_graph.proofs.Chains.{AreLinks, Falls}
use Rattle.as_graph.proofs.Ranks.{rank_of, rank_of-IsRank, ranks_fall}
use Rattle.stability_laws.specs.declared.entry.Entry.{Entry}
use Rattle.stability_laws.specs.declared.entry.Seed.{Seed}
use Rattle.stability_laws.specs.Entries.{seed_entry}
use Rattle.stability_laws.specs.Offers.{Setting, Offer, offer, offer_given, view_of, passed_on, marked}
use Rattle.stability_laws.specs.Stable.{IsRightGiven, IsStable, IsLawful}
use Rattle.routing_laws.specs.Policies.{IsSteady}
use Rattle.routing_laws.specs.Seeds.{AreFree, AreOrdinary}
use Rattle.routing_laws.proofs.Held.{IsGiven, made_in, makes, of_held, starts_with, path_is, origin_is}
use Rattle.routing_laws.proofs.Marks.{no_mark_up}
use Rattle.routing_laws.proofs.Invalids.{same_invalid, is_invalid}
use Rattle.routing_laws.proofs.Seeded.{ordinary_free}
use Rattle.routing_laws.proofs.Reach.{HoldsLow, holds_low, low_unmarked, from_customer}

-- the origin's state is Invalid
abbrev pub is_bad : (ℕ → State) → List ℕ → Bool
is_bad state path = sameb state_type (state (last_or 0 path)) Invalid

abbrev IsLow : Entry → Type 0
IsLow e = IsTrue (is_own_or_customers e.class)

-- of two offers with such lengths and neighbours the first is the shorter one
abbrev leads : ℕ → ℕ → ℕ → ℕ → Bool
leads l n k m = nat_lt l k || (l == k && nat_lt n m)

leads_told : (l n k m : ℕ) → leads l n k m ≡ true → (l < k) ⊎ ((l ≡ k) × (n < m))
leads_told l n k m e = elim (or_cases (nat_lt l k) (l == k && nat_lt n m) e) [
  | inl less ↦ inl (ltb-true l k less)
  | inr same ↦ (let both = and_parts (l == k) (nat_lt n m) same in inr (eqb-true l k both.0, ltb-true n m both.1))
]

leads_le : (l n k m : ℕ) → leads l n k m ≡ true → l ≤ k
leads_le l n k m e = elim (leads_told l n k m e) [ inl less ↦ omega arith | inr (same, lower) ↦ omega arith ]

-- two leads that cannot both be: the one's lengths are between the other's
clash : (l n k m l' k' : ℕ) → leads l n k m ≡ true → leads k' m l' n ≡ true → l' ≤ l → k ≤ k' → ⊥
clash l n k m l' k' a b x y = elim (leads_told l n k m a) [
  | inl less ↦ elim (leads_told k' m l' n b) [ inl less' ↦ absurd (omega arith) | inr (same', lower') ↦ absurd (omega arith) ]
  | inr (same, lower) ↦ elim (leads_told k' m l' n b) [ inl less' ↦ absurd (omega arith) | inr (same', lower') ↦ absurd (omega arith) ]
]

-- how an own or a customer's route came to an AS without a seed: of a customer, before all that other customers would
-- offer
pub record CameUp (relation : ℕ → ℕ → Option Rel) (state : ℕ → State) (takes : Bool) (h : ℕ → Option Entry) (b : ℕ) (e : Entry) : Type 0 where
  pub giver : ℕ
  pub entry : Entry
  pub linked : relation b giver ≡ Some Customer
  pub holds : h giver ≡ Some entry
  pub low : IsLow entry
  pub path : e.path ≡ b ∷ entry.path
  pub origin : last_or 0 e.path ≡ last_or 0 entry.path
  pub taken : (takes || not (is_bad state entry.path)) ≡ true
  pub lead : (m : ℕ) (d : Entry) → m ≢ giver → relation b m ≡ Some Customer → h m ≡ Some d → IsLow d → (takes || not (is_bad state d.path)) ≡ true → leads (length entry.path + 1) giver (length d.path + 1) m ≡ true

-- what is known of own and customers' routes in a stable routing
pub record AreLows (has : ℕ → Bool) (relation : ℕ → ℕ → Option Rel) (state : ℕ → State) (seeds : ℕ → Option Seed) (takes : ℕ → Bool) (h : ℕ → Option Entry) : Type 0 where
  pub there : (b : ℕ) (e : Entry) → h b ≡ Some e → has b ≡ true
  pub own : (b : ℕ) (s : Seed) → has b ≡ true → seeds b ≡ Some s → h b ≡ Some (seed_entry s)
  pub came : (b : ℕ) (e : Entry) → seeds b ≡ None → h b ≡ Some e → IsLow e → CameUp relation state (takes b) h b e
  pub some : (b c : ℕ) (d : Entry) → has b ≡ true → seeds b ≡ None → relation b c ≡ Some Customer → h c ≡ Some d → IsLow d → (takes b || not (is_bad state d.path)) ≡ true → HoldsLow h b

module _ (w : Setting) (lawful : (a : ℕ) → IsLawful (w.policy a)) (mutual_links : (a b : ℕ) → w.relation b a ≡ option_map converse (w.relation a b)) (ends : (a b : ℕ) (r : Rel) → w.relation a b ≡ Some r → w.has b ≡ true)
    (rank : ℕ → ℕ) (top : ℕ) (falls : Falls w.relation rank top) (seeds : ℕ → Option Seed) (free : AreFree w.has w.state (λ s. true) seeds) (alone : (a : ℕ) (s : Seed) → seeds a ≡ Some s → s.path ≡ a ∷ [])
    (takes : ℕ → Bool) (steady : (a : ℕ) → IsSteady (takes a) (w.policy a)) (h : ℕ → Option Entry) (stable : IsStable w seeds h) where
  -- no AS of such a path is above its holder
  below : (a : ℕ) (e : Entry) → h a ≡ Some e → IsLow e → (x : ℕ) → occurs x e.path ≡ true → rank x ≤ rank a
  below = of_held w seeds h stable (λ a e. IsLow e → (x : ℕ) → occurs x e.path ≡ true → rank x ≤ rank a)
      (λ a e held own low x there. elim (or_cases (a == x) false (sym (ap (λ (t : Entry). occurs x t.path) own.is ∙ ap (occurs x) (alone a own.seed own.seeded)) ∙ there)) [
        | inl is ↦ (let k : a ≡ x = eqb-true a x is in let r : rank a ≡ rank x = ap rank k in omega arith)
        | inr is ↦ absurd (true≢false (sym is))
      ])
      (λ a e held g giver low x there. elim (or_cases (a == x) (occurs x g.made.entry.path) (ap (occurs x) (sym (path_is g)) ∙ there)) [
        | inl is ↦ (let k : a ≡ x = eqb-true a x is in let r : rank a ≡ rank x = ap rank k in omega arith)
        | inr is ↦
            (let (customer, low_giver) = from_customer w lawful (λ s. true) mutual_links ends seeds free h stable a e g low in
            let less : rank g.giver < rank a = falls.falls a g.giver (g.made.linked ∙ ap Some customer) in
            let rest : rank x ≤ rank g.giver = giver low_giver x is in omega arith)
      ])

  unmarked : (c : ℕ) (d : Entry) → h c ≡ Some d → IsLow d → (marks : Bool) → marked marks c Provider d.otc ≡ None
  unmarked c d held low marks = ap (marked marks c Provider) (low_unmarked w lawful (λ s. true) mutual_links ends seeds free h stable c d held low refl) ∙ no_mark_up false marks c

  abbrev seen : ℕ → Entry → View
  seen c d = view_of (w.policy c).marks w.state c Customer d

  -- a customer offers its own and its customers' routes, where they are taken
  offers_up : (b c : ℕ) (d : Entry) → w.relation b c ≡ Some Customer → h c ≡ Some d → IsLow d → (takes b || not (is_bad w.state d.path)) ≡ true →
      offer w h c b ≡ Some (record { view = seen c d; entry = passed_on (w.policy c).marks (w.policy b).marks c b Customer d })
  offers_up b c d linked held low fine =
      (λ i. offer_given (w.policy c) (w.policy b) w.state c b (linked i) (held i))
      ∙ makes (w.policy c) (w.policy b) w.state c b Customer d
      (ap (λ o. (w.policy c).exports d.class o Provider) (low_unmarked w lawful (λ s. true) mutual_links ends seeds free h stable c d held low refl) ∙ (steady c).sends d.class low)
      (ap is_some (starts_with w seeds h stable free.starts c d held))
      (false_from_ne_true _ (λ there. absurd (let up : rank b ≤ rank c = below c d held low b there in let less : rank c < rank b = falls.falls b c linked in omega arith)))
      ((steady b).takes (seen c d) refl (unmarked c d held low (w.policy c).marks) ∙ fine)

  came_up : (b : ℕ) (e : Entry) → seeds b ≡ None → h b ≡ Some e → IsLow e → CameUp w.relation w.state (takes b) h b e
  came_up b e unseeded held low = by (subst (λ s. IsRightGiven (w.policy b) s (λ n. offer w h n b) (Some e)) unseeded (subst (λ x. IsRightGiven (w.policy b) (seeds b) (λ n. offer w h n b) x) held (stable.right b here)))
    where
      here : w.has b ≡ true
      here = elim (cases_Bool (w.has b)) [ inl yes' ↦ yes' | inr no' ↦ absurd (let k : None ≡ Some e = sym (stable.only_ases b no') ∙ held in cc) ]

      told : (g : IsGiven w seeds h b e) → ((m : ℕ) (x : Offer) → offer w h m b ≡ Some x → m ≢ g.giver → IsTrue ((w.policy b).before g.offered.view x.view)) → CameUp w.relation w.state (takes b) h b e
      told g first =
          let both = from_customer w lawful (λ s. true) mutual_links ends seeds free h stable b e g low in
          let made = g.made in
          record {
            giver = g.giver;
            entry = made.entry;
            linked = made.linked ∙ ap Some both.0;
            holds = made.holds;
            low = both.1;
            path = path_is g;
            origin = origin_is g;
            taken = sym ((steady b).takes (seen g.giver made.entry) refl (unmarked g.giver made.entry made.holds both.1 (w.policy g.giver).marks)) ∙ ap (λ t. (w.policy b).accepts (view_of (w.policy g.giver).marks w.state g.giver t made.entry)) (sym both.0) ∙ made.taken;
            lead = λ m d ne linked held_m low_m fine. leading g both.0 m d (first m _ (offers_up b m d linked held_m low_m fine) ne);
          }
        where
          leading : (g : IsGiven w seeds h b e) → g.made.from ≡ Customer → (m : ℕ) (d : Entry) → IsTrue ((w.policy b).before g.offered.view (seen m d)) → leads (length g.made.entry.path + 1) g.giver (length d.path + 1) m ≡ true
          leading g customer m d before =
              sym ((steady b).ranks (seen g.giver g.made.entry) (seen m d) refl refl)
              ∙ ap (λ v. (w.policy b).before v (seen m d)) (ap (λ t. view_of (w.policy g.giver).marks w.state g.giver t g.made.entry) (sym customer) ∙ sym g.made.seen)
              ∙ before

      by : IsRightGiven (w.policy b) None (λ n. offer w h n b) (Some e) → CameUp w.relation w.state (takes b) h b e
      by (n, o, best, is) = told (record { giver = n; offered = o; unseeded = unseeded; made = made_in w h n b o best.made; is = is }) best.first

  pub lows : AreLows w.has w.relation w.state seeds takes h
  lows = record {
    there = λ b e held. elim (cases_Bool (w.has b)) [ inl yes' ↦ yes' | inr no' ↦ absurd (let k : None ≡ Some e = sym (stable.only_ases b no') ∙ held in cc) ];
    own = λ b s here seeded. subst (λ t. IsRightGiven (w.policy b) t (λ n. offer w h n b) (h b)) seeded (stable.right b here);
    came = came_up;
    some = λ b c d here unseeded linked held low fine. holds_low w lawful (λ s. true) mutual_links ends seeds free h stable b c _ here unseeded linked (offers_up b c d linked held low fine);
  }

-- ---- two such routings, in the second of which fewer take invalid routes

module _ (has : ℕ → Bool) (relation : ℕ → ℕ → Option Rel) (state : ℕ → State) (seeds : ℕ → Option Seed) (rank : ℕ → ℕ) (falls : (a b : ℕ) → relation a b ≡ Some Customer → rank b < rank a)
    (takes later : ℕ → Bool) (fewer : (a : ℕ) → later a ≡ true → takes a ≡ true) (f h : ℕ → Option Entry) (F : AreLows has relation state seeds takes f) (H : AreLows has relation state seeds later h) where
  abbrev pub StaysGood : ℕ → Type 0
  StaysGood b = (e : Entry) → f b ≡ Some e → IsLow e → is_bad state e.path ≡ false → (d : Entry) × (h b ≡ Some d) × IsLow d × (is_bad state d.path ≡ false) × (length d.path ≤ length e.path)

  abbrev pub WasBad : ℕ → Type 0
  WasBad b = (d : Entry) → h b ≡ Some d → IsLow d → is_bad state d.path ≡ true → (e : Entry) × (f b ≡ Some e) × IsLow e × (is_bad state e.path ≡ true) × (length e.path ≤ length d.path)

  one_entry : (x : Option Entry) (e d : Entry) → x ≡ Some e → x ≡ Some d → e ≡ d
  one_entry x e d a b = let k : Some e ≡ Some d = sym a ∙ b in cc

  length_of : (e d : Entry) (b : ℕ) → e.path ≡ b ∷ d.path → length e.path ≡ length d.path + 1
  length_of e d b is = let k : length e.path ≡ suc (length d.path) = ap length is in omega arith

  must_take : (t bad : Bool) → bad ≡ true → (t || not bad) ≡ true → t ≡ true
  must_take true bad is e = refl
  must_take false bad is e = absurd (true≢false (sym e ∙ ap not is))

  good_taken : (t bad : Bool) → bad ≡ false → (t || not bad) ≡ true
  good_taken t bad is = or_right t (not bad) (ap not is)

  module _ (b : ℕ) (ih : (c : ℕ) → relation b c ≡ Some Customer → StaysGood c × WasBad c) where
    -- the best of the later routing is good, where a customer made the best offer of the first routing and it was good
    later_good : (e d : Entry) (up : CameUp relation state (takes b) f b e) (now : CameUp relation state (later b) h b d) (g : Entry) → h up.giver ≡ Some g → IsLow g → is_bad state g.path ≡ false → length g.path ≤ length up.entry.path →
        (is_bad state d.path ≡ false) × (length d.path ≤ length e.path)
    later_good e d up now g held low good shorter = elim (cases_eq now.giver up.giver) [
      | inl same ↦
          (let k : now.entry ≡ g = one_entry (h up.giver) now.entry g (ap h (sym same) ∙ now.holds) held in
          let l : length now.entry.path ≡ length g.path = ap (λ (t : Entry). length t.path) k in
          let x : length d.path ≡ length now.entry.path + 1 = length_of d now.entry b now.path in
          let y : length e.path ≡ length up.entry.path + 1 = length_of e up.entry b up.path in
          (ap (λ o. sameb state_type (state o) Invalid) now.origin ∙ ap (λ (t : Entry). is_bad state t.path) k ∙ good, omega arith))
      | inr ne ↦
          (let lead : leads (length now.entry.path + 1) now.giver (length g.path + 1) up.giver ≡ true = now.lead up.giver g (λ e. ne (sym e)) up.linked held low (good_taken (later b) (is_bad state g.path) good) in
          let l : length now.entry.path + 1 ≤ length g.path + 1 = leads_le _ now.giver _ up.giver lead in
          let x : length d.path ≡ length now.entry.path + 1 = length_of d now.entry b now.path in
          let y : length e.path ≡ length up.entry.path + 1 = length_of e up.entry b up.path in
          (false_from_ne_true _ (λ bad. never bad lead ne), omega arith))
    ]
      where
        never : is_bad state d.path ≡ true → leads (length now.entry.path + 1) now.giver (length g.path + 1) up.giver ≡ true → now.giver ≢ up.giver → ⊥
        never bad lead ne =
            let bad_entry : is_bad state now.entry.path ≡ true = ap (λ o. sameb state_type (state o) Invalid) (sym now.origin) ∙ bad in
            let (c, was, low_c, bad_c, l) = (ih now.giver now.linked).1 now.entry now.holds now.low bad_entry in
            let took = fewer b (must_take (later b) (is_bad state now.entry.path) bad_entry now.taken) in
            let lead_before : leads (length up.entry.path + 1) up.giver (length c.path + 1) now.giver ≡ true = up.lead now.giver c ne now.linked was low_c (or_left (takes b) (not (is_bad state c.path)) took) in
            clash (length up.entry.path + 1) up.giver (length c.path + 1) now.giver (length g.path + 1) (length now.entry.path + 1) lead_before lead (let k : length g.path ≤ length up.entry.path = shorter in omega arith) (let k : length c.path ≤ length now.entry.path = l in omega arith)

    stays_good : StaysGood b
    stays_good e held low good = by (seeds b) refl
      where
        by : (s : Option Seed) → seeds b ≡ s → (d : Entry) × (h b ≡ Some d) × IsLow d × (is_bad state d.path ≡ false) × (length d.path ≤ length e.path)
        by (Some s) seeded =
            let here = F.there b e held in
            let same : h b ≡ Some e = H.own b s here seeded ∙ sym (F.own b s here seeded) ∙ held in
            (e, same, low, good, omega arith)
        by None unseeded =
            let up = F.came b e unseeded held low in
            let good_entry : is_bad state up.entry.path ≡ false = ap (λ o. sameb state_type (state o) Invalid) (sym up.origin) ∙ good in
            let (g, held_g, low_g, good_g, shorter) = (ih up.giver up.linked).0 up.entry up.holds up.low good_entry in
            let (d, held_d, low_d) = H.some b up.giver g (F.there b e held) unseeded up.linked held_g low_g (good_taken (later b) (is_bad state g.path) good_g) in
            let both = later_good e d up (H.came b d unseeded held_d low_d) g held_g low_g good_g shorter in
            (d, held_d, low_d, both.0, both.1)

    was_bad : WasBad b
    was_bad d held low bad = by (seeds b) refl
      where
        bad_then : (e : Entry) → f b ≡ Some e → IsLow e → is_bad state e.path ≡ true
        bad_then e held_e low_e = elim (cases_Bool (is_bad state e.path)) [
          | inl is ↦ is
          | inr good ↦
              (let (x, held_x, low_x, good_x, shorter) = stays_good e held_e low_e good in
              let k : d ≡ x = one_entry (h b) d x held held_x in
              absurd (true≢false (sym bad ∙ ap (λ (t : Entry). is_bad state t.path) k ∙ good_x)))
        ]

        by : (s : Option Seed) → seeds b ≡ s → (e : Entry) × (f b ≡ Some e) × IsLow e × (is_bad state e.path ≡ true) × (length e.path ≤ length d.path)
        by (Some s) seeded =
            let here = H.there b d held in
            let same : f b ≡ Some d = F.own b s here seeded ∙ sym (H.own b s here seeded) ∙ held in
            (d, same, low, bad, omega arith)
        by None unseeded =
            let now = H.came b d unseeded held low in
            let bad_entry : is_bad state now.entry.path ≡ true = ap (λ o. sameb state_type (state o) Invalid) (sym now.origin) ∙ bad in
            let (c, was, low_c, bad_c, shorter) = (ih now.giver now.linked).1 now.entry now.holds now.low bad_entry in
            let took = fewer b (must_take (later b) (is_bad state now.entry.path) bad_entry now.taken) in
            let fine : (takes b || not (is_bad state c.path)) ≡ true = or_left (takes b) (not (is_bad state c.path)) took in
            let (e, held_e, low_e) = F.some b now.giver c (H.there b d held) unseeded now.linked was low_c fine in
            (e, held_e, low_e, bad_then e held_e low_e, no_longer e c now was low_c fine shorter (F.came b e unseeded held_e low_e))
          where
            no_longer : (e c : Entry) (now : CameUp relation state (later b) h b d) → f now.giver ≡ Some c → IsLow c → (takes b || not (is_bad state c.path)) ≡ true → length c.path ≤ length now.entry.path → CameUp relation state (takes b) f b e → length e.path ≤ length d.path
            no_longer e c now was low_c fine shorter up =
                let x : length d.path ≡ length now.entry.path + 1 = length_of d now.entry b now.path in
                let y : length e.path ≡ length up.entry.path + 1 = length_of e up.entry b up.path in
                elim (cases_eq now.giver up.giver) [
                  | inl same ↦
                      (let k : up.entry ≡ c = one_entry (f now.giver) up.entry c (ap f same ∙ up.holds) was in
                      let l : length up.entry.path ≡ length c.path = ap (λ (t : Entry). length t.path) k in
                      omega arith)
                  | inr ne ↦
                      (let l : length up.entry.path + 1 ≤ length c.path + 1 = leads_le _ up.giver _ now.giver (up.lead now.giver c ne now.linked was low_c fine) in
                      omega arith)
                ]

  both_below : (k b : ℕ) → rank b < k → StaysGood b × WasBad b
  both_below zero b less = absurd (omega arith)
  both_below (suc k) b less =
      let ih : (c : ℕ) → relation b c ≡ Some Customer → StaysGood c × WasBad c = λ c linked. both_below k c (let lower : rank c < rank b = falls b c linked in omega arith) in
      (stays_good b ih, was_bad b ih)

  pub both_ways : (b : ℕ) → StaysGood b × WasBad b
  both_ways b = both_below (suc (rank b)) b (omega arith)

-- ---- in a world without a provider cycle

pub kept_low : (w : Setting) (lawful : (a : ℕ) → IsLawful (w.policy a)) (old : ℕ → Policy) (old_lawful : (a : ℕ) → IsLawful (old a)) (ases : List ℕ) (links : AreLinks w.relation ases) (ends : (a b : ℕ) (r : Rel) → w.relation a b ≡ Some r → w.has b ≡ true) → HasNoProviderCycle w.relation →
    (takes later : ℕ → Bool) (seeds : ℕ → Option Seed) (f h : ℕ → Option Entry) → AreOrdinary seeds → ((a : ℕ) (s : Seed) → seeds a ≡ Some s → w.has a ≡ true) → ((a : ℕ) → IsSteady (takes a) (old a)) → ((a : ℕ) → IsSteady (later a) (w.policy a)) → ((a : ℕ) → later a ≡ true → takes a ≡ true) →
    IsStable (record w { policy = old }) seeds f → IsStable w seeds h → (a : ℕ) →
    ((e : Entry) → f a ≡ Some e → IsLow e → (w.state (last_or 0 e.path) ≡ Invalid → ⊥) → (d : Entry) × (h a ≡ Some d) × IsLow d × (w.state (last_or 0 d.path) ≡ Invalid → ⊥) × (length d.path ≤ length e.path))
    × ((d : Entry) → h a ≡ Some d → IsLow d → w.state (last_or 0 d.path) ≡ Invalid → (e : Entry) × (f a ≡ Some e) × IsLow e × (w.state (last_or 0 e.path) ≡ Invalid) × (length e.path ≤ length d.path))
kept_low w lawful old old_lawful ases links ends no_cycle takes later seeds f h ordinary there steady steady_later fewer f_stable h_stable a =
    let rank = rank_of w.relation ases links no_cycle in
    let falls = ranks_fall w.relation ases links no_cycle rank (rank_of-IsRank w.relation ases links no_cycle) in
    let free = ordinary_free w.has w.state (λ s. true) seeds ordinary there in
    let before : Setting = record w { policy = old } in
    let F = lows before old_lawful links.alike ends rank (length ases) falls seeds free ordinary.path takes steady f f_stable in
    let H = lows w lawful links.alike ends rank (length ases) falls seeds free ordinary.path later steady_later h h_stable in
    let both = both_ways w.has w.relation w.state seeds rank (λ b c linked. lower (rank c) (rank b) (falls.falls b c linked)) takes later fewer f h F H a in (
      (λ e held low good. (let (d, held_d, low_d, good_d, l) = both.0 e held low (false_from_ne_true _ (λ bad. good (is_invalid (w.state (last_or 0 e.path)) bad))) in
          (d, held_d, low_d, (λ bad. true≢false (sym (same_invalid (w.state (last_or 0 d.path)) bad) ∙ good_d)), l))),
      (λ d held low bad. (let (e, held_e, low_e, bad_e, l) = both.1 d held low (same_invalid (w.state (last_or 0 d.path)) bad) in
          (e, held_e, low_e, is_invalid (w.state (last_or 0 e.path)) bad_e, l))),
    )
  where
    lower : (x y : ℕ) → suc x ≤ y → x < y
    lower x y e = omega arith
