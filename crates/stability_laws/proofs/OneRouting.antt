-- Two stable routings of one setting and its seeds are equal.
use Rattle.std.proofs.Common.{◌≡◌, ◌≢◌, ◌⊎◌, inl, inr, ℕ, zero, suc, ◌<◌, ◌≤◌, ◌+◌, IsTrue, Option, Some, None, option_map, List, length, refl, sym, ◌∙◌, ap, subst, arith}
use Rattle.std.proofs.lemmas.Bool.{cases_eq, cases_Bool}
use Rattle.net_names.specs.declared.routes.Class.{Class}
use Rattle.net_names.specs.declared.routes.Class.TheVariants as class
use Rattle.net_names.specs.declared.routes.Rel.{Rel}
use Rattle.net_names.specs.declared.routes.Rel.TheVariants.{Customer, Peer, Provider}
use Rattle.policy_laws.specs.Policy.{Policy}
use Rattle.as_graph.proofs.Chains.{IsMutual}
use Rattle.net_names.specs.Links.{converse}
use Rattle.as_graph.specs.Hierarchy.{HasNoProviderCycle}
use Rattle.as_graph.proofs.Chains.{Falls, AreLinks}
use Rattle.as_graph.proofs.Ranks.{rank_of, rank_of-IsRank, ranks_fall}
use Rattle.stability_laws.specs.declared.entry.Entry.{Entry}
use Rattle.stability_laws.specs.declared.entry.Seed.{Seed}
use Rattle.stability_laws.specs.Entries.{class_of}
use Rattle.stability_laws.specs.Offers.{Setting, Offer, offer, offer_given, GivenBy}
use Rattle.stability_laws.specs.Stable.{IsBest, IsRightGiven, IsStable, IsLawful}
use Rattle.stability_laws.specs.Steps.{low, low_by}
use Rattle.stability_laws.proofs.Local.{not_both, one_right, given_by, offers_low}

-- who gives the class Customer is a customer
gave_customer : (from : Rel) → class_of from ≡ class.Customer → from ≡ Customer
gave_customer Customer e = refl
gave_customer Peer e = cc
gave_customer Provider e = cc

-- of one AS without a seed: the offers that are made to it, and what is asked of them
module _ (p : Policy) (lawful : IsLawful p) (relation : ℕ → Option Rel) where
  -- offers from the linked neighbours alone
  abbrev AreGiven : (ℕ → Option Offer) → Type 0
  AreGiven os = (n : ℕ) (o : Offer) → os n ≡ Some o → GivenBy (relation n) n o

  -- customers make the same offers
  abbrev SameFromCustomers : (ℕ → Option Offer) → (ℕ → Option Offer) → Type 0
  SameFromCustomers os qs = (n : ℕ) → relation n ≡ Some Customer → os n ≡ qs n

  -- who holds a customer's route under the one holds it under the other
  keeps : (os qs : ℕ → Option Offer) → AreGiven os → AreGiven qs → SameFromCustomers os qs → (e : Entry) → e.class ≡ class.Customer → (held : Option Entry) →
      IsRightGiven p None os (Some e) → IsRightGiven p None qs held → held ≡ Some e
  keeps os qs os_given qs_given same e customer held (n, o, best, is) right = by_held held right
    where
      from_n : GivenBy (relation n) n o
      from_n = os_given n o best.made

      is_customer : from_n.from ≡ Customer
      is_customer = gave_customer from_n.from (sym from_n.class ∙ sym (ap (λ (t : Entry). t.class) is) ∙ customer)

      linked : relation n ≡ Some Customer
      linked = from_n.linked ∙ ap Some is_customer

      made : qs n ≡ Some o
      made = sym (same n linked) ∙ best.made

      -- a best offer of another neighbour would be before o, and o before it
      other : (m : ℕ) (q : Offer) → IsBest p qs m q → (m ≡ n → ⊥) → ⊥
      other m q best' ne = by_rel from_m.from refl
        where
          from_m : GivenBy (relation m) m q
          from_m = qs_given m q best'.made

          q_first : IsTrue (p.before q.view o.view)
          q_first = best'.first n o made (λ e. ne (sym e))

          by_rel : (r : Rel) → from_m.from ≡ r → ⊥
          by_rel Customer is_r = not_both p lawful.ranks_offers o.view q.view (best.first m q (same m (from_m.linked ∙ ap Some is_r) ∙ best'.made) ne) q_first
          by_rel Peer is_r = not_both p lawful.ranks_offers o.view q.view (lawful.prefers_customers o.view q.view (from_n.rel ∙ is_customer) (λ c. (let x : Peer ≡ Customer = sym is_r ∙ sym from_m.rel ∙ c in cc))) q_first
          by_rel Provider is_r = not_both p lawful.ranks_offers o.view q.view (lawful.prefers_customers o.view q.view (from_n.rel ∙ is_customer) (λ c. (let x : Provider ≡ Customer = sym is_r ∙ sym from_m.rel ∙ c in cc))) q_first

      by_held : (h : Option Entry) → IsRightGiven p None qs h → h ≡ Some e
      by_held None r = let none : qs n ≡ None = r n in let some : qs n ≡ Some o = made in cc
      by_held (Some d) (m, q, best', is') =
          elim (cases_eq m n) [
            | inl e' ↦ let a : qs m ≡ Some q = best'.made in let b : qs n ≡ Some o = made in let t : q ≡ o = cc in ap Some (is' ∙ ap (λ (t : Offer). t.entry) t ∙ sym is)
            | inr ne ↦ absurd (other m q best' ne)
          ]

  -- the entry that is right has a customer's route, or no Origin or Customer entry
  customer_or_not : (os : ℕ → Option Offer) → AreGiven os → (held : Option Entry) → IsRightGiven p None os held → ((e : Entry) × (held ≡ Some e) × (e.class ≡ class.Customer)) ⊎ (low held ≡ None)
  customer_or_not os given None right = inr refl
  customer_or_not os given (Some e) (n, o, best, is) = by_class e.class refl
    where
      not_origin : (r : Rel) → class_of r ≡ class.Origin → ⊥
      not_origin Customer x = cc
      not_origin Peer x = cc
      not_origin Provider x = cc

      by_class : (k : Class) → e.class ≡ k → ((d : Entry) × (Some e ≡ Some d) × (d.class ≡ class.Customer)) ⊎ (low_by k e ≡ None)
      by_class class.Origin is_k = let from : GivenBy (relation n) n o = given n o best.made in absurd (not_origin from.from (sym from.class ∙ sym (ap (λ (t : Entry). t.class) is) ∙ is_k))
      by_class class.Customer is_k = inl (e, refl, is_k)
      by_class class.Peer is_k = inr refl
      by_class class.Provider is_k = inr refl

  -- where customers make the same offers, the Origin and Customer entries are the same
  low_same : (os qs : ℕ → Option Offer) → AreGiven os → AreGiven qs → SameFromCustomers os qs → (x y : Option Entry) → IsRightGiven p None os x → IsRightGiven p None qs y → low x ≡ low y
  low_same os qs os_given qs_given same x y rx ry =
      elim (customer_or_not os os_given x rx) [
        | inl (e, is, customer) ↦ ap low (is ∙ sym (keeps os qs os_given qs_given same e customer y (subst (IsRightGiven p None os) is rx) ry))
        | inr none ↦ elim (customer_or_not qs qs_given y ry) [
          | inl (e, is, customer) ↦ ap low (keeps qs os qs_given os_given (λ n l. sym (same n l)) e customer x (subst (IsRightGiven p None qs) is ry) rx ∙ sym is)
          | inr none' ↦ none ∙ sym none'
        ]
      ]

-- two routings that are stable in one setting for the same seeds
module _ (w : Setting) (lawful : (a : ℕ) → IsLawful (w.policy a)) (seeds : ℕ → Option Seed) (f g : ℕ → Option Entry) (f_stable : IsStable w seeds f) (g_stable : IsStable w seeds g) where
  offers_given : (h : ℕ → Option Entry) (a n : ℕ) (o : Offer) → offer w h n a ≡ Some o → GivenBy (w.relation a n) n o
  offers_given h a n o e = given_by (w.policy n) (w.policy a) w.state n a (w.relation a n) (h n) o e

  -- who isn't a provider makes the same offer, if it holds the same Origin and Customer entry
  same_offer_up : (a n : ℕ) (from : Rel) → w.relation a n ≡ Some from → from ≢ Provider → low (f n) ≡ low (g n) → offer w f n a ≡ offer w g n a
  same_offer_up a n from linked up same =
      let of = λ (x : Option Entry). offer_given (w.policy n) (w.policy a) w.state n a (Some from) x in
      let in_link = λ (h : ℕ → Option Entry). ap (λ r. offer_given (w.policy n) (w.policy a) w.state n a r (h n)) linked in
      let lows = λ (x : Option Entry). offers_low (w.policy n) (w.policy a) (lawful n).exports_down_only w.state n a from up x in
      in_link f ∙ lows (f n) ∙ ap of same ∙ sym (lows (g n)) ∙ sym (in_link g)

  -- if the customers of an AS have the same Origin and Customer entries, so has it
  low_step : (a : ℕ) → ((n : ℕ) → w.relation a n ≡ Some Customer → low (f n) ≡ low (g n)) → low (f a) ≡ low (g a)
  low_step a customers = elim (cases_Bool (w.has a)) [
    | inl here ↦ by_seed (seeds a) refl (f_stable.right a here) (g_stable.right a here)
    | inr away ↦ ap low (f_stable.only_ases a away ∙ sym (g_stable.only_ases a away))
  ]
    where
      by_seed : (s : Option Seed) → seeds a ≡ s → IsRightGiven (w.policy a) (seeds a) (λ n. offer w f n a) (f a) → IsRightGiven (w.policy a) (seeds a) (λ n. offer w g n a) (g a) → low (f a) ≡ low (g a)
      by_seed (Some s) is rf rg =
          let F : Option Seed → Type 0 = λ s. IsRightGiven (w.policy a) s (λ n. offer w f n a) (f a) in
          let G : Option Seed → Type 0 = λ s. IsRightGiven (w.policy a) s (λ n. offer w g n a) (g a) in
          ap low (subst F is rf ∙ sym (subst G is rg))
      by_seed None is rf rg =
          let F : Option Seed → Type 0 = λ s. IsRightGiven (w.policy a) s (λ n. offer w f n a) (f a) in
          let G : Option Seed → Type 0 = λ s. IsRightGiven (w.policy a) s (λ n. offer w g n a) (g a) in
          low_same (w.policy a) (lawful a) (w.relation a) (λ n. offer w f n a) (λ n. offer w g n a) (offers_given f a) (offers_given g a)
          (λ n linked. same_offer_up a n Customer linked (λ e. (let x : Customer ≡ Provider = e in cc)) (customers n linked)) (f a) (g a) (subst F is rf) (subst G is rg)

  -- if all have the same Origin and Customer entries, and its providers the same entries, an AS has the same entry
  full_step : ((a : ℕ) → low (f a) ≡ low (g a)) → (a : ℕ) → ((n : ℕ) → w.relation a n ≡ Some Provider → f n ≡ g n) → f a ≡ g a
  full_step lows a providers = elim (cases_Bool (w.has a)) [
    | inl here ↦
        let R : (ℕ → Option Offer) → Type 0 = λ os. IsRightGiven (w.policy a) (seeds a) os (g a) in
        one_right (w.policy a) (lawful a).ranks_offers (seeds a) (λ n. offer w f n a) (f a) (g a) (f_stable.right a here) (subst R (λ i n. same_offer n i) (g_stable.right a here))
    | inr away ↦ f_stable.only_ases a away ∙ sym (g_stable.only_ases a away)
  ]
    where
      same_offer : (n : ℕ) → offer w g n a ≡ offer w f n a
      same_offer n = by_rel (w.relation a n) refl
        where
          by_rel : (r : Option Rel) → w.relation a n ≡ r → offer w g n a ≡ offer w f n a
          by_rel None is =
              let in_link = λ (h : ℕ → Option Entry). ap (λ r. offer_given (w.policy n) (w.policy a) w.state n a r (h n)) is in
              in_link g ∙ sym (in_link f)
          by_rel (Some Customer) is = sym (same_offer_up a n Customer is (λ e. (let x : Customer ≡ Provider = e in cc)) (lows n))
          by_rel (Some Peer) is = sym (same_offer_up a n Peer is (λ e. (let x : Peer ≡ Provider = e in cc)) (lows n))
          by_rel (Some Provider) is = ap (λ x. offer_given (w.policy n) (w.policy a) w.state n a (w.relation a n) x) (sym (providers n is))

  -- with numbers that fall to customers: first the Origin and Customer entries by rising number, then all entries by falling number
  module _ (mutual_links : IsMutual w.relation) (rank : ℕ → ℕ) (top : ℕ) (falls : Falls w.relation rank top) where
    low_below : (k a : ℕ) → rank a < k → low (f a) ≡ low (g a)
    low_below zero a h = absurd (omega arith)
    low_below (suc k) a h = low_step a (λ n linked. low_below k n (let less : rank n < rank a = falls.falls a n linked in omega arith))

    lows : (a : ℕ) → low (f a) ≡ low (g a)
    lows a = low_below (suc (rank a)) a (omega arith)

    customer_of : (a n : ℕ) → w.relation a n ≡ Some Provider → w.relation n a ≡ Some Customer
    customer_of a n is = mutual_links a n ∙ ap (option_map converse) is

    full_above : (k a : ℕ) → top < rank a + k → f a ≡ g a
    full_above zero a h = absurd (let in_range : rank a ≤ top = falls.within a in omega arith)
    full_above (suc k) a h = full_step lows a (λ n linked. full_above k n (let less : rank a < rank n = falls.falls n a (customer_of a n linked) in omega arith))

    pub one_routing_by : (a : ℕ) → f a ≡ g a
    one_routing_by a = full_above (suc top) a (omega arith)

-- in a world without a provider cycle, two routings that are stable for the same seeds are equal
pub one_routing : (w : Setting) → ((a : ℕ) → IsLawful (w.policy a)) → (ases : List ℕ) → AreLinks w.relation ases → HasNoProviderCycle w.relation → (seeds : ℕ → Option Seed) (f g : ℕ → Option Entry) → IsStable w seeds f → IsStable w seeds g → (a : ℕ) → f a ≡ g a
one_routing w lawful ases links no_cycle seeds f g f_stable g_stable =
    one_routing_by w lawful seeds f g f_stable g_stable links.alike (rank_of w.relation ases links no_cycle) (length ases)
    (ranks_fall w.relation ases links no_cycle (rank_of w.relation ases links no_cycle) (rank_of-IsRank w.relation ases links no_cycle))
