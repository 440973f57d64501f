-- What a step of a pass keeps and makes right: a pass over customers' offers alone, and one over all offers.
use Rattle.std.proofs.Common.{◌≡◌, ◌≢◌, inl, inr, ℕ, Option, Some, None, refl, sym, ◌∙◌, ap, subst}
use Rattle.std.proofs.lemmas.Bool.{cases_eq}
use Rattle.net_names.specs.declared.routes.Class.{Class}
use Rattle.net_names.specs.declared.routes.Class.TheVariants as class
use Rattle.net_names.specs.declared.routes.Rel.{Rel}
use Rattle.net_names.specs.declared.routes.Rel.TheVariants.{Customer, Peer, Provider}
use Rattle.stability_laws.specs.declared.entry.Entry.{Entry}
use Rattle.stability_laws.specs.declared.entry.Seed.{Seed}
use Rattle.stability_laws.specs.Entries.{class_of}
use Rattle.stability_laws.specs.Offers.{Setting, Offer, offer, offer_given, GivenBy}
use Rattle.stability_laws.specs.Stable.{IsRightGiven, IsRight, IsLawful}
use Rattle.stability_laws.specs.Laws.{customer_offer, if_customer}
use Rattle.stability_laws.specs.Steps.{low, low_by, lows, IsStepUp, IsStepWhole, IsRightUp}
use Rattle.stability_laws.proofs.Local.{not_both, one_right, given_by, offers_low}

module _ (w : Setting) (lawful : (a : ℕ) → IsLawful (w.policy a)) where
  offered_by : (f : ℕ → Option Entry) (n a : ℕ) (o : Offer) → offer w f n a ≡ Some o → GivenBy (w.relation a n) n o
  offered_by f n a o e = given_by (w.policy n) (w.policy a) w.state n a (w.relation a n) (f n) o e

  over_link : (f : ℕ → Option Entry) (n a : ℕ) (r : Option Rel) → w.relation a n ≡ r → offer w f n a ≡ offer_given (w.policy n) (w.policy a) w.state n a r (f n)
  over_link f n a r is = ap (λ r. offer_given (w.policy n) (w.policy a) w.state n a r (f n)) is

  -- an offer depends on the entry at its giver alone
  pub same_offer : (f g : ℕ → Option Entry) (n a : ℕ) → f n ≡ g n → offer w f n a ≡ offer w g n a
  same_offer f g n a e = ap (λ h. offer_given (w.policy n) (w.policy a) w.state n a (w.relation a n) h) e

  -- who is no provider offers of its Origin and Customer entries alone
  pub low_offer : (f : ℕ → Option Entry) (n a : ℕ) → w.relation a n ≢ Some Provider → offer w f n a ≡ offer w (lows f) n a
  low_offer f n a up = by (w.relation a n) refl
    where
      by : (r : Option Rel) → w.relation a n ≡ r → offer w f n a ≡ offer w (lows f) n a
      by None is = over_link f n a None is ∙ sym (over_link (lows f) n a None is)
      by (Some from) is = over_link f n a (Some from) is ∙ offers_low (w.policy n) (w.policy a) (lawful n).exports_down_only w.state n a from (λ e. up (is ∙ ap Some e)) (f n) ∙ sym (over_link (lows f) n a (Some from) is)

  pub customer_made : (f : ℕ → Option Entry) (n a : ℕ) (o : Offer) → customer_offer w f n a ≡ Some o → (w.relation a n ≡ Some Customer) × (offer w f n a ≡ Some o)
  customer_made f n a o made = by (w.relation a n) refl made
    where
      by : (r : Option Rel) → w.relation a n ≡ r → if_customer r (offer w f n a) ≡ Some o → (w.relation a n ≡ Some Customer) × (offer w f n a ≡ Some o)
      by None is e = cc
      by (Some Customer) is e = (is, e)
      by (Some Peer) is e = cc
      by (Some Provider) is e = cc

  if_customer_is : (f : ℕ → Option Entry) (n a : ℕ) (r : Option Rel) → w.relation a n ≡ r → customer_offer w f n a ≡ if_customer r (offer w f n a)
  if_customer_is f n a r is = ap (λ r. if_customer r (offer w f n a)) is

  -- two routings with the same offers of customers
  by_customer : (f g : ℕ → Option Entry) (n a : ℕ) → (w.relation a n ≡ Some Customer → offer w f n a ≡ offer w g n a) → customer_offer w f n a ≡ customer_offer w g n a
  by_customer f g n a same = by (w.relation a n) refl
    where
      by : (r : Option Rel) → w.relation a n ≡ r → if_customer r (offer w f n a) ≡ if_customer r (offer w g n a)
      by None is = refl
      by (Some Customer) is = same is
      by (Some Peer) is = refl
      by (Some Provider) is = refl

  low_customer_offer : (f : ℕ → Option Entry) (n a : ℕ) → customer_offer w f n a ≡ customer_offer w (lows f) n a
  low_customer_offer f n a = by_customer f (lows f) n a (λ is. low_offer f n a (λ p. (let x : Some Customer ≡ Some Provider = sym is ∙ p in cc)))

  -- of what is right with all offers, the Origin and Customer part is right with those of customers
  pub low_right : (seed : Option Seed) (f : ℕ → Option Entry) (a : ℕ) (held : Option Entry) → IsRightGiven (w.policy a) seed (λ n. offer w f n a) held → IsRightGiven (w.policy a) seed (λ n. customer_offer w f n a) (low held)
  low_right (Some s) f a held right = ap low right
  low_right None f a None right = λ n. by n (w.relation a n) refl
    where
      by : (n : ℕ) (r : Option Rel) → w.relation a n ≡ r → customer_offer w f n a ≡ None
      by n None is = if_customer_is f n a None is
      by n (Some Customer) is = if_customer_is f n a (Some Customer) is ∙ right n
      by n (Some Peer) is = if_customer_is f n a (Some Peer) is
      by n (Some Provider) is = if_customer_is f n a (Some Provider) is
  low_right None f a (Some e) (n, o, best, is) = by from.from refl
    where
      from : GivenBy (w.relation a n) n o
      from = offered_by f n a o best.made

      class_is : (r : Rel) → from.from ≡ r → e.class ≡ class_of r
      class_is r x = ap (λ (t : Entry). t.class) is ∙ from.class ∙ ap class_of x

      Right : Option Entry → Type 0
      Right held = IsRightGiven (w.policy a) None (λ n. customer_offer w f n a) held

      -- a customer's offer would be before the best
      none_up : (r : Rel) → from.from ≡ r → r ≢ Customer → (m : ℕ) → customer_offer w f m a ≡ None
      none_up r x other m = at (customer_offer w f m a) refl
        where
          at : (q : Option Offer) → customer_offer w f m a ≡ q → customer_offer w f m a ≡ None
          at None made = made
          at (Some q) made =
              let (linked, made') = customer_made f m a q made in
              let of_m : GivenBy (w.relation a m) m q = offered_by f m a q made' in
              let is_customer : of_m.from ≡ Customer = (let l : Some of_m.from ≡ Some Customer = sym of_m.linked ∙ linked in cc) in
              let apart : m ≢ n = λ same. other (let l : Some from.from ≡ Some Customer = sym from.linked ∙ sym (ap (w.relation a) same) ∙ linked in let k : from.from ≡ r = x in cc) in
              absurd (not_both (w.policy a) (lawful a).ranks_offers o.view q.view (best.first m q made' apart)
              ((lawful a).prefers_customers q.view o.view (of_m.rel ∙ is_customer) (λ c. other (sym x ∙ sym from.rel ∙ c))))

      by : (r : Rel) → from.from ≡ r → Right (low_by e.class e)
      by Customer x =
          subst (λ (k : Class). Right (low_by k e)) (sym (class_is Customer x))
          (n, o, record { made = if_customer_is f n a (Some Customer) (from.linked ∙ ap Some x) ∙ best.made; first = λ m q made ne. best.first m q (customer_made f m a q made).1 ne }, is)
      by Peer x = subst (λ (k : Class). Right (low_by k e)) (sym (class_is Peer x)) (none_up Peer x (λ c. (let y : Peer ≡ Customer = c in cc)))
      by Provider x = subst (λ (k : Class). Right (low_by k e)) (sym (class_is Provider x)) (none_up Provider x (λ c. (let y : Provider ≡ Customer = c in cc)))

  -- what is right with the customers' offers is of class Origin or Customer
  pub up_is_low : (seed : Option Seed) (f : ℕ → Option Entry) (a : ℕ) (held : Option Entry) → IsRightGiven (w.policy a) seed (λ n. customer_offer w f n a) held → low held ≡ held
  up_is_low (Some s) f a held right = ap low right ∙ sym right
  up_is_low None f a None right = refl
  up_is_low None f a (Some e) (n, o, best, is) =
      let (linked, made) = customer_made f n a o best.made in
      let from : GivenBy (w.relation a n) n o = offered_by f n a o made in
      let is_customer : from.from ≡ Customer = (let l : Some from.from ≡ Some Customer = sym from.linked ∙ linked in cc) in
      let class_is : e.class ≡ class.Customer = ap (λ (t : Entry). t.class) is ∙ from.class ∙ ap class_of is_customer in
      ap (λ (k : Class). low_by k e) class_is

  -- who is right stays right where the offers to it and what it holds stay the same
  right_still : (seed : Option Seed) (a : ℕ) (offers new : ℕ → Option Offer) (held now : Option Entry) → ((n : ℕ) → offers n ≡ new n) → held ≡ now → IsRightGiven (w.policy a) seed offers held → IsRightGiven (w.policy a) seed new now
  right_still seed a offers new held now same still right = coe 0 1 (i. IsRightGiven (w.policy a) seed (λ n. same n i) (still i)) right

  -- a step over customers' offers
  module _ (seeds : ℕ → Option Seed) (f g : ℕ → Option Entry) (a : ℕ) (step : IsStepUp w seeds f a g) where
    same_from_customers : (b : ℕ) → w.relation b a ≢ Some Customer → (n : ℕ) → customer_offer w f n b ≡ customer_offer w g n b
    same_from_customers b apart n = by_customer f g n b (λ is. elim (cases_eq n a) [
      | inl e ↦ absurd (apart (sym (ap (w.relation b) e) ∙ is))
      | inr ne ↦ same_offer f g n b (sym (step.others n ne))
    ])

    -- who has a for no customer stays right by its customers' offers
    pub up_keeps : (b : ℕ) → b ≢ a → w.relation b a ≢ Some Customer → IsRightUp w seeds f b → IsRightUp w seeds g b
    up_keeps b ne apart right = right_still (seeds b) b (λ n. customer_offer w f n b) (λ n. customer_offer w g n b) (f b) (g b) (same_from_customers b apart) (sym (step.others b ne)) right

    -- and a becomes so
    pub up_now : w.relation a a ≡ None → IsRightUp w seeds g a
    up_now none = right_still (seeds a) a (λ n. customer_offer w f n a) (λ n. customer_offer w g n a) (g a) (g a) (same_from_customers a (λ p. (let x : None ≡ Some Customer = sym none ∙ p in cc))) refl step.right

  -- a step over all offers
  module _ (seeds : ℕ → Option Seed) (f g : ℕ → Option Entry) (a : ℕ) (step : IsStepWhole w seeds f a g) where
    -- is one over customers' offers of the Origin and Customer entries
    pub whole_low : IsStepUp w seeds (lows f) a (lows g)
    whole_low =
        let F : (ℕ → Option Offer) → Type 0 = λ os. IsRightGiven (w.policy a) (seeds a) os (low (g a)) in
        record {
          others = λ n ne. ap low (step.others n ne);
          right = subst F (λ i n. low_customer_offer f n a i) (low_right (seeds a) f a (g a) step.right);
        }

    -- where these are right, they stay
    pub whole_low_same : IsRightUp w seeds (lows f) a → (n : ℕ) → low (f n) ≡ low (g n)
    whole_low_same up n = elim (cases_eq n a) [
      | inl e ↦ subst (λ t. low (f t) ≡ low (g t)) (sym e) (one_right (w.policy a) (lawful a).ranks_offers (seeds a) (λ n. customer_offer w (lows f) n a) (low (f a)) (low (g a)) up whole_low.right)
      | inr ne ↦ ap low (sym (step.others n ne))
    ]

    module _ (same : (n : ℕ) → low (f n) ≡ low (g n)) where
      same_offers : (b : ℕ) → w.relation b a ≢ Some Provider → (n : ℕ) → offer w f n b ≡ offer w g n b
      same_offers b apart n = elim (cases_eq n a) [
        | inl e ↦ subst (λ t. offer w f t b ≡ offer w g t b) (sym e) (low_offer f a b apart ∙ same_offer (lows f) (lows g) a b (same a) ∙ sym (low_offer g a b apart))
        | inr ne ↦ same_offer f g n b (sym (step.others n ne))
      ]

      -- who has a for no provider stays right
      pub whole_keeps : (b : ℕ) → b ≢ a → w.relation b a ≢ Some Provider → IsRight w seeds f b → IsRight w seeds g b
      whole_keeps b ne apart right = right_still (seeds b) b (λ n. offer w f n b) (λ n. offer w g n b) (f b) (g b) (same_offers b apart) (sym (step.others b ne)) right

      -- and a becomes right
      pub whole_now : w.relation a a ≡ None → IsRight w seeds g a
      whole_now none = right_still (seeds a) a (λ n. offer w f n a) (λ n. offer w g n a) (g a) (g a) (same_offers a (λ p. (let x : None ≡ Some Provider = sym none ∙ p in cc))) refl step.right
