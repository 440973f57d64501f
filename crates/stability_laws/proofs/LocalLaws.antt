-- The laws of one AS: what its rightness depends on, that it sends nothing low up, and that customers' offers decide.
use Rattle.std.proofs.Common.{◌≡◌, ◌≢◌, ◌⊎◌, inl, inr, ◌↔◌, ℕ, Bool, true, false, ◌&&◌, not, cond, true≢false, IsTrue, Option, Some, None, refl, sym, ◌∙◌, ap, subst}
use Rattle.std.specs.Prelude.{is_some, slice_get}
use Rattle.net_names.specs.declared.routes.Rel.{Rel}
use Rattle.net_names.specs.declared.routes.Rel.TheVariants.{Customer, Peer, Provider}
use Rattle.net_names.specs.declared.routes.State.{State}
use Rattle.policy_laws.specs.Policy.{Policy, IgnoresState, with_state}
use Rattle.net_names.specs.Links.{converse}
use Rattle.net_names.specs.Numbers.{occurs, last_or}
use Rattle.stability_laws.specs.declared.entry.Entry.{Entry}
use Rattle.stability_laws.specs.declared.entry.Seed.{Seed}
use Rattle.stability_laws.specs.Offers.{Setting, Offer, offer, offer_given, view_of, GivenBy}
use Rattle.stability_laws.specs.Stable.{IsRightGiven, IsRight, IsLawful}
use Rattle.stability_laws.specs.Laws.{SameAround, IsForCustomersOnly, if_customer, customer_offer}
use Rattle.stability_laws.specs.Steps.{low, low_by}
use Rattle.stability_laws.proofs.Local.{not_both, given_by, offers_low}

not_low : (held : Option Entry) → IsForCustomersOnly held → low held ≡ None
not_low None h = refl
not_low (Some e) h = elim h [ inl is ↦ ap (λ k. low_by k e) is | inr is ↦ ap (λ k. low_by k e) is ]

-- who holds nothing of class Origin or Customer makes no offer to a peer or a provider of its own
pub no_offer_up : (w : Setting) → ((a : ℕ) → IsLawful (w.policy a)) → (f : ℕ → Option Entry) (n a : ℕ) (from : Rel) → w.relation a n ≡ Some from → from ≢ Provider → IsForCustomersOnly (f n) → offer w f n a ≡ None
no_offer_up w lawful f n a from linked up h =
    ap (λ r. offer_given (w.policy n) (w.policy a) w.state n a r (f n)) linked
    ∙ offers_low (w.policy n) (w.policy a) (lawful n).exports_down_only w.state n a from up (f n)
    ∙ ap (offer_given (w.policy n) (w.policy a) w.state n a (Some from)) (not_low (f n) h)

-- of one AS without a seed that has an offer of a customer: the best of its customers' offers is the best of all
module _ (w : Setting) (lawful : (a : ℕ) → IsLawful (w.policy a)) (f : ℕ → Option Entry) (a : ℕ) where
  abbrev all_offers : ℕ → Option Offer
  all_offers n = offer w f n a

  abbrev customers_offers : ℕ → Option Offer
  customers_offers n = customer_offer w f n a

  p : Policy
  p = w.policy a

  of_customer : (n : ℕ) (o : Offer) → customers_offers n ≡ Some o → (w.relation a n ≡ Some Customer) × (all_offers n ≡ Some o)
  of_customer n o e = by (w.relation a n) refl e
    where
      by : (r : Option Rel) → w.relation a n ≡ r → if_customer r (offer w f n a) ≡ Some o → (w.relation a n ≡ Some Customer) × (all_offers n ≡ Some o)
      by None is e = cc
      by (Some Customer) is e = (is, e)
      by (Some Peer) is e = cc
      by (Some Provider) is e = cc

  customers_among : (n : ℕ) → w.relation a n ≡ Some Customer → customers_offers n ≡ all_offers n
  customers_among n is = ap (λ r. if_customer r (offer w f n a)) is

  rel_of : (n : ℕ) (o : Offer) → all_offers n ≡ Some o → GivenBy (w.relation a n) n o
  rel_of n o e = given_by (w.policy n) (w.policy a) w.state n a (w.relation a n) (f n) o e

  -- an offer of no customer is not before one of a customer
  module _ (n : ℕ) (o : Offer) (made : all_offers n ≡ Some o) (customer : w.relation a n ≡ Some Customer) (m : ℕ) (q : Offer) (other : all_offers m ≡ Some q) where
    customer_rel : o.view.rel ≡ Customer
    customer_rel = let from = rel_of n o made in let e : Some from.from ≡ Some Customer = sym from.linked ∙ customer in from.rel ∙ (let x : from.from ≡ Customer = cc in x)

    before_others : ((w.relation a m ≡ Some Customer) → ⊥) → IsTrue (p.before o.view q.view)
    unfolding p
    before_others apart = (lawful a).prefers_customers o.view q.view customer_rel (λ e. apart ((rel_of m q other).linked ∙ ap Some (sym (rel_of m q other).rel ∙ e)))

  customer_or : (m : ℕ) → (w.relation a m ≡ Some Customer) ⊎ ((w.relation a m ≡ Some Customer) → ⊥)
  customer_or m = by (w.relation a m)
    where
      by : (r : Option Rel) → (r ≡ Some Customer) ⊎ (r ≡ Some Customer → ⊥)
      by None = inr (λ e. (let x : None ≡ Some Customer = e in cc))
      by (Some Customer) = inl refl
      by (Some Peer) = inr (λ e. (let x : Some Peer ≡ Some Customer = e in cc))
      by (Some Provider) = inr (λ e. (let x : Some Provider ≡ Some Customer = e in cc))

  module _ (c : ℕ) (o : Offer) (has_customer : customers_offers c ≡ Some o) where
    down : (held : Option Entry) → IsRightGiven p None all_offers held → IsRightGiven p None customers_offers held
    unfolding p
    down None right = let none : all_offers c ≡ None = right c in let some : all_offers c ≡ Some o = (of_customer c o has_customer).1 in cc
    down (Some e) (n, b, best, is) = elim (customer_or n) [
      | inl here ↦ (n, b, record { made = customers_among n here ∙ best.made; first = λ m q given ne. best.first m q (of_customer m q given).1 ne }, is)
      | inr apart ↦ absurd (let there = of_customer c o has_customer in
          not_both (w.policy a) (lawful a).ranks_offers b.view o.view
          (best.first c o there.1 (λ e. apart (subst (λ t. w.relation a t ≡ Some Customer) e there.0)))
          (before_others c o there.1 there.0 n b best.made apart))
    ]

    up : (held : Option Entry) → IsRightGiven p None customers_offers held → IsRightGiven p None all_offers held
    unfolding p
    up None right = let none : customers_offers c ≡ None = right c in cc
    up (Some e) (n, b, best, is) =
        let there = of_customer n b best.made in (
          n,
          b,
          record {
            made = there.1;
            first = λ m q given ne. elim (customer_or m) [
              | inl here ↦ best.first m q (customers_among m here ∙ given) ne
              | inr apart ↦ before_others n b there.1 there.0 m q given apart
            ];
          },
          is,
        )

    pub customers_decide : (held : Option Entry) → IsRightGiven (w.policy a) None (λ n. offer w f n a) held ↔ IsRightGiven (w.policy a) None (λ n. customer_offer w f n a) held
    unfolding p
    customers_decide held = (down held, up held)

-- ---- what rightness depends on

-- two offers of one entry, whose views differ in the state at most
record Alike (o q : Offer) : Type 0 where
  entry : o.entry ≡ q.entry
  state : State
  view : q.view ≡ with_state o.view state

AreAlike : Option Offer → Option Offer → Type 0
AreAlike None None = Unit {0}
AreAlike None (Some q) = ⊥
AreAlike (Some o) None = ⊥
AreAlike (Some o) (Some q) = Alike o q

alike_when : (b c : Bool) (o q : Offer) → b ≡ c → Alike o q → AreAlike (cond b (Some o) None) (cond c (Some q) None)
unfolding AreAlike
alike_when true true o q e h = h
alike_when true false o q e h = absurd (true≢false e)
alike_when false true o q e h = absurd (true≢false (sym e))
alike_when false false o q e h = tt

-- the states change the view alone, where the receiver doesn't read them
offers_alike : (sender p : Policy) → IgnoresState p → p.reads_state ≡ false → (st st' : ℕ → State) (n a : ℕ) (relation : Option Rel) (held : Option Entry) → AreAlike (offer_given sender p st n a relation held) (offer_given sender p st' n a relation held)
unfolding AreAlike
offers_alike s p ignores unread st st' n a None held = tt
offers_alike s p ignores unread st st' n a (Some from) None = tt
offers_alike s p ignores unread st st' n a (Some from) (Some e) =
    alike_when _ _ _ _
    (ap (λ b. s.exports e.class e.otc (converse from) && (is_some (slice_get e.path 0) && (not (occurs a e.path) && b)))
    (sym (ignores.accepts unread (view_of s.marks st n from e) (st' (last_or 0 e.path)))))
    (record { entry = refl; state = st' (last_or 0 e.path); view = refl })

-- the sender's part in an offer is what it exports and whether it marks
pub same_sender : (s s' p : Policy) → s.exports ≡ s'.exports → s.marks ≡ s'.marks → (st : ℕ → State) (n a : ℕ) (relation : Option Rel) (held : Option Entry) → offer_given s p st n a relation held ≡ offer_given s' p st n a relation held
same_sender s s' p ex mk st n a None held = refl
same_sender s s' p ex mk st n a (Some from) None = refl
same_sender s s' p ex mk st n a (Some from) (Some e) =
    λ i. offer_given (record s { exports = ex i; marks = mk i }) p st n a (Some from) (Some e)

partner : (x y : Option Offer) → AreAlike x y → (o : Offer) → x ≡ Some o → (q : Offer) × (y ≡ Some q) × Alike o q
unfolding AreAlike
partner None y h o e = cc
partner (Some o') None h o e = absurd h
partner (Some o') (Some q) h o e = (q, refl, subst (λ t. Alike t q) (let x : o' ≡ o = cc in x) h)

partner_back : (x y : Option Offer) → AreAlike x y → (q : Offer) → y ≡ Some q → (o : Offer) × (x ≡ Some o) × Alike o q
unfolding AreAlike
partner_back x None h q e = cc
partner_back None (Some q') h q e = absurd h
partner_back (Some o) (Some q') h q e = (o, refl, subst (Alike o) (let x : q' ≡ q = cc in x) h)

none_too : (x y : Option Offer) → AreAlike x y → x ≡ None → y ≡ None
unfolding AreAlike
none_too None None h e = refl
none_too None (Some q) h e = absurd h
none_too (Some o) y h e = cc

alike_right : (p : Policy) → IgnoresState p → p.reads_state ≡ false → (os qs : ℕ → Option Offer) → ((n : ℕ) → AreAlike (os n) (qs n)) → (seed : Option Seed) (held : Option Entry) → IsRightGiven p seed os held → IsRightGiven p seed qs held
alike_right p ignores unread os qs alike (Some s) held right = right
alike_right p ignores unread os qs alike None None right = λ n. none_too (os n) (qs n) (alike n) (right n)
alike_right p ignores unread os qs alike None (Some e) (n, o, best, is) =
    let (q, made, same) = partner (os n) (qs n) (alike n) o best.made in (
      n,
      q,
      record {
        made = made;
        first = λ m q' made' ne.
            let (o', there, same') = partner_back (os m) (qs m) (alike m) q' made' in
            ap (λ x. p.before x q'.view) same.view ∙ ap (p.before (with_state o.view same.state)) same'.view ∙ ignores.before unread o.view o'.view same.state same'.state ∙ best.first m o' there ne;
      },
      is ∙ same.entry,
    )

-- whether a routing is right at an AS depends on what is around it
pub right_around : (v w : Setting) (f g : ℕ → Option Entry) (seeds seeds' : ℕ → Option Seed) (a : ℕ) → SameAround v w f g a → IgnoresState (w.policy a) → seeds a ≡ seeds' a → f a ≡ g a → IsRight v seeds f a → IsRight w seeds' g a
right_around v w f g seeds seeds' a same ignores seed entry right = elim same.states [
  | inl unread ↦ alike_right (w.policy a) ignores unread (λ n. in_w v.state n) (λ n. in_w w.state n) (λ n. offers_alike (w.policy n) (w.policy a) ignores unread v.state w.state n a (w.relation a n) (g n)) (seeds' a) (g a) moved
  | inr states ↦ (let F : (ℕ → State) → Type 0 = λ st. IsRightGiven (w.policy a) (seeds' a) (λ n. in_w st n) (g a) in subst F (λ i o. states o i) moved)
]
  where
    in_w : (ℕ → State) → ℕ → Option Offer
    in_w st n = offer_given (w.policy n) (w.policy a) st n a (w.relation a n) (g n)

    by_link : (n : ℕ) (r : Option Rel) → w.relation a n ≡ r → offer_given (v.policy n) (w.policy a) v.state n a r (f n) ≡ offer_given (w.policy n) (w.policy a) v.state n a r (g n)
    by_link n None is = refl
    by_link n (Some r) is =
        same_sender (v.policy n) (w.policy n) (w.policy a) (same.exports n r is) (same.marks n r is) v.state n a (Some r) (f n)
        ∙ ap (offer_given (w.policy n) (w.policy a) v.state n a (Some r)) (same.entries n r is)

    offers : (n : ℕ) → offer v f n a ≡ in_w v.state n
    offers n = (λ i. offer_given (v.policy n) (same.policy i) v.state n a (same.links n i) (f n)) ∙ by_link n (w.relation a n) refl

    moved : IsRightGiven (w.policy a) (seeds' a) (λ n. in_w v.state n) (g a)
    moved =
        let G : Policy → Option Seed → Option Entry → Type 0 = λ p s h. IsRightGiven p s (λ n. offer v f n a) h in
        let here : IsRightGiven (w.policy a) (seeds' a) (λ n. offer v f n a) (g a) = coe 0 1 (i. G (same.policy i) (seed i) (entry i)) right in
        let H : (ℕ → Option Offer) → Type 0 = λ os. IsRightGiven (w.policy a) (seeds' a) os (g a) in
        subst H (λ i n. offers n i) here
