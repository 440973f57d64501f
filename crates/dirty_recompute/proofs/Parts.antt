-- What one AS holds on each of the two ways, from the statements of the laws alone.
use Rattle.std.proofs.Common.{◌≡◌, ◌≢◌, ◌⊎◌, inl, inr, ℕ, Option, Some, None, option_map, refl, sym, ◌∙◌, ap, subst, IsTrue}
use Rattle.std.proofs.lemmas.Bool.{cases_eq}
use Rattle.net_names.specs.declared.routes.Class.{Class}
use Rattle.net_names.specs.declared.routes.Class.TheVariants as class
use Rattle.net_names.specs.declared.routes.Rel.{Rel}
use Rattle.net_names.specs.declared.routes.Rel.TheVariants.{Customer, Peer, Provider}
use Rattle.net_names.specs.declared.routes.State.{State}
use Rattle.policy_laws.specs.Policy.{Policy, RanksOffers}
use Rattle.as_graph.specs.Topology.{Topology, relation}
use Rattle.as_graph.proofs.Links.{relation_mutual}
use Rattle.net_names.specs.Links.{converse}
use Rattle.stability_laws.specs.declared.entry.Entry.{Entry}
use Rattle.stability_laws.specs.declared.entry.Seed.{Seed}
use Rattle.stability_laws.specs.Entries.{class_of, seed_entry}
use Rattle.stability_laws.specs.Book.{PolicyBook, policy_at}
use Rattle.stability_laws.specs.World.{setting}
use Rattle.stability_laws.specs.Offers.{Setting, Offer, GivenBy, offer}
use Rattle.stability_laws.specs.Stable.{IsRightGiven, IsRight}
use Rattle.stability_laws.specs.Laws.{OfferNames, OfferFollows, RightByOffers, NothingUp, CustomersDecide, IsForCustomersOnly, customer_offer, if_customer}
use Rattle.stability_laws.proofs.Local.{one_right}
use Rattle.stability_laws.specs.Steps.{low, low_by}
use Rattle.dirty_recompute.specs.Steps.{IsRightLow}

pub low_some : (h : Option Entry) (e : Entry) → low h ≡ Some e → h ≡ Some e
low_some None e x = cc
low_some (Some d) e x = by d.class x
  where
    by : (k : Class) → low_by k d ≡ Some e → Some d ≡ Some e
    by class.Origin x = x
    by class.Customer x = x
    by class.Peer x = cc
    by class.Provider x = cc

pub low_down : (h : Option Entry) → low h ≡ None → IsForCustomersOnly h
low_down None x = tt
low_down (Some d) x = by d.class refl x
  where
    by : (k : Class) → d.class ≡ k → low_by k d ≡ None → (d.class ≡ class.Peer) ⊎ (d.class ≡ class.Provider)
    by class.Origin is x = cc
    by class.Customer is x = cc
    by class.Peer is x = inl is
    by class.Provider is x = inr is

pub down_low : (h : Option Entry) → IsForCustomersOnly h → low h ≡ None
down_low None d = refl
down_low (Some e) (inl is) = ap (λ k. low_by k e) is
down_low (Some e) (inr is) = ap (λ k. low_by k e) is

-- who has a seed stays right, and who holds no offer of a and to whom a's new offer, if any, isn't the best, does too
pub record IsUnmoved (p : Policy) (before after : ℕ → Option Offer) (held : Option Entry) (a : ℕ) : Type 0 where
  pub not_held : (o : Offer) → before a ≡ Some o → held ≢ Some o.entry
  pub beaten : (after a ≡ None) ⊎ ((m : ℕ) × (q : Offer) × (n : Offer) × (m ≢ a) × (before m ≡ Some q) × (after a ≡ Some n) × IsTrue (p.before q.view n.view))

pub stays : (p : Policy) → RanksOffers p → (seed : Option Seed) (before after : ℕ → Option Offer) (held : Option Entry) (a : ℕ) → ((n : ℕ) → n ≢ a → before n ≡ after n) → IsUnmoved p before after held a → IsRightGiven p seed before held → IsRightGiven p seed after held
stays p r (Some s) before after held a others un right = right
stays p r None before after None a others un right = λ n. elim (cases_eq n a) [
  | inl e ↦ ap after e ∙ none un.beaten
  | inr ne ↦ sym (others n ne) ∙ right n
]
  where
    none : (after a ≡ None) ⊎ ((m : ℕ) × (q : Offer) × (n : Offer) × (m ≢ a) × (before m ≡ Some q) × (after a ≡ Some n) × IsTrue (p.before q.view n.view)) → after a ≡ None
    none (inl e) = e
    none (inr (m, q, n, ne, made, new, lt)) = let x : before m ≡ None = right m in let y : before m ≡ Some q = made in cc
stays p r None before after (Some e) a others un (n, o, best, is) = (n, o, record { made = sym (others n apart) ∙ best.made; first = first }, is)
  where
    apart : n ≢ a
    apart x = un.not_held o (ap before (sym x) ∙ best.made) (ap Some is)

    over : (other : Offer) → after a ≡ Some other → (after a ≡ None) ⊎ ((m : ℕ) × (q : Offer) × (n : Offer) × (m ≢ a) × (before m ≡ Some q) × (after a ≡ Some n) × IsTrue (p.before q.view n.view)) → IsTrue (p.before o.view other.view)
    over other made (inl x) = (let y : after a ≡ Some other = made in let z : after a ≡ None = x in cc)
    over other made (inr (m, q, new, ne, made_q, made_new, lt)) =
        let both : Some new ≡ Some other = sym made_new ∙ made in
        let same : new ≡ other = cc in
        let beats : IsTrue (p.before q.view other.view) = subst (λ t. IsTrue (p.before q.view t.view)) same lt in
        elim (cases_eq m n) [
          | inl e ↦ let two : Some q ≡ Some o = sym made_q ∙ ap before e ∙ best.made in let one : q ≡ o = cc in subst (λ t. IsTrue (p.before t.view other.view)) one beats
          | inr apart ↦ r.transitive o.view q.view other.view (best.first m q made_q apart) beats
        ]

    first : (m : ℕ) (other : Offer) → after m ≡ Some other → m ≢ n → IsTrue (p.before o.view other.view)
    first m other made ne = elim (cases_eq m a) [
      | inl e ↦ over other (ap after (sym e) ∙ made) un.beaten
      | inr away ↦ best.first m other (others m away ∙ made) ne
    ]

module _ {P : Type 0} (meaning : P → Policy) (ranks_offers : (p : P) → RanksOffers (meaning p)) (names : OfferNames meaning) (follows : OfferFollows meaning) (by_offers : RightByOffers meaning) (nothing_up : NothingUp meaning) (decide : CustomersDecide meaning) (w : Topology) (book : PolicyBook P) (state : ℕ → State) (seeds : ℕ → Option Seed) where
  abbrev there : Setting
  there = setting meaning w book state

  abbrev IsRightBy : (ℕ → Option Entry) → ℕ → Option Seed → Option Entry → Type 0
  IsRightBy f a s held = IsRightGiven (meaning (policy_at book a)) s (λ n. offer there f n a) held

  abbrev IsLowBy : (ℕ → Option Entry) → ℕ → Option Seed → Option Entry → Type 0
  IsLowBy f a s held = IsRightGiven (meaning (policy_at book a)) s (λ n. customer_offer there f n a) held

  pub customer_given : (f : ℕ → Option Entry) (n a : ℕ) (o : Offer) → customer_offer there f n a ≡ Some o → (relation w a n ≡ Some Customer) × (offer there f n a ≡ Some o)
  customer_given f n a o e = by (relation w a n) refl e
    where
      by : (r : Option Rel) → relation w a n ≡ r → if_customer r (offer there f n a) ≡ Some o → (relation w a n ≡ Some Customer) × (offer there f n a ≡ Some o)
      by None is e = cc
      by (Some Customer) is e = (is, e)
      by (Some Peer) is e = cc
      by (Some Provider) is e = cc

  -- an entry that is right but for the customers' offers is for customers only
  pub for_customers : (f : ℕ → Option Entry) (a : ℕ) (held : Option Entry) → ((n : ℕ) → customer_offer there f n a ≡ None) → IsRightGiven (meaning (policy_at book a)) None (λ n. offer there f n a) held → IsForCustomersOnly held
  for_customers f a None up right = tt
  for_customers f a (Some e) up (n, o, best, is) = by from.from refl
    where
      from : GivenBy (relation w a n) n o
      from = names w book state f n a o best.made

      by : (r : Rel) → from.from ≡ r → (e.class ≡ class.Peer) ⊎ (e.class ≡ class.Provider)
      by Customer x = let at : relation w a n ≡ Some Customer = from.linked ∙ ap Some x in
          let none : offer there f n a ≡ None = sym (ap (λ r. if_customer r (offer there f n a)) at) ∙ up n in
          let some : offer there f n a ≡ Some o = best.made in cc
      by Peer x = inl (ap (λ (t : Entry). t.class) is ∙ from.class ∙ ap class_of x)
      by Provider x = inr (ap (λ (t : Entry). t.class) is ∙ from.class ∙ ap class_of x)

  pub unlinked : (h : ℕ → Option Entry) (a b : ℕ) → relation w b a ≡ None → offer there h a b ≡ None
  unlinked h a b none = by (offer there h a b) refl
    where
      by : (o : Option Offer) → offer there h a b ≡ o → o ≡ None
      by None e = refl
      by (Some o) e = let from : GivenBy (relation w b a) a o = names w book state h a b o e in let x : None ≡ Some from.from = sym none ∙ from.linked in cc

  -- f and g differ at a alone, where neither holds anything for others than customers
  module _ (f g : ℕ → Option Entry) (a : ℕ) (others : (n : ℕ) → n ≢ a → f n ≡ g n) (f_down : IsForCustomersOnly (f a)) (g_down : IsForCustomersOnly (g a)) where
    not_to_customer : (r : Rel) → r ≢ Provider → converse r ≢ Customer
    not_to_customer Customer p e = (let x : Provider ≡ Customer = e in cc)
    not_to_customer Peer p e = (let x : Peer ≡ Customer = e in cc)
    not_to_customer Provider p e = p refl

    -- a makes no offer to whom it isn't a provider
    none_of_a : (h : ℕ → Option Entry) → IsForCustomersOnly (h a) → (b : ℕ) → (relation w b a ≢ Some Provider) → offer there h a b ≡ None
    none_of_a h down b not_provider = by (relation w b a) refl
      where
        by : (r : Option Rel) → relation w b a ≡ r → offer there h a b ≡ None
        by None e = unlinked h a b e
        by (Some r) e = nothing_up w book state h a b (converse r) (relation_mutual w b a ∙ ap (option_map converse) e) (not_to_customer r (λ p. not_provider (e ∙ ap Some p))) down

    pub same_offers : (b : ℕ) → (relation w b a ≢ Some Provider) → (n : ℕ) → offer there f n b ≡ offer there g n b
    same_offers b not_provider n = elim (cases_eq n a) [
      | inl e ↦ subst (λ t. offer there f t b ≡ offer there g t b) (sym e) (none_of_a f f_down b not_provider ∙ sym (none_of_a g g_down b not_provider))
      | inr ne ↦ follows w w book book state f g n b refl refl refl refl (others n ne)
    ]

  no_customer : (r : Option Rel) → if_customer r None ≡ None
  no_customer None = refl
  no_customer (Some Customer) = refl
  no_customer (Some Peer) = refl
  no_customer (Some Provider) = refl

  -- what is held by the customers' offers is of class Customer
  pub by_customer : (f : ℕ → Option Entry) (a : ℕ) (e : Entry) → IsLowBy f a None (Some e) → e.class ≡ class.Customer
  by_customer f a e (n, o, best, is) =
      let got = customer_given f n a o best.made in
      let from : GivenBy (relation w a n) n o = names w book state f n a o got.1 in
      let at : Some from.from ≡ Some Customer = sym from.linked ∙ got.0 in
      let r : from.from ≡ Customer = cc in
      ap (λ (t : Entry). t.class) is ∙ from.class ∙ ap class_of r

  low_of : (f : ℕ → Option Entry) (a : ℕ) (s : Option Seed) (held : Option Entry) → IsRightBy f a s held → IsLowBy f a s (low held)
  low_of f a (Some s) held right = ap low right
  low_of f a None None right = λ n. ap (if_customer (relation w a n)) (right n) ∙ no_customer (relation w a n)
  low_of f a None (Some e) right = pick right
    where
      none : e.class ≢ class.Customer → (n : ℕ) → customer_offer there f n a ≡ None
      none ne n = by (customer_offer there f n a) refl
        where
          by : (o : Option Offer) → customer_offer there f n a ≡ o → o ≡ None
          by None is = refl
          by (Some o) is = absurd (ne (by_customer f a e ((decide w book state f a n o is (Some e)).0 right)))

      pick : IsRightBy f a None (Some e) → IsLowBy f a None (low (Some e))
      pick (n, o, best, is) = by from.from refl
        where
          from : GivenBy (relation w a n) n o
          from = names w book state f n a o best.made

          class_is : (r : Rel) → from.from ≡ r → e.class ≡ class_of r
          class_is r x = ap (λ (t : Entry). t.class) is ∙ from.class ∙ ap class_of x

          by : (r : Rel) → from.from ≡ r → IsLowBy f a None (low (Some e))
          by Customer x =
              let at : relation w a n ≡ Some Customer = from.linked ∙ ap Some x in
              let made : customer_offer there f n a ≡ Some o = ap (λ r. if_customer r (offer there f n a)) at ∙ best.made in
              let F : Option Entry → Type 0 = λ h. IsLowBy f a None h in
              subst F (sym (ap (λ k. low_by k e) (class_is Customer x))) ((decide w book state f a n o made (Some e)).0 right)
          by Peer x =
              let F : Option Entry → Type 0 = λ h. IsLowBy f a None h in
              subst F (sym (ap (λ k. low_by k e) (class_is Peer x))) (none (λ c. (let y : class.Peer ≡ class.Customer = sym (class_is Peer x) ∙ c in cc)))
          by Provider x =
              let F : Option Entry → Type 0 = λ h. IsLowBy f a None h in
              subst F (sym (ap (λ k. low_by k e) (class_is Provider x))) (none (λ c. (let y : class.Provider ≡ class.Customer = sym (class_is Provider x) ∙ c in cc)))

  -- who is right is right by its customers' offers
  pub right_low : (f : ℕ → Option Entry) (a : ℕ) → IsRight there seeds f a → IsRightLow there seeds f a
  right_low f a right = low_of f a (seeds a) (f a) right

  of_low : (f : ℕ → Option Entry) (a : ℕ) (s : Option Seed) (held : Option Entry) (e : Entry) → low held ≡ Some e → IsLowBy f a s (low held) → IsRightBy f a s held
  of_low f a (Some s) held e is right = low_some held (seed_entry s) right
  of_low f a None held e is right = pick (subst F is right)
    where
      F : Option Entry → Type 0
      F h = IsLowBy f a None h

      pick : IsLowBy f a None (Some e) → IsRightBy f a None held
      pick (n, o, best, at) =
          let G : Option Entry → Type 0 = λ h. IsRightBy f a None h in
          subst G (sym (low_some held e is)) ((decide w book state f a n o best.made (Some e)).1 (n, o, best, at))

  -- who is right by its customers' offers, and holds an Origin or Customer entry, is right
  pub right_of_low : (f : ℕ → Option Entry) (a : ℕ) (e : Entry) → low (f a) ≡ Some e → IsRightLow there seeds f a → IsRight there seeds f a
  right_of_low f a e is right = of_low f a (seeds a) (f a) e is right

  -- the whole choice of one who is right by its customers' offers is what it holds, or both are for customers only
  pub whole_choice : (f : ℕ → Option Entry) (a : ℕ) (new : Option Entry) → IsRightLow there seeds f a → IsRightGiven (meaning (policy_at book a)) (seeds a) (λ n. offer there f n a) new →
      (new ≡ f a) ⊎ (IsForCustomersOnly (f a) × IsForCustomersOnly new)
  whole_choice f a new low_right right = by (low (f a)) refl
    where
      down : (s : Option Seed) → IsLowBy f a s None → IsRightBy f a s new → IsForCustomersOnly new
      down (Some s) l r = cc
      down None l r = for_customers f a new l r

      by : (h : Option Entry) → low (f a) ≡ h → (new ≡ f a) ⊎ (IsForCustomersOnly (f a) × IsForCustomersOnly new)
      by None is =
          let F : Option Entry → Type 0 = λ h. IsLowBy f a (seeds a) h in
          inr (low_down (f a) is, down (seeds a) (subst F is low_right) right)
      by (Some e) is = inl (one_right (meaning (policy_at book a)) (ranks_offers (policy_at book a)) (seeds a) (λ n. offer there f n a) new (f a) right (right_of_low f a e is low_right))
