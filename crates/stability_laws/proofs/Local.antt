-- What each single AS does: it makes the same offers of the same entry, it has one answer, and it keeps customers' offers.
use Rattle.std.proofs.Common.{◌≡◌, ◌≢◌, inl, inr, ℕ, Bool, true, false, ◌&&◌, cond, true≢false, IsTrue, Option, Some, None, refl, sym, ◌∙◌, ap}
use Rattle.std.proofs.lemmas.Bool.{cases_eq}
use Rattle.net_names.specs.declared.routes.Class.{Class}
use Rattle.net_names.specs.declared.routes.Class.TheVariants as class
use Rattle.net_names.specs.declared.routes.Rel.{Rel}
use Rattle.net_names.specs.declared.routes.Rel.TheVariants.{Customer, Peer, Provider}
use Rattle.net_names.specs.declared.routes.State.{State}
use Rattle.policy_laws.specs.declared.policy.View.{View}
use Rattle.policy_laws.specs.Policy.{Policy, RanksOffers, ExportsDownOnly}
use Rattle.net_names.specs.Links.{converse}
use Rattle.stability_laws.specs.declared.entry.Entry.{Entry}
use Rattle.stability_laws.specs.declared.entry.Seed.{Seed}
use Rattle.stability_laws.specs.Offers.{Offer, GivenBy, offer_given}
use Rattle.stability_laws.specs.Stable.{IsBest, IsRightGiven}
use Rattle.stability_laws.specs.Steps.{low, low_by}

-- no two views are each before the other
pub not_both : (p : Policy) → RanksOffers p → (x y : View) → IsTrue (p.before x y) → IsTrue (p.before y x) → ⊥
not_both p r x y a b = true≢false (sym (r.transitive x y x a b) ∙ r.irreflexive x)

-- there is one best offer
pub one_best : (p : Policy) → RanksOffers p → (offers : ℕ → Option Offer) (n m : ℕ) (o q : Offer) → IsBest p offers n o → IsBest p offers m q → o ≡ q
one_best p r offers n m o q b c =
    elim (cases_eq n m) [
      | inl e ↦ let first : offers n ≡ Some o = b.made in let second : offers m ≡ Some q = c.made in cc
      | inr ne ↦ absurd (not_both p r o.view q.view (b.first m q c.made (λ e. ne (sym e))) (c.first n o b.made ne))
    ]

-- with the same offers there is one entry, or none, that is right
pub one_right : (p : Policy) → RanksOffers p → (seed : Option Seed) (offers : ℕ → Option Offer) (x y : Option Entry) → IsRightGiven p seed offers x → IsRightGiven p seed offers y → x ≡ y
one_right p r (Some s) offers x y h k = h ∙ sym k
one_right p r None offers None None h k = refl
one_right p r None offers None (Some e) h (n, o, b, is) = let none : offers n ≡ None = h n in let some : offers n ≡ Some o = b.made in cc
one_right p r None offers (Some e) None (n, o, b, is) k = let none : offers n ≡ None = k n in let some : offers n ≡ Some o = b.made in cc
one_right p r None offers (Some e) (Some d) (n, o, b, is) (m, q, c, is') = ap Some (is ∙ ap (λ (t : Offer). t.entry) (one_best p r offers n m o q b c) ∙ sym is')

pub given_when : (b : Bool) (o q : Offer) → cond b (Some o) None ≡ Some q → o ≡ q
given_when true o q e = cc
given_when false o q e = cc

pub given_by : (sender receiver : Policy) (state : ℕ → State) (n a : ℕ) (relation : Option Rel) (held : Option Entry) (o : Offer) → offer_given sender receiver state n a relation held ≡ Some o → GivenBy relation n o
given_by s r st n a None held o e = cc
given_by s r st n a (Some from) None o e = cc
given_by s r st n a (Some from) (Some d) o e =
    let is = given_when _ _ o e in
    record {
      from = from;
      linked = refl;
      rel = sym (ap (λ (t : Offer). t.view.rel) is);
      neighbour = sym (ap (λ (t : Offer). t.view.neighbour) is);
      class = sym (ap (λ (t : Offer). t.entry.class) is);
    }

stopped : (b c : Bool) (o : Offer) → (b ≡ true → ⊥) → cond (b && c) (Some o) None ≡ None
stopped true c o n = absurd (n refl)
stopped false c o n = refl

-- to its peers and its providers an AS offers of its Origin and Customer entries alone
pub offers_low : (sender receiver : Policy) → ExportsDownOnly sender → (state : ℕ → State) (n a : ℕ) (from : Rel) → from ≢ Provider → (held : Option Entry) →
    offer_given sender receiver state n a (Some from) held ≡ offer_given sender receiver state n a (Some from) (low held)
offers_low s r down st n a from up None = refl
offers_low s r down st n a from up (Some e) = by_class e.class refl
  where
    not_down : (t : Rel) → t ≢ Provider → converse t ≡ Customer → ⊥
    not_down Customer up is = cc
    not_down Peer up is = cc
    not_down Provider up is = up refl

    by_class : (k : Class) → e.class ≡ k → offer_given s r st n a (Some from) (Some e) ≡ offer_given s r st n a (Some from) (low_by k e)
    by_class class.Origin is = refl
    by_class class.Customer is = refl
    by_class class.Peer is = stopped (s.exports e.class e.otc (converse from)) _ _ (λ yes. not_down from up (down.from_peer e.otc (converse from) (sym (ap (λ k. s.exports k e.otc (converse from)) is) ∙ yes)))
    by_class class.Provider is = stopped (s.exports e.class e.otc (converse from)) _ _ (λ yes. not_down from up (down.from_provider e.otc (converse from) (sym (ap (λ k. s.exports k e.otc (converse from)) is) ∙ yes)))
