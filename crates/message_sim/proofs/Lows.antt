-- A message of no customer leaves the Origin or Customer entry of its receiver, and what is sent to peers and providers follows from that entry.
use Rattle.std.proofs.Common.{◌≡◌, ◌≢◌, inl, inr, ℕ, Bool, true, false, cond, Option, Some, None, refl, sym, ◌∙◌, ap, subst}
use Rattle.std.proofs.lemmas.Bool.{cases_eq}
use Rattle.net_names.specs.declared.routes.Class.{Class}
use Rattle.net_names.specs.declared.routes.Class.TheVariants as class
use Rattle.net_names.specs.declared.routes.Rel.{Rel}
use Rattle.net_names.specs.declared.routes.Rel.TheVariants.{Customer, Peer, Provider}
use Rattle.policy_laws.specs.Policy.{Policy, ExportsDownOnly}
use Rattle.stability_laws.specs.declared.entry.Entry.{Entry}
use Rattle.stability_laws.specs.declared.entry.Seed.{Seed}
use Rattle.stability_laws.specs.Offers.{Setting, Offer, offer, offer_given}
use Rattle.stability_laws.specs.Stable.{IsRightGiven, IsLawful}
use Rattle.stability_laws.specs.Laws.{customer_offer, if_customer}
use Rattle.stability_laws.specs.Steps.{low, low_by}
use Rattle.stability_laws.proofs.Local.{one_right}
use Rattle.stability_laws.proofs.Passes.{low_right}
use Rattle.message_sim.specs.Agreement.{IsRightByReceived}
use Rattle.message_sim.specs.Messages.{Message, MessageNet, sent_given, sends}
use Rattle.message_sim.proofs.Parts.{AreParts}

-- to its peers and its providers an AS sends its Origin and Customer entries alone
pub sent_low : (p : Policy) → ExportsDownOnly p → (to : Rel) → to ≢ Customer → (held : Option Entry) → sent_given p (Some to) held ≡ sent_given p (Some to) (low held)
sent_low p down to up None = refl
sent_low p down to up (Some e) = by e.class refl
  where
    kept_back : (b : Bool) → (b ≡ true → ⊥) → cond b (Some e) None ≡ None
    kept_back true n = absurd (n refl)
    kept_back false n = refl

    by : (k : Class) → e.class ≡ k → sent_given p (Some to) (Some e) ≡ sent_given p (Some to) (low_by k e)
    by class.Origin is = refl
    by class.Customer is = refl
    by class.Peer is = kept_back (p.exports e.class e.otc to) (λ t. up (down.from_peer e.otc to (sym (ap (λ k. p.exports k e.otc to) is) ∙ t)))
    by class.Provider is = kept_back (p.exports e.class e.otc to) (λ t. up (down.from_provider e.otc to (sym (ap (λ k. p.exports k e.otc to) is) ∙ t)))

-- who is no customer makes no customer's offer
no_customer : (r : Option Rel) → r ≢ Some Customer → (o : Option Offer) → if_customer r o ≡ None
no_customer None apart o = refl
no_customer (Some Customer) apart o = absurd (apart refl)
no_customer (Some Peer) apart o = refl
no_customer (Some Provider) apart o = refl

module _ (w : Setting) (lawful : (a : ℕ) → IsLawful (w.policy a)) (seeds : ℕ → Option Seed) (x y : MessageNet) (n a : ℕ) (d : AreParts w seeds x n a y) (right : IsRightByReceived w seeds x a) (apart : w.relation a n ≢ Some Customer) where
  customers_stay : (m : ℕ) → customer_offer w (λ k. y.received k a) m a ≡ customer_offer w (λ k. x.received k a) m a
  customers_stay m = elim (cases_eq m n) [
    | inl e ↦ (let not_customer : w.relation a m ≢ Some Customer = λ c. apart (ap (w.relation a) (sym e) ∙ c) in
        no_customer (w.relation a m) not_customer (offer w (λ k. y.received k a) m a) ∙ sym (no_customer (w.relation a m) not_customer (offer w (λ k. x.received k a) m a)))
    | inr ne ↦ ap (λ (h : Message). if_customer (w.relation a m) (offer_given (w.policy m) (w.policy a) w.state m a (w.relation a m) h)) (d.other_received m a (λ p. ne p.0))
  ]

  pub low_stays : low (x.choice a) ≡ low (y.choice a)
  low_stays =
      let F : (ℕ → Option Offer) → Type 0 = λ os. IsRightGiven (w.policy a) (seeds a) os (low (y.choice a)) in
      one_right (w.policy a) (lawful a).ranks_offers (seeds a) (λ m. customer_offer w (λ k. x.received k a) m a) (low (x.choice a)) (low (y.choice a))
      (low_right w lawful (seeds a) (λ k. x.received k a) a (x.choice a) right)
      (subst F (λ i m. customers_stay m i) (low_right w lawful (seeds a) (λ k. y.received k a) a (y.choice a) d.right))

  -- nothing changes for peers and providers
  pub sent_stays : (b : ℕ) → w.relation a b ≢ Some Customer → sends w x.choice a b ≡ sends w y.choice a b
  sent_stays b up = by (w.relation a b) refl
    where
      by : (r : Option Rel) → w.relation a b ≡ r → sent_given (w.policy a) r (x.choice a) ≡ sent_given (w.policy a) r (y.choice a)
      by None is = refl
      by (Some to) is =
          let not_down : to ≢ Customer = λ c. up (is ∙ ap Some c) in
          sent_low (w.policy a) (lawful a).exports_down_only to not_down (x.choice a)
          ∙ ap (sent_given (w.policy a) (Some to)) low_stays
          ∙ sym (sent_low (w.policy a) (lawful a).exports_down_only to not_down (y.choice a))
