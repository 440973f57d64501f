-- A turn on either way, from what the AS chose and who was put into the queues.
use Rattle.std.proofs.Common.{◌≡◌, ◌≢◌, ◌⊎◌, inl, inr, ℕ, ◌≤◌, ◌+◌, Bool, true, false, true≢false, IsTrue, IsSome, Option, Some, None, option_map, List, length, refl, sym, ◌∙◌, ap, subst, arith}
use Rattle.std.proofs.lemmas.Bool.{cases_eq, cases_order}
use Rattle.net_names.specs.declared.routes.Rel.{Rel}
use Rattle.net_names.specs.declared.routes.Rel.TheVariants.{Customer, Peer, Provider}
use Rattle.net_names.specs.declared.routes.State.{State}
use Rattle.policy_laws.specs.Policy.{Policy, RanksOffers, PrefersCustomers}
use Rattle.as_graph.specs.Topology.{Topology, relation, has}
use Rattle.net_names.specs.Links.{converse}
use Rattle.net_names.specs.Numbers.{occurs, IsDistinct}
use Rattle.as_graph.specs.Hierarchy.{HasNoProviderCycle}
use Rattle.as_graph.proofs.Links.{relation_mutual, relation_self, linked_end}
use Rattle.stability_laws.specs.declared.entry.Entry.{Entry}
use Rattle.stability_laws.specs.declared.entry.Seed.{Seed}
use Rattle.stability_laws.specs.Book.{PolicyBook, policy_at}
use Rattle.stability_laws.specs.World.{setting}
use Rattle.stability_laws.specs.Offers.{Setting, Offer, GivenBy, offer}
use Rattle.stability_laws.specs.Stable.{IsRightGiven, IsRight, IsStable}
use Rattle.stability_laws.specs.Laws.{OfferNames, OfferFollows, RightByOffers, NothingUp, CustomersDecide, OneStableRouting, IsForCustomersOnly, customer_offer, if_customer}
use Rattle.stability_laws.proofs.Local.{not_both}
use Rattle.stability_laws.specs.Steps.{low, low_by}
use Rattle.dirty_recompute.specs.Steps.{IsRightLow, without_low, after_up, IsLeft}
use Rattle.dirty_recompute.specs.Work.{IsWholeWork}
use Rattle.dirty_recompute.proofs.Parts.{low_some, down_low, stays, right_of_low, whole_choice, by_customer, same_offers, unlinked}
use Rattle.dirty_recompute.specs.Exact.{IsCounted, IsExact, AreEnough}
use Rattle.dirty_recompute.proofs.Working.{IsUpStep, IsWholeStep, unset}

module _ {P : Type 0} (meaning : P → Policy) (ranks_offers : (p : P) → RanksOffers (meaning p)) (prefers : (p : P) → PrefersCustomers (meaning p)) (names : OfferNames meaning) (follows : OfferFollows meaning) (by_offers : RightByOffers meaning) (nothing_up : NothingUp meaning) (decide : CustomersDecide meaning) (w : Topology) (book : PolicyBook P) (state : ℕ → State) (seeds : ℕ → Option Seed) where
  abbrev here : Setting
  here = setting meaning w book state

  abbrev Low : (ℕ → Option Entry) → ℕ → Type 0
  Low f a = IsRightLow here seeds f a

  abbrev Right : (ℕ → Option Entry) → ℕ → Type 0
  Right f a = IsRight here seeds f a

  seeded : (b : ℕ) (s : Option Seed) (t : Seed) (offers others : ℕ → Option Offer) (held : Option Entry) → s ≡ Some t → IsRightGiven (meaning (policy_at book b)) s offers held → IsRightGiven (meaning (policy_at book b)) s others held
  seeded b None t offers others held e right = cc
  seeded b (Some s) t offers others held e right = right

  module _ (f g : ℕ → Option Entry) (a : ℕ) (others : (n : ℕ) → n ≢ a → f n ≡ g n) where
    of_others : (b n : ℕ) → n ≢ a → offer here f n b ≡ offer here g n b
    of_others b n ne = follows w w book book state f g n b refl refl refl refl (others n ne)

    all_offers : (b : ℕ) → offer here f a b ≡ offer here g a b → (n : ℕ) → offer here f n b ≡ offer here g n b
    all_offers b same n = elim (cases_eq n a) [
      | inl e ↦ subst (λ t. offer here f t b ≡ offer here g t b) (sym e) same
      | inr ne ↦ of_others b n ne
    ]

    right_with : (b : ℕ) → b ≢ a → ((n : ℕ) → offer here f n b ≡ offer here g n b) → Right f b → Right g b
    right_with b ne same right =
        let F : (ℕ → Option Offer) → Option Entry → Type 0 = λ os h. IsRightGiven (meaning (policy_at book b)) (seeds b) os h in
        coe 0 1 (i. F (λ n. same n i) (others b ne i)) right

    low_with : (b : ℕ) → b ≢ a → ((n : ℕ) → customer_offer here f n b ≡ customer_offer here g n b) → Low f b → Low g b
    low_with b ne same right =
        let F : (ℕ → Option Offer) → Option Entry → Type 0 = λ os h. IsRightGiven (meaning (policy_at book b)) (seeds b) os (low h) in
        coe 0 1 (i. F (λ n. same n i) (others b ne i)) right

    -- who isn't asked stays right
    pub left_right : (b : ℕ) → b ≢ a → IsLeft here seeds f g a b → Right f b → Right g b
    left_right b ne (inl (s, is)) right =
        let F : Option Entry → Type 0 = λ h. IsRightGiven (meaning (policy_at book b)) (seeds b) (λ n. offer here g n b) h in
        subst F (others b ne) (seeded b (seeds b) s (λ n. offer here f n b) (λ n. offer here g n b) (f b) is right)
    left_right b ne (inr (inl same)) right = right_with b ne (all_offers b same) right
    left_right b ne (inr (inr spared)) right =
        let F : Option Entry → Type 0 = λ h. IsRightGiven (meaning (policy_at book b)) (seeds b) (λ n. offer here g n b) h in
        subst F (others b ne)
        (stays (meaning (policy_at book b)) (ranks_offers (policy_at book b)) (seeds b) (λ n. offer here f n b) (λ n. offer here g n b) (f b) a (of_others b)
        (record { not_held = spared.not_held; beaten = spared.beaten }) right)

    -- the customers of who isn't a's provider make the offers that they made
    customers_same : (b : ℕ) → relation w b a ≢ Some Customer → (n : ℕ) → customer_offer here f n b ≡ customer_offer here g n b
    customers_same b not_customer n = by (relation w b n) refl
      where
        by : (r : Option Rel) → relation w b n ≡ r → if_customer r (offer here f n b) ≡ if_customer r (offer here g n b)
        by None e = refl
        by (Some Peer) e = refl
        by (Some Provider) e = refl
        by (Some Customer) e = of_others b n (λ x. not_customer (ap (relation w b) (sym x) ∙ e))

    -- a changes nothing for who isn't its provider
    pub low_across : (b : ℕ) → b ≢ a → relation w b a ≢ Some Customer → Low f b → Low g b
    low_across b ne not_customer right = low_with b ne (customers_same b not_customer) right

    customers_of_others : (b n : ℕ) → n ≢ a → customer_offer here f n b ≡ customer_offer here g n b
    customers_of_others b n ne = ap (if_customer (relation w b n)) (of_others b n ne)

    -- who isn't asked stays right by its customers' offers
    pub left_low : (b : ℕ) → b ≢ a → relation w b a ≡ Some Customer → IsLeft here seeds f g a b → Low f b → Low g b
    left_low b ne link (inl (s, is)) right =
        let F : Option Entry → Type 0 = λ h. IsRightGiven (meaning (policy_at book b)) (seeds b) (λ n. customer_offer here g n b) (low h) in
        subst F (others b ne) (seeded b (seeds b) s (λ n. customer_offer here f n b) (λ n. customer_offer here g n b) (low (f b)) is right)
    left_low b ne link (inr (inl same)) right = low_with b ne (λ n. ap (if_customer (relation w b n)) (all_offers b same n)) right
    left_low b ne link (inr (inr spared)) right =
        let F : Option Entry → Type 0 = λ h. IsRightGiven (meaning (policy_at book b)) (seeds b) (λ n. customer_offer here g n b) (low h) in
        subst F (others b ne)
        (stays (meaning (policy_at book b)) (ranks_offers (policy_at book b)) (seeds b) (λ n. customer_offer here f n b) (λ n. customer_offer here g n b) (low (f b)) a (customers_of_others b)
        (record { not_held = not_held; beaten = beaten spared.beaten }) right)
      where
        is_customer : (h : ℕ → Option Entry) → customer_offer here h a b ≡ offer here h a b
        is_customer h = ap (λ r. if_customer r (offer here h a b)) link

        not_held : (o : Offer) → customer_offer here f a b ≡ Some o → low (f b) ≢ Some o.entry
        not_held o made x = spared.not_held o (sym (is_customer f) ∙ made) (low_some (f b) o.entry x)

        rel_of : (h : ℕ → Option Entry) (m : ℕ) (o : Offer) (r : Rel) → offer here h m b ≡ Some o → relation w b m ≡ Some r → o.view.rel ≡ r
        rel_of h m o r made is = let from : GivenBy (relation w b m) m o = names w book state h m b o made in
            let both : Some from.from ≡ Some r = sym from.linked ∙ is in let one : from.from ≡ r = cc in from.rel ∙ one

        beaten : (offer here g a b ≡ None) ⊎ ((m : ℕ) × (q : Offer) × (n : Offer) × (m ≢ a) × (offer here f m b ≡ Some q) × (offer here g a b ≡ Some n) × IsTrue ((meaning (policy_at book b)).before q.view n.view)) →
            (customer_offer here g a b ≡ None) ⊎ ((m : ℕ) × (q : Offer) × (n : Offer) × (m ≢ a) × (customer_offer here f m b ≡ Some q) × (customer_offer here g a b ≡ Some n) × IsTrue ((meaning (policy_at book b)).before q.view n.view))
        beaten (inl none) = inl (is_customer g ∙ none)
        beaten (inr (m, q, n, apart, made, new, lt)) = inr (m, q, n, apart, customer, is_customer g ∙ new, lt)
          where
            new_rel : n.view.rel ≡ Customer
            new_rel = rel_of g a n Customer new link

            not_other : (r : Rel) → q.view.rel ≡ r → r ≢ Customer → ⊥
            not_other r is ne = not_both (meaning (policy_at book b)) (ranks_offers (policy_at book b)) q.view n.view lt (prefers (policy_at book b) n.view q.view new_rel (λ x. ne (sym is ∙ x)))

            customer : customer_offer here f m b ≡ Some q
            customer = by (relation w b m) refl
              where
                by : (r : Option Rel) → relation w b m ≡ r → if_customer r (offer here f m b) ≡ Some q
                by None e = let from : GivenBy (relation w b m) m q = names w book state f m b q made in let x : None ≡ Some from.from = sym e ∙ from.linked in cc
                by (Some Customer) e = made
                by (Some Peer) e = absurd (not_other Peer (rel_of f m q Peer made e) (λ x. cc))
                by (Some Provider) e = absurd (not_other Provider (rel_of f m q Provider made e) (λ x. cc))

    -- a's own customers make the offers that they made
    own_low : (n : ℕ) → customer_offer here f n a ≡ customer_offer here g n a
    own_low = customers_same a (λ e. (let y : None ≡ Some Customer = sym (relation_self w a) ∙ e in cc))

    pub now_low : IsRightGiven (meaning (policy_at book a)) (seeds a) (λ n. customer_offer here f n a) (low (g a)) → Low g a
    now_low right =
        let F : (ℕ → Option Offer) → Type 0 = λ os. IsRightGiven (meaning (policy_at book a)) (seeds a) os (low (g a)) in
        subst F (λ i n. own_low n i) right

    own : (n : ℕ) → offer here f n a ≡ offer here g n a
    own n = elim (cases_eq n a) [
      | inl e ↦ subst (λ t. offer here f t a ≡ offer here g t a) (sym e) (to_itself f ∙ sym (to_itself g))
      | inr ne ↦ of_others a n ne
    ]
      where
        to_itself : (h : ℕ → Option Entry) → offer here h a a ≡ None
        to_itself h = by (offer here h a a) refl
          where
            by : (o : Option Offer) → offer here h a a ≡ o → o ≡ None
            by None e = refl
            by (Some o) e = let from : GivenBy (relation w a a) a o = names w book state h a a o e in let x : None ≡ Some from.from = sym (relation_self w a) ∙ from.linked in cc

    pub now_right : IsRightGiven (meaning (policy_at book a)) (seeds a) (λ n. offer here f n a) (g a) → Right g a
    now_right right =
        let F : (ℕ → Option Offer) → Type 0 = λ os. IsRightGiven (meaning (policy_at book a)) (seeds a) os (g a) in
        subst F (λ i n. own n i) right

  -- the best of the customers' offers, or the seed's entry, is of class Origin or Customer
  pub low_choice : (f : ℕ → Option Entry) (a : ℕ) (new : Option Entry) → IsRightGiven (meaning (policy_at book a)) (seeds a) (λ n. customer_offer here f n a) new → low new ≡ new
  low_choice f a new right = by (seeds a) new right
    where
      by : (s : Option Seed) (h : Option Entry) → IsRightGiven (meaning (policy_at book a)) s (λ n. customer_offer here f n a) h → low h ≡ h
      by (Some s) h r = ap low r ∙ sym r
      by None None r = refl
      by None (Some e) r = ap (λ k. low_by k e) (by_customer meaning ranks_offers names follows by_offers nothing_up decide w book state seeds f a e r)

  low_after : (new held : Option Entry) → low new ≡ new → low (after_up new held) ≡ new
  low_after (Some e) held is = is
  low_after None held is = by (low held) refl
    where
      by : (l : Option Entry) → low held ≡ l → low (without_low l held) ≡ None
      by None e = e
      by (Some d) e = refl

  -- what changes upwards changes an Origin or Customer entry
  differs_after : (new held : Option Entry) → low new ≡ new → after_up new held ≢ held → low (after_up new held) ≢ low held
  differs_after (Some e) held is ne x = ne (sym (low_some held e (sym x ∙ is)))
  differs_after None held is ne x = by (low held) refl ne x
    where
      by : (l : Option Entry) → low held ≡ l → without_low l held ≢ held → low (without_low l held) ≢ low held
      by None e ne x = ne refl
      by (Some d) e ne x = (let y : low held ≡ None = sym x in let z : low held ≡ Some d = e in cc)

  -- and leaves none of another class
  low_changed : (new held : Option Entry) → low new ≡ new → after_up new held ≢ held → low (after_up new held) ≡ after_up new held
  low_changed (Some e) held is ne = is
  low_changed None held is ne = by (low held) ne
    where
      by : (l : Option Entry) → without_low l held ≢ held → low (without_low l held) ≡ without_low l held
      by None ne = absurd (ne refl)
      by (Some d) ne = refl

  -- a turn upwards
  pub up_turn : (a : ℕ) (f : ℕ → Option Entry) (overlay up whole : ℕ → Bool) (g : ℕ → Option Entry) (overlay' up' whole' : ℕ → Bool) (new : Option Entry) →
      IsRightGiven (meaning (policy_at book a)) (seeds a) (λ n. customer_offer here f n a) new → g a ≡ after_up new (f a) → ((n : ℕ) → n ≢ a → g n ≡ f n) →
      ((b : ℕ) → b ≢ a → overlay' b ≡ overlay b) → ((g a ≡ f a) × (overlay' a ≡ overlay a)) ⊎ ((g a ≢ f a) × (overlay' a ≡ true)) →
      (new ≡ None → whole' a ≡ true) →
      ((b : ℕ) → b ≢ a → up b ≡ true → up' b ≡ true) → ((b : ℕ) → whole b ≡ true → whole' b ≡ true) →
      ((b : ℕ) → b ≢ a → (up' b ≡ true) ⊎ ((relation w b a ≢ Some Customer) ⊎ IsLeft here seeds f g a b)) →
      ((b : ℕ) → b ≢ a → (up' b ≡ true) ⊎ ((whole' b ≡ true) ⊎ ((relation w b a ≡ None) ⊎ IsLeft here seeds f g a b))) →
      ((b : ℕ) → up' b ≡ true → (b ≢ a) × ((up b ≡ true) ⊎ ((relation w b a ≡ Some Customer) × (overlay' a ≡ true)))) →
      ((b : ℕ) → whole' b ≡ true → (whole b ≡ true) ⊎ ((b ≡ a) ⊎ ((r : Rel) × (relation w b a ≡ Some r) × (overlay' a ≡ true)))) →
      IsUpStep Low Right (relation w) a f overlay up whole g overlay' up' whole'
  up_turn a f overlay up whole g overlay' up' whole' new chosen at others changed_others settled waits kept kept_whole asked asked_whole from from_whole = record {
    others = others;
    changed_others = changed_others;
    settled = settled_by settled;
    now_low = low_now;
    now_right = now;
    stay_low = λ b ne n. (unset (up b) (up' b) (kept b ne) n, stay_low b ne n (asked b ne));
    stay = λ b ne n m. (unset (whole b) (whole' b) (kept_whole b) m, stay b ne n m (asked_whole b ne));
    from = from;
    from_whole = from_whole;
  }
    where
      back : (n : ℕ) → n ≢ a → f n ≡ g n
      back n ne = sym (others n ne)

      no_offer : (h : ℕ → Option Entry) (b : ℕ) → relation w b a ≡ None → offer here h a b ≡ None
      no_offer h = unlinked meaning ranks_offers names follows by_offers nothing_up decide w book state seeds h a

      is_low : low new ≡ new
      is_low = low_choice f a new chosen

      low_at : low (g a) ≡ new
      low_at = ap low at ∙ low_after new (f a) is_low

      low_now : Low g a
      low_now = let F : Option Entry → Type 0 = λ h. IsRightGiven (meaning (policy_at book a)) (seeds a) (λ n. customer_offer here f n a) h in
          now_low f g a back (subst F (sym low_at) chosen)

      now : whole' a ≡ false → Right g a
      now n = by new refl
        where
          by : (h : Option Entry) → new ≡ h → Right g a
          by None is = absurd (true≢false (sym (waits is) ∙ n))
          by (Some e) is = right_of_low meaning ranks_offers names follows by_offers nothing_up decide w book state seeds g a e (low_at ∙ is) low_now

      settled_by : ((g a ≡ f a) × (overlay' a ≡ overlay a)) ⊎ ((g a ≢ f a) × (overlay' a ≡ true)) → ((g a ≡ f a) × (overlay' a ≡ overlay a)) ⊎ ((low (g a) ≢ low (f a)) × (overlay' a ≡ true) × (low (g a) ≡ g a))
      settled_by (inl s) = inl s
      settled_by (inr (ne, t)) = inr ((λ x. differs_after new (f a) is_low (λ y. ne (at ∙ y)) (ap low (sym at) ∙ x)), t, ap low at ∙ low_changed new (f a) is_low (λ y. ne (at ∙ y)) ∙ sym at)

      stay_low : (b : ℕ) → b ≢ a → up' b ≡ false → (up' b ≡ true) ⊎ ((relation w b a ≢ Some Customer) ⊎ IsLeft here seeds f g a b) → Low f b → Low g b
      stay_low b ne n (inl t) = absurd (true≢false (sym t ∙ n))
      stay_low b ne n (inr (inl across)) = low_across f g a back b ne across
      stay_low b ne n (inr (inr left)) = by (relation w b a) refl
        where
          by : (r : Option Rel) → relation w b a ≡ r → Low f b → Low g b
          by None e = low_across f g a back b ne (λ x. (let y : None ≡ Some Customer = sym e ∙ x in cc))
          by (Some Customer) e = left_low f g a back b ne e left
          by (Some Peer) e = low_across f g a back b ne (λ x. (let y : Some Peer ≡ Some Customer = sym e ∙ x in cc))
          by (Some Provider) e = low_across f g a back b ne (λ x. (let y : Some Provider ≡ Some Customer = sym e ∙ x in cc))

      stay : (b : ℕ) → b ≢ a → up' b ≡ false → whole' b ≡ false → (up' b ≡ true) ⊎ ((whole' b ≡ true) ⊎ ((relation w b a ≡ None) ⊎ IsLeft here seeds f g a b)) → Right f b → Right g b
      stay b ne n m (inl t) = absurd (true≢false (sym t ∙ n))
      stay b ne n m (inr (inl t)) = absurd (true≢false (sym t ∙ m))
      stay b ne n m (inr (inr (inl none))) = left_right f g a back b ne (inr (inl (no_offer f b none ∙ sym (no_offer g b none))))
      stay b ne n m (inr (inr (inr left))) = left_right f g a back b ne left

  -- a turn downwards
  pub whole_turn : (a : ℕ) (f : ℕ → Option Entry) (overlay whole : ℕ → Bool) (g : ℕ → Option Entry) (overlay' whole' : ℕ → Bool) →
      Low f a → IsRightGiven (meaning (policy_at book a)) (seeds a) (λ n. offer here f n a) (g a) → ((n : ℕ) → n ≢ a → g n ≡ f n) →
      ((b : ℕ) → b ≢ a → overlay' b ≡ overlay b) → ((g a ≡ f a) × (overlay' a ≡ overlay a)) ⊎ ((g a ≢ f a) × (overlay' a ≡ true)) →
      ((b : ℕ) → b ≢ a → whole b ≡ true → whole' b ≡ true) →
      ((b : ℕ) → b ≢ a → (whole' b ≡ true) ⊎ ((relation w b a ≢ Some Provider) ⊎ IsLeft here seeds f g a b)) →
      ((b : ℕ) → whole' b ≡ true → (b ≢ a) × ((whole b ≡ true) ⊎ ((relation w b a ≡ Some Provider) × (overlay' a ≡ true)))) →
      IsWholeStep Low Right (relation w) a f overlay whole g overlay' whole'
  whole_turn a f overlay whole g overlay' whole' low_right chosen others changed_others settled kept asked from = record {
    others = others;
    changed_others = changed_others;
    settled = settled;
    low_kept = low_kept choice;
    now_low = now_low f g a back (let F : Option Entry → Type 0 = λ h. IsRightGiven (meaning (policy_at book a)) (seeds a) (λ n. customer_offer here f n a) h in subst F (sym (low_kept choice)) low_right);
    now_right = now_right f g a back chosen;
    stay_low = stay_low;
    stay = λ b ne n. (unset (whole b) (whole' b) (kept b ne) n, stay b ne n (asked b ne));
    from = from;
  }
    where
      back : (n : ℕ) → n ≢ a → f n ≡ g n
      back n ne = sym (others n ne)

      choice : (g a ≡ f a) ⊎ (IsForCustomersOnly (f a) × IsForCustomersOnly (g a))
      choice = whole_choice meaning ranks_offers names follows by_offers nothing_up decide w book state seeds f a (g a) low_right chosen

      low_kept : (g a ≡ f a) ⊎ (IsForCustomersOnly (f a) × IsForCustomersOnly (g a)) → low (g a) ≡ low (f a)
      low_kept (inl e) = ap low e
      low_kept (inr d) = down_low (g a) d.1 ∙ sym (down_low (f a) d.0)

      -- a makes the same offer as before to whom it isn't a provider
      same : (b : ℕ) → relation w b a ≢ Some Provider → (g a ≡ f a) ⊎ (IsForCustomersOnly (f a) × IsForCustomersOnly (g a)) → offer here f a b ≡ offer here g a b
      same b not_provider (inl e) = follows w w book book state f g a b refl refl refl refl (sym e)
      same b not_provider (inr d) = same_offers meaning ranks_offers names follows by_offers nothing_up decide w book state seeds f g a back d.0 d.1 b not_provider a

      stay_low : (b : ℕ) → b ≢ a → Low f b → Low g b
      stay_low b ne = by (relation w b a) refl
        where
          by : (r : Option Rel) → relation w b a ≡ r → Low f b → Low g b
          by None e = low_across f g a back b ne (λ x. (let y : None ≡ Some Customer = sym e ∙ x in cc))
          by (Some Customer) e = left_low f g a back b ne e (inr (inl (same b (λ x. (let y : Some Customer ≡ Some Provider = sym e ∙ x in cc)) choice)))
          by (Some Peer) e = low_across f g a back b ne (λ x. (let y : Some Peer ≡ Some Customer = sym e ∙ x in cc))
          by (Some Provider) e = low_across f g a back b ne (λ x. (let y : Some Provider ≡ Some Customer = sym e ∙ x in cc))

      stay : (b : ℕ) → b ≢ a → whole' b ≡ false → (whole' b ≡ true) ⊎ ((relation w b a ≢ Some Provider) ⊎ IsLeft here seeds f g a b) → Right f b → Right g b
      stay b ne n (inl t) = absurd (true≢false (sym t ∙ n))
      stay b ne n (inr (inl across)) = left_right f g a back b ne (inr (inl (same b across choice)))
      stay b ne n (inr (inr left)) = left_right f g a back b ne left

  no_offer : (f : ℕ → Option Entry) (n b : ℕ) → has w b ≡ false → offer here f n b ≡ None
  no_offer f n b none = by (offer here f n b) refl
    where
      by : (o : Option Offer) → offer here f n b ≡ o → o ≡ None
      by None e = refl
      by (Some o) e =
          let from : GivenBy (relation w b n) n o = names w book state f n b o e in
          absurd (true≢false (sym (linked_end w n b (converse from.from) (relation_mutual w b n ∙ ap (option_map converse) from.linked)) ∙ none))

  -- who is right with an entry is an AS
  pub right_has : (f : ℕ → Option Entry) (a : ℕ) (offers : ℕ → Option Offer) → ((n : ℕ) (o : Offer) → offers n ≡ Some o → offer here f n a ≡ Some o) → ((b : ℕ) → has w b ≡ false → seeds b ≡ None) →
      (held : Option Entry) → IsRightGiven (meaning (policy_at book a)) (seeds a) offers held → IsSome held → has w a ≡ true
  right_has f a offers made seeds_at held right some = by (has w a) refl
    where
      none : has w a ≡ false → (s : Option Seed) (h : Option Entry) → s ≡ None → IsRightGiven (meaning (policy_at book a)) s offers h → IsSome h → ⊥
      none is (Some s) h e r some = (let x : Some s ≡ None = e in cc)
      none is None None e r some = (let x : false ≡ true = some in cc)
      none is None (Some d) e (n, o, best, at) some = let x : offer here f n a ≡ None = no_offer f n a is in let y : offer here f n a ≡ Some o = made n o best.made in cc

      by : (t : Bool) → has w a ≡ t → has w a ≡ true
      by true is = is
      by false is = absurd (none is (seeds a) held (seeds_at a is) right some)

  -- the table is right outside of the touched, at numbers that are no AS too
  pub right_outside : (table : ℕ → Option Entry) (touched : ℕ → Bool) → ((b : ℕ) → has w b ≡ false → touched b ≡ false → table b ≡ None) → ((b : ℕ) → has w b ≡ false → seeds b ≡ None) →
      ((b : ℕ) → has w b ≡ true → touched b ≡ false → Right table b) → (b : ℕ) → touched b ≡ false → Right table b
  right_outside table touched only seeds_at right b n = by (has w b) refl
    where
      by : (t : Bool) → has w b ≡ t → Right table b
      by true is = right b is n
      by false is =
          let F : Option Seed → Option Entry → Type 0 = λ s h. IsRightGiven (meaning (policy_at book b)) s (λ n. offer here table n b) h in
          coe 0 1 (i. F (sym (seeds_at b is) i) (sym (only b is n) i)) (λ m. no_offer table m b is)

  -- what is right everywhere is stable
  pub right_is_stable : (f : ℕ → Option Entry) → ((b : ℕ) → has w b ≡ false → seeds b ≡ None) → ((b : ℕ) → Right f b) → IsStable here seeds f
  right_is_stable f seeds_at right = record { only_ases = λ b is. by b is (seeds b) (f b) (seeds_at b is) (right b); right = λ b _. right b }
    where
      by : (b : ℕ) → has w b ≡ false → (s : Option Seed) (h : Option Entry) → s ≡ None → IsRightGiven (meaning (policy_at book b)) s (λ n. offer here f n b) h → h ≡ None
      by b is (Some s) h e r = cc
      by b is None None e r = refl
      by b is None (Some d) e (n, o, best, at) = let x : offer here f n b ≡ None = no_offer f n b is in let y : offer here f n b ≡ Some o = best.made in cc

pub are_enough : (relation : ℕ → ℕ → Option Rel) (touched overlay : ℕ → Bool) (earlier taken : List ℕ) → IsDistinct earlier → IsDistinct taken → ((b : ℕ) → occurs b earlier ≡ true → IsCounted relation touched overlay b) → ((b : ℕ) → occurs b taken ≡ true → IsCounted relation touched overlay b) →
    AreEnough relation touched overlay 0 (length earlier + length taken)
are_enough relation touched overlay earlier taken d e c b = elim (longer (length earlier) (length taken)) [
  | inl le ↦ record { ases = taken; distinct = e; counted = b; enough = (let x : length earlier ≤ length taken = le in omega arith) }
  | inr le ↦ record { ases = earlier; distinct = d; counted = c; enough = (let x : length taken ≤ length earlier = le in omega arith) }
]
  where
    longer : (m n : ℕ) → (m ≤ n) ⊎ (n ≤ m)
    longer m n = elim (cases_order m n) [ inl e ↦ inl (omega arith) | inr (inl lt) ↦ inl (omega arith) | inr (inr lt) ↦ inr (omega arith) ]

module _ {P : Type 0} (meaning : P → Policy) (ranks_offers : (p : P) → RanksOffers (meaning p)) (prefers : (p : P) → PrefersCustomers (meaning p)) (names : OfferNames meaning) (follows : OfferFollows meaning) (by_offers : RightByOffers meaning) (nothing_up : NothingUp meaning) (decide : CustomersDecide meaning) (one : OneStableRouting meaning) (w : Topology) (book : PolicyBook P) (state : ℕ → State) (seeds : ℕ → Option Seed) where
  pub exact : (le : ℕ → ℕ → Type 0) (touched : ℕ → Bool) (table f : ℕ → Option Entry) (overlay whole : ℕ → Bool) (earlier taken : List ℕ) → HasNoProviderCycle (relation w) → ((b : ℕ) → has w b ≡ false → seeds b ≡ None) → ((b : ℕ) → whole b ≡ false) →
      IsWholeWork (IsRightLow (setting meaning w book state) seeds) (IsRight (setting meaning w book state) seeds) le (relation w) touched table f overlay whole earlier taken →
      IsExact (setting meaning w book state) seeds table f overlay × AreEnough (relation w) touched overlay 0 (length earlier + length taken)
  exact le touched table f overlay whole earlier taken no_cycle seeds_at empty was = (
    record { stable = stable; only = λ other is b. one w book state seeds other f no_cycle is stable b; differs = was.differs; same = was.same },
    are_enough (relation w) touched overlay earlier taken was.distinct_up was.order.distinct was.done_up was.done,
  )
    where
      stable : IsStable (setting meaning w book state) seeds f
      stable = right_is_stable meaning ranks_offers prefers names follows by_offers nothing_up decide w book state seeds f seeds_at (λ b. was.right b (empty b))

-- a step that changes an entry for another one has found one from below
pub after_some : (new held : Option Entry) → after_up new held ≢ held → IsSome (after_up new held) → IsSome new
after_some (Some e) held ne some = refl
after_some None held ne some = by (low held) ne some
  where
    by : (l : Option Entry) → without_low l held ≢ held → IsSome (without_low l held) → IsSome {T = Entry} None
    by None ne some = absurd (ne refl)
    by (Some d) ne some = some
