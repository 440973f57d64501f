-- A world without the links of some ASes.
use Rattle.std.proofs.Common.{◌≡◌, ℕ, Bool, true, false, ◌||◌, cond, Option, Some, None, option_map, List, refl, ◌∙◌, ap}
use Rattle.net_names.specs.declared.routes.Rel.{Rel}
use Rattle.net_names.specs.declared.routes.Rel.TheVariants.{Customer}
use Rattle.net_names.specs.Links.{converse}
use Rattle.as_graph.specs.Hierarchy.{HasNoProviderCycle}
use Rattle.as_graph.proofs.Chains.{AreLinks, IsMutual}
use Rattle.stability_laws.specs.declared.entry.Entry.{Entry}
use Rattle.stability_laws.specs.declared.entry.Seed.{Seed}
use Rattle.stability_laws.specs.Offers.{Setting, Offer, offer, offer_given}
use Rattle.stability_laws.specs.Stable.{IsRightGiven, IsStable, IsLawful}
use Rattle.stability_laws.proofs.OneRouting.{one_routing}
use Rattle.routing_laws.proofs.Held.{IsGiven, made_in}

linked_by : (b c : Bool) (r : Option Rel) (s : Rel) → cond (b || c) None r ≡ Some s → r ≡ Some s
linked_by true c r s e = cc
linked_by false true r s e = cc
linked_by false false r s e = e

module _ (these : ℕ → Bool) where
  -- the links without those of these ASes
  abbrev pub cut_links : (ℕ → ℕ → Option Rel) → ℕ → ℕ → Option Rel
  cut_links relation a b = cond (these a || these b) None (relation a b)

  abbrev pub cut : Setting → Setting
  cut w = record w { relation = cut_links w.relation }

  cut_linked : (relation : ℕ → ℕ → Option Rel) (a b : ℕ) (r : Rel) → cut_links relation a b ≡ Some r → relation a b ≡ Some r
  cut_linked relation a b r e = linked_by (these a) (these b) (relation a b) r e

  -- what a function gives to the others
  abbrev pub spared : {A : Type 0} → (ℕ → Option A) → ℕ → Option A
  spared h a = cond (these a) None (h a)

  pub spared_at : {A : Type 0} → (h : ℕ → Option A) (a : ℕ) → these a ≡ false → spared h a ≡ h a
  spared_at h a e = ap (λ b. cond b None (h a)) e

  pub spared_is : {A : Type 0} → (h : ℕ → Option A) (a : ℕ) (x : A) → spared h a ≡ Some x → h a ≡ Some x
  spared_is {A} h a x e = by (these a) e
    where
      by : (b : Bool) → cond b None (h a) ≡ Some x → h a ≡ Some x
      by true e = absurd (let k : None ≡ Some x = e in cc)
      by false e = e

  pub twice_spared : {A : Type 0} → (h : ℕ → Option A) (a : ℕ) → spared (spared h) a ≡ spared h a
  twice_spared h a = by (these a)
    where
      by : (b : Bool) → cond b None (cond b None (h a)) ≡ cond b None (h a)
      by true = refl
      by false = refl

  mutual_cut : (relation : ℕ → ℕ → Option Rel) → IsMutual relation → IsMutual (cut_links relation)
  mutual_cut relation mutual_links a b = by (these a) (these b)
    where
      by : (x y : Bool) → cond (y || x) None (relation b a) ≡ option_map converse (cond (x || y) None (relation a b))
      by true true = refl
      by true false = refl
      by false true = refl
      by false false = mutual_links a b

  links_cut : (relation : ℕ → ℕ → Option Rel) (ases : List ℕ) → AreLinks relation ases → AreLinks (cut_links relation) ases
  links_cut relation ases links = record { alike = mutual_cut relation links.alike; ends = λ a b r e. links.ends a b r (cut_linked relation a b r e) }

  no_cycle_cut : (relation : ℕ → ℕ → Option Rel) → HasNoProviderCycle relation → HasNoProviderCycle (cut_links relation)
  no_cycle_cut relation none xs is = none xs (record {
    two = is.two;
    way = record { starts = is.way.starts; steps = λ i within. cut_linked relation _ _ Customer (is.way.steps i within); distinct = is.way.distinct };
    closes = cut_linked relation _ _ Customer is.closes;
  })

  -- a stable routing in which these ASes gave the others nothing that they hold is stable, for the others, where these
  -- ASes have no links
  module _ (w : Setting) (seeds : ℕ → Option Seed) (f : ℕ → Option Entry) (stable : IsStable w seeds f) (unused : (a : ℕ) (e : Entry) → these a ≡ false → f a ≡ Some e → (g : IsGiven w seeds f a e) → these g.giver ≡ false) where
    -- what n offers a there
    abbrev left : ℕ → ℕ → Bool → Option Offer
    left a n b = offer_given (w.policy n) (w.policy a) w.state n a (cond (false || b) None (w.relation a n)) (cond b None (f n))

    left_of : (a n : ℕ) (o : Offer) (b : Bool) → left a n b ≡ Some o → offer w f n a ≡ Some o
    left_of a n o true e = absurd (let k : None ≡ Some o = e in cc)
    left_of a n o false e = e

    none_left : (a n : ℕ) (b : Bool) → offer w f n a ≡ None → left a n b ≡ None
    none_left a n true e = refl
    none_left a n false e = e

    right_left : (a : ℕ) → these a ≡ false → (s : Option Seed) → seeds a ≡ s → (h : Option Entry) → f a ≡ h → IsRightGiven (w.policy a) s (λ n. offer w f n a) h → IsRightGiven (w.policy a) s (λ n. left a n (these n)) h
    right_left a good (Some s) seeded h held right = right
    right_left a good None unseeded None held right = λ n. none_left a n (these n) (right n)
    right_left a good None unseeded (Some e) held (n, o, best, is) =
        let given : IsGiven w seeds f a e = record { giver = n; offered = o; unseeded = unseeded; made = made_in w f n a o best.made; is = is } in (
          n,
          o,
          record { made = ap (left a n) (unused a e good held given) ∙ best.made; first = λ m x made ne. best.first m x (left_of a m x (these m) made) ne },
          is,
        )

    pub stable_cut : IsStable (cut w) (spared seeds) (spared f)
    stable_cut = record { only_ases = outside; right = λ a here. right a here (these a) refl }
      where
        outside : (a : ℕ) → w.has a ≡ false → spared f a ≡ None
        outside a away = by (these a)
          where
            by : (b : Bool) → cond b None (f a) ≡ None
            by true = refl
            by false = stable.only_ases a away

        right : (a : ℕ) → w.has a ≡ true → (b : Bool) → these a ≡ b →
            IsRightGiven (w.policy a) (cond b None (seeds a)) (λ n. offer_given (w.policy n) (w.policy a) w.state n a (cond (b || these n) None (w.relation a n)) (cond (these n) None (f n))) (cond b None (f a))
        right a here true e = λ n. refl
        right a here false e = right_left a e (seeds a) refl (f a) refl (stable.right a here)

  -- of such a world there is one stable routing
  pub one_routing_cut : (w : Setting) → ((a : ℕ) → IsLawful (w.policy a)) → (ases : List ℕ) → AreLinks w.relation ases → HasNoProviderCycle w.relation → (seeds : ℕ → Option Seed) (f g : ℕ → Option Entry) → IsStable (cut w) seeds f → IsStable (cut w) seeds g → (a : ℕ) → f a ≡ g a
  one_routing_cut w lawful ases links no_cycle = one_routing (cut w) lawful ases (links_cut w.relation ases links) (no_cycle_cut w.relation no_cycle)
