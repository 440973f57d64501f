-- Two routings that are right wherever they differ are equal; so what leaves all neighbours as they were leaves all
-- others as they were.
use Rattle.std.proofs.Common.{◌≡◌, ◌⊎◌, inl, inr, ℕ, Bool, true, false, true≢false, ◌&&◌, ◌==◌, not, cond, Option, Some, None, is_some, List, [], ◌∷◌, refl, sym, ◌∙◌, ap, subst}
use Rattle.std.proofs.lemmas.Bool.{cases_Bool, or_cases, eqb-true, and_parts, and_from}
use Rattle.net_names.specs.declared.routes.Class.{Class}
use Rattle.net_names.specs.declared.routes.Class.TheVariants as class
use Rattle.net_names.specs.declared.routes.Rel.{Rel}
use Rattle.net_names.specs.declared.routes.State.{State}
use Rattle.net_names.specs.Links.{converse}
use Rattle.net_names.specs.Numbers.{occurs}
use Rattle.policy_laws.specs.Policy.{Policy}
use Rattle.as_graph.specs.Hierarchy.{HasNoProviderCycle}
use Rattle.as_graph.proofs.Chains.{AreLinks}
use Rattle.stability_laws.specs.declared.entry.Entry.{Entry}
use Rattle.stability_laws.specs.declared.entry.Seed.{Seed}
use Rattle.stability_laws.specs.Entries.{seed_entry}
use Rattle.stability_laws.specs.Offers.{Setting, Offer, offer, offer_given, view_of, passed_on}
use Rattle.stability_laws.specs.Stable.{IsRight, IsRightGiven, IsStable, IsLawful}
use Rattle.stability_laws.proofs.OneRouting.{one_routing}
use Rattle.routing_laws.proofs.Influence.{IsUnchanged}

-- ---- an AS that keeps what it holds, by a seed and a policy that exports it as what it was

was : Option Entry → Class → Class
was None k = k
was (Some e) class.Origin = e.class
was (Some e) class.Customer = class.Customer
was (Some e) class.Peer = class.Peer
was (Some e) class.Provider = class.Provider

abbrev frozen : Option Entry → Policy → Policy
frozen held p = record p { exports = λ k otc to. p.exports (was held k) otc to }

abbrev kept : Option Entry → Seed
kept None = record { path = []; otc = None }
kept (Some e) = record { path = e.path; otc = e.otc }

frozen_lawful : (held : Option Entry) (p : Policy) → IsLawful p → IsLawful (frozen held p)
unfolding was
frozen_lawful None p lawful = record { ranks_offers = record { irreflexive = lawful.ranks_offers.irreflexive; transitive = lawful.ranks_offers.transitive; total = lawful.ranks_offers.total }; prefers_customers = lawful.prefers_customers; exports_down_only = record { from_peer = lawful.exports_down_only.from_peer; from_provider = lawful.exports_down_only.from_provider } }
frozen_lawful (Some e) p lawful = record { ranks_offers = record { irreflexive = lawful.ranks_offers.irreflexive; transitive = lawful.ranks_offers.transitive; total = lawful.ranks_offers.total }; prefers_customers = lawful.prefers_customers; exports_down_only = record { from_peer = lawful.exports_down_only.from_peer; from_provider = lawful.exports_down_only.from_provider } }

nothing_offered : (b c : Bool) (o : Offer) → cond (b && (false && c)) (Some o) None ≡ None
nothing_offered true c o = refl
nothing_offered false c o = refl

frozen_offer : (s r : Policy) (state : ℕ → State) (n a : ℕ) (relation : Option Rel) (held : Option Entry) → offer_given (frozen held s) r state n a relation (Some (seed_entry (kept held))) ≡ offer_given s r state n a relation held
unfolding was
frozen_offer s r st n a None held = refl
frozen_offer s r st n a (Some from) None =
    let e : Entry = seed_entry (kept None) in
    nothing_offered (s.exports class.Origin None (converse from)) (not (occurs a e.path) && r.accepts (view_of s.marks st n from e)) (record { view = view_of s.marks st n from e; entry = passed_on s.marks r.marks n a from e })
frozen_offer s r st n a (Some from) (Some e) = refl

module _ (w : Setting) (lawful : (a : ℕ) → IsLawful (w.policy a)) (ases : List ℕ) (links : AreLinks w.relation ases) (no_cycle : HasNoProviderCycle w.relation) (seeds : ℕ → Option Seed) (f g : ℕ → Option Entry) where
  abbrev pub AgreeOrRight : ℕ → Type 0
  AgreeOrRight a = (f a ≡ g a) ⊎ (IsRight w seeds f a × IsRight w seeds g a)

  module _ (decide : (a : ℕ) → AgreeOrRight a) where
    policy_by : (a : ℕ) → AgreeOrRight a → Policy
    policy_by a (inl e) = frozen (f a) (w.policy a)
    policy_by a (inr r) = w.policy a

    seed_by : (a : ℕ) → AgreeOrRight a → Option Seed
    seed_by a (inl e) = Some (kept (f a))
    seed_by a (inr r) = seeds a

    held_by : (ℕ → Option Entry) → (a : ℕ) → AgreeOrRight a → Option Entry
    held_by h a (inl e) = Some (seed_entry (kept (f a)))
    held_by h a (inr r) = h a

    -- the world in which the ASes at which the two agree keep what they hold
    abbrev world : Setting
    world = record w { has = λ a. true; policy = λ a. policy_by a (decide a) }

    lawful_world : (a : ℕ) → IsLawful (world.policy a)
    unfolding policy_by
    lawful_world a = by (decide a)
      where
        by : (d : AgreeOrRight a) → IsLawful (policy_by a d)
        by (inl e) = frozen_lawful (f a) (w.policy a) (lawful a)
        by (inr r) = lawful a

    same_offer : (h : ℕ → Option Entry) → ((a : ℕ) → f a ≡ g a → h a ≡ f a) → (r : Policy) (n a : ℕ) → offer_given (world.policy n) r w.state n a (w.relation a n) (held_by h n (decide n)) ≡ offer_given (w.policy n) r w.state n a (w.relation a n) (h n)
    unfolding policy_by held_by
    same_offer h either r n a = by (decide n)
      where
        by : (d : AgreeOrRight n) → offer_given (policy_by n d) r w.state n a (w.relation a n) (held_by h n d) ≡ offer_given (w.policy n) r w.state n a (w.relation a n) (h n)
        by (inl e) = frozen_offer (w.policy n) r w.state n a (w.relation a n) (f n) ∙ ap (offer_given (w.policy n) r w.state n a (w.relation a n)) (sym (either n e))
        by (inr right) = refl

    stable_world : (h : ℕ → Option Entry) → ((a : ℕ) → f a ≡ g a → h a ≡ f a) → ((a : ℕ) → IsRight w seeds f a × IsRight w seeds g a → IsRight w seeds h a) → IsStable world (λ a. seed_by a (decide a)) (λ a. held_by h a (decide a))
    unfolding policy_by seed_by held_by
    stable_world h either both = record { only_ases = λ a away. absurd (true≢false away); right = λ a here. right a (decide a) }
      where
        right : (a : ℕ) (d : AgreeOrRight a) → IsRightGiven (policy_by a d) (seed_by a d) (λ n. offer_given (world.policy n) (policy_by a d) w.state n a (w.relation a n) (held_by h n (decide n))) (held_by h a d)
        right a (inl e) = refl
        right a (inr rights) =
            let R : (ℕ → Option Offer) → Type 0 = λ os. IsRightGiven (w.policy a) (seeds a) os (h a) in
            subst R (λ i n. sym (same_offer h either (w.policy a) n a) i) (both a rights)

    pub one_routing_where : (a : ℕ) → f a ≡ g a
    unfolding held_by
    one_routing_where a = by (decide a) (one_routing world lawful_world ases links no_cycle (λ a. seed_by a (decide a)) (λ a. held_by f a (decide a)) (λ a. held_by g a (decide a)) (stable_world f (λ a e. refl) (λ a r. r.0)) (stable_world g (λ a e. sym e) (λ a r. r.1)) a)
      where
        by : (d : AgreeOrRight a) → held_by f a d ≡ held_by g a d → f a ≡ g a
        by (inl e) same = e
        by (inr r) same = same

-- ---- neighbours contain what changes

some_or_none : (p : ℕ → Bool) (xs : List ℕ) → ((x : ℕ) × (p x ≡ true)) ⊎ ((x : ℕ) → occurs x xs ≡ true → p x ≡ false)
some_or_none p [] = inr (λ x there. absurd (true≢false (sym there)))
some_or_none p (y ∷ ys) = elim (cases_Bool (p y)) [
  | inl e ↦ inl (y, e)
  | inr e ↦ elim (some_or_none p ys) [
    | inl found ↦ inl found
    | inr none ↦ inr (λ x there. elim (or_cases (y == x) (occurs x ys) there) [ inl is ↦ subst (λ t. p t ≡ false) (eqb-true y x is) e | inr rest ↦ none x rest ])
  ]
]

module _ (w : Setting) (lawful : (a : ℕ) → IsLawful (w.policy a)) (ases : List ℕ) (links : AreLinks w.relation ases) (no_cycle : HasNoProviderCycle w.relation) (old : ℕ → Policy) (old_has : ℕ → Bool) (old_links : ℕ → ℕ → Option Rel) (seeds later : ℕ → Option Seed) (these : ℕ → Bool)
    (same : (a : ℕ) → these a ≡ false → IsUnchanged w old old_has old_links seeds later a) (f h : ℕ → Option Entry) (f_stable : IsStable (record w { has = old_has; relation = old_links; policy = old }) seeds f) (h_stable : IsStable w later h)
    (contain : (a b : ℕ) (r : Rel) → w.relation b a ≡ Some r → these a ≡ true → these b ≡ false → h b ≡ f b) where
  -- what they held, and at the ASes that change what they hold now
  abbrev mixed : ℕ → Option Entry
  mixed a = cond (these a) (h a) (f a)

  kept_there : (a : ℕ) → these a ≡ false → mixed a ≡ f a
  kept_there a e = ap (λ b. cond b (h a) (f a)) e

  -- an AS with a link to none of them
  abbrev IsApart : ℕ → Type 0
  IsApart a = (n : ℕ) → occurs n ases ≡ true → (these n && is_some (w.relation a n)) ≡ false

  no_link : (a : ℕ) → IsApart a → (n : ℕ) → these n ≡ true → w.relation a n ≡ None
  no_link a apart n e = by (w.relation a n) refl
    where
      by : (r : Option Rel) → w.relation a n ≡ r → r ≡ None
      by None is = refl
      by (Some r) is = absurd (true≢false (sym (and_from _ _ e (ap is_some is)) ∙ apart n (links.ends a n r is)))

  offers_kept : (a : ℕ) → these a ≡ false → IsApart a → (n : ℕ) → offer (record w { has = old_has; relation = old_links; policy = old }) f n a ≡ offer w mixed n a
  offers_kept a other apart n = by (these n) refl
    where
      by : (b : Bool) → these n ≡ b → offer (record w { has = old_has; relation = old_links; policy = old }) f n a ≡ offer_given (w.policy n) (w.policy a) w.state n a (w.relation a n) (cond b (h n) (f n))
      by true e = let none = no_link a apart n e in
          ap (λ r. offer_given (old n) (old a) w.state n a r (f n)) ((same a other).links n ∙ none) ∙ sym (ap (λ r. offer_given (w.policy n) (w.policy a) w.state n a r (h n)) none)
      by false e = λ i. offer_given (sym (same n e).policy i) (sym (same a other).policy i) w.state n a ((same a other).links n i) (f n)

  apart_right : (a : ℕ) → w.has a ≡ true → these a ≡ false → IsApart a → IsRight w later mixed a
  apart_right a here other apart =
      let F : Policy → Option Seed → (ℕ → Option Offer) → Option Entry → Type 0 = λ p s os e. IsRightGiven p s os e in
      coe 0 1 (i. F (sym (same a other).policy i) (sym (same a other).seed i) (λ n. offers_kept a other apart n i) (sym (kept_there a other) i)) (f_stable.right a ((same a other).there ∙ here))

  linked_now : (r : Option Rel) → is_some r ≡ true → (s : Rel) × (r ≡ Some s)
  linked_now None e = let k : false ≡ true = e in cc
  linked_now (Some s) e = (s, refl)

  decide : (a : ℕ) → AgreeOrRight w lawful ases links no_cycle later h mixed a
  decide a = elim (cases_Bool (these a)) [
    | inl e ↦ inl (sym (ap (λ b. cond b (h a) (f a)) e))
    | inr other ↦ elim (some_or_none (λ n. these n && is_some (w.relation a n)) ases) [
      | inl (n, both) ↦ inl (near n (and_parts _ _ both) other)
      | inr apart ↦ elim (cases_Bool (w.has a)) [
        | inl here ↦ inr (h_stable.right a here, apart_right a here other apart)
        | inr away ↦ inl (h_stable.only_ases a away ∙ sym (kept_there a other ∙ f_stable.only_ases a ((same a other).there ∙ away)))
      ]
    ]
  ]
    where
      near : (n : ℕ) → (these n ≡ true) × (is_some (w.relation a n) ≡ true) → these a ≡ false → h a ≡ mixed a
      near n (is, linked) other = let (r, link) = linked_now (w.relation a n) linked in contain n a r link is other ∙ sym (kept_there a other)

  pub contained : (a : ℕ) → these a ≡ false → h a ≡ f a
  contained a other = one_routing_where w lawful ases links no_cycle later h mixed decide a ∙ kept_there a other
