-- What ASes hold has the origins of the seeds.
use Rattle.std.proofs.Common.{◌≡◌, ℕ, Bool, true, false, ◌&&◌, not, cond, inl, inr, List, [], ◌∷◌, Option, Some, None, refl, sym, ◌∙◌, ap, subst}
use Rattle.std.specs.Prelude.{is_some, slice_get}
use Rattle.std.proofs.lemmas.Bool.{cases_eq}
use Rattle.net_names.specs.declared.routes.Rel.{Rel}
use Rattle.net_names.specs.declared.routes.Rel.TheVariants.{Customer, Peer, Provider}
use Rattle.net_names.specs.declared.routes.State.{State}
use Rattle.net_names.specs.Links.{converse}
use Rattle.net_names.specs.Numbers.{last_or, occurs}
use Rattle.policy_laws.specs.Plain.{TakesNone}
use Rattle.policy_laws.specs.Policy.{Policy}
use Rattle.stability_laws.specs.declared.entry.Entry.{Entry}
use Rattle.stability_laws.specs.declared.entry.Seed.{Seed}
use Rattle.stability_laws.specs.Entries.{seed_entry}
use Rattle.stability_laws.specs.Laws.{if_customer}
use Rattle.stability_laws.specs.Offers.{Setting, Offer, offer, offer_given, view_of}
use Rattle.stability_laws.specs.Stable.{IsRightGiven}
use Rattle.stability_laws.proofs.Local.{given_when}
use Rattle.route_choice.specs.declared.choice.Part.{Part}
use Rattle.route_choice.specs.declared.choice.Part.TheVariants.{Up, Whole}
use Rattle.route_choice.specs.Choices.{IsStepOf, offers_of}
use Rattle.route_choice.proofs.Leads.{no_offers}
use Rattle.route_choice.proofs.Unread.{of_customer}
use Rattle.three_pass.specs.Origins.{AreHeldOf, AreSeedsOf}

second_of : (b c d : Bool) (o q : Offer) → cond (b && (c && d)) (Some o) None ≡ Some q → c ≡ true
second_of true true d o q e = refl
second_of true false d o q e = cc
second_of false c d o q e = cc

same_last : (a : ℕ) (xs : List ℕ) → is_some (slice_get xs 0) ≡ true → last_or 0 (a ∷ xs) ≡ last_or 0 xs
same_last a [] there = cc
same_last a (x ∷ xs) there = refl

-- an offer's path has the origin of the entry that is offered
offer_has : (test : State → Type 0) (s r : Policy) (st : ℕ → State) (n a : ℕ) (relation : Option Rel) (held : Option Entry) (o : Offer) → ((e : Entry) → held ≡ Some e → test (st (last_or 0 e.path))) →
    offer_given s r st n a relation held ≡ Some o → test (st (last_or 0 o.entry.path))
offer_has test s r st n a None held o all made = cc
offer_has test s r st n a (Some from) None o all made = cc
offer_has test s r st n a (Some from) (Some d) o all made =
    let some : is_some (slice_get d.path 0) ≡ true = second_of (s.exports d.class d.otc (converse from)) (is_some (slice_get d.path 0)) (not (occurs a d.path) && r.accepts (view_of s.marks st n from d)) _ o made in
    subst (λ (t : Offer). test (st (last_or 0 t.entry.path))) (given_when _ _ o made) (subst (λ x. test (st x)) (sym (same_last a d.path some)) (all d refl))

-- an offer of a part is one of all offers
made_of : (part : Part) (w : Setting) (f : ℕ → Option Entry) (a n : ℕ) (o : Offer) → offers_of part w f a n ≡ Some o → offer w f n a ≡ Some o
made_of Whole w f a n o made = made
made_of Up w f a n o made = (of_customer (w.relation a n) (offer w f n a) o made).1

-- a step keeps it that the origins of all that is held pass the test that those of seeds pass
pub held_of : (test : State → Type 0) (part : Part) (w : Setting) (seeds : ℕ → Option Seed) (f g : ℕ → Option Entry) (a : ℕ) → AreSeedsOf test w.state seeds → AreHeldOf test w.state f → IsStepOf part w seeds f a g → AreHeldOf test w.state g
held_of test part w seeds f g a seeded held step n e is = elim (cases_eq n a) [
  | inl same ↦ by (seeds a) refl (g a) (ap g (sym same) ∙ is) step.right
  | inr other ↦ held n e (sym (step.others n other) ∙ is)
]
  where
    by : (s : Option Seed) → seeds a ≡ s → (h : Option Entry) → h ≡ Some e → IsRightGiven (w.policy a) s (λ m. offers_of part w f a m) h → test (w.state (last_or 0 e.path))
    by (Some s) at h here right =
        let same : e ≡ seed_entry s = cc in
        subst (λ (t : Entry). test (w.state (last_or 0 t.path))) (sym same) (seeded a s at)
    by None at None here right = cc
    by None at (Some d) here (m, o, best, is_offer) =
        let same : d ≡ e = cc in
        subst (λ (t : Entry). test (w.state (last_or 0 t.path))) (sym is_offer ∙ same) (offer_has test (w.policy m) (w.policy a) w.state m a (w.relation a m) (f m) o (held m) (made_of part w f a m o best.made))

no_customers : (r : Option Rel) (o : Option Offer) → o ≡ None → if_customer r o ≡ None
no_customers None o none = refl
no_customers (Some Customer) o none = none
no_customers (Some Peer) o none = refl
no_customers (Some Provider) o none = refl

-- who takes no offer of such origins has none of a part
pub none_of : (test : State → Type 0) (part : Part) (w : Setting) (f : ℕ → Option Entry) (a : ℕ) → AreHeldOf test w.state f → TakesNone (w.policy a) test → (n : ℕ) → offers_of part w f a n ≡ None
none_of test Whole w f a held none n = no_offers w f a test held none n
none_of test Up w f a held none n = no_customers (w.relation a n) (offer w f n a) (no_offers w f a test held none n)
