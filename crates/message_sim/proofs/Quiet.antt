-- Each delivery keeps the agreement, and a quiet net that agrees is stable.
use Rattle.std.proofs.Common.{◌≡◌, ◌≢◌, inl, inr, ℕ, true, false, Option, Some, None, option_map, List, [], ◌∷◌, ◌++◌, refl, sym, ◌∙◌, ap, subst}
use Rattle.std.proofs.lemmas.Bool.{cases_eq}
use Rattle.net_names.specs.declared.routes.Rel.{Rel}
use Rattle.policy_laws.specs.Policy.{Policy}
use Rattle.as_graph.proofs.Chains.{IsMutual}
use Rattle.stability_laws.specs.declared.entry.Entry.{Entry}
use Rattle.stability_laws.specs.declared.entry.Seed.{Seed}
use Rattle.stability_laws.specs.Entries.{seed_entry}
use Rattle.stability_laws.specs.Offers.{Setting, Offer, offer, offer_given}
use Rattle.stability_laws.specs.Stable.{IsRightGiven, IsStable}
use Rattle.message_sim.specs.Messages.{Message, MessageNet, sends, sent_given, IsQuiet, IsStart, IsTold}
use Rattle.message_sim.specs.Starts.{first_queue}
use Rattle.message_sim.specs.Delivery.{IsDelivery, IsTurn, AreDeliveries}
use Rattle.message_sim.specs.Agreement.{IsRightByReceived, youngest, Agrees}
use Rattle.message_sim.proofs.Parts.{AreParts, apart_ends, first_told, parts}
use Rattle.message_sim.proofs.Sending.{offers_of_sent}

pub youngest_push : (d : Message) (ms : List Message) (m : Message) → youngest d (ms ++ m ∷ []) ≡ m
youngest_push d [] m = refl
youngest_push d (x ∷ ms) m = youngest_push x ms m

pub youngest_first : (m : Message) → youngest None (first_queue m) ≡ m
youngest_first None = refl
youngest_first (Some e) = refl

-- rightness depends on the offers alone
pub right_with : (p : Policy) (seed : Option Seed) (os qs : ℕ → Option Offer) (held held' : Option Entry) → ((n : ℕ) → os n ≡ qs n) → held ≡ held' → IsRightGiven p seed os held → IsRightGiven p seed qs held'
right_with p seed os qs held held' same is right = let F : (ℕ → Option Offer) → Option Entry → Type 0 = IsRightGiven p seed in coe 0 1 (i. F (λ n. same n i) (is i)) right

module _ (w : Setting) (seeds : ℕ → Option Seed) where
  pub no_offer : (s r : Policy) (n a : ℕ) (relation : Option Rel) → offer_given s r w.state n a relation None ≡ None
  no_offer s r n a None = refl
  no_offer s r n a (Some from) = refl

  right_first : (p : Policy) (seed : Option Seed) (offers : ℕ → Option Offer) → ((n : ℕ) → offers n ≡ None) → IsRightGiven p seed offers (option_map seed_entry seed)
  right_first p None offers none = none
  right_first p (Some s) offers none = refl

  pub start_agrees : ((a : ℕ) → w.has a ≡ false → seeds a ≡ None) → (x : MessageNet) → IsStart w seeds x → Agrees w seeds x
  start_agrees only x start = record {
    only_ases = λ a out. start.choices a ∙ ap (option_map seed_entry) (only a out);
    last = λ n a r linked. (λ i. youngest (start.received n a i) (first_told (sends w x.choice n a) (x.queue n a) (start.queues n a) i)) ∙ youngest_first (sends w x.choice n a);
    right = λ a here.
        right_with (w.policy a) (seeds a) (λ n. offer w (λ m. x.received m a) n a) (λ n. offer w (λ m. x.received m a) n a) (option_map seed_entry (seeds a)) (x.choice a) (λ n. refl) (sym (start.choices a))
        (right_first (w.policy a) (seeds a) (λ n. offer w (λ m. x.received m a) n a) (λ n. ap (offer_given (w.policy n) (w.policy a) w.state n a (w.relation a n)) (start.received n a) ∙ no_offer (w.policy n) (w.policy a) n a (w.relation a n)));
  }

  -- one delivery
  module _ (self : (a : ℕ) → w.relation a a ≡ None) (ends : (a b : ℕ) (r : Rel) → w.relation a b ≡ Some r → w.has a ≡ true) (x y : MessageNet) (n a : ℕ) (from : Rel) (linked : w.relation a n ≡ Some from) (whole : IsDelivery w seeds x n a y) (agrees : Agrees w seeds x) where
    apart : n ≢ a
    apart = apart_ends w self n a from linked

    d : AreParts w seeds x n a y
    d = parts w seeds x y n a apart whole

    same_sent : (m b : ℕ) → m ≢ a → sends w y.choice m b ≡ sends w x.choice m b
    same_sent m b ne = ap (sent_given (w.policy m) (w.relation m b)) (d.other_choices m ne)

    told_last : (b : ℕ) → (old new : Message) (before after : List Message) → IsTold old new before after → youngest (x.received a b) before ≡ old → youngest (x.received a b) after ≡ new
    told_last b old new before after (inl (same, is)) was = ap (youngest (x.received a b)) is ∙ was ∙ same
    told_last b old new before after (inr (ne, is)) was = ap (youngest (x.received a b)) is ∙ youngest_push (x.received a b) before new

    last_of : (m b : ℕ) (r : Rel) → w.relation b m ≡ Some r → youngest (y.received m b) (y.queue m b) ≡ sends w y.choice m b
    last_of m b r is = elim (cases_eq m a) [
      | inl e ↦ subst (λ k. youngest (y.received k b) (y.queue k b) ≡ sends w y.choice k b) (sym e)
          (ap (λ t. youngest t (y.queue a b)) (d.other_received a b (λ p. apart (sym p.0)))
          ∙ told_last b (sends w x.choice a b) (sends w y.choice a b) (x.queue a b) (y.queue a b) (d.told b) (agrees.last a b r (subst (λ k. w.relation b k ≡ Some r) e is)))
      | inr ne ↦ elim (cases_eq m n) [
        | inl e ↦ elim (cases_eq b a) [
          | inl f ↦ (λ i. youngest (y.received (e i) (f i)) (y.queue (e i) (f i))) ∙ (λ i. youngest (d.received i) (d.taken i))
              ∙ sym (ap (youngest (x.received n a)) d.oldest) ∙ agrees.last n a from linked
              ∙ sym (same_sent n a apart) ∙ sym (λ i. sends w y.choice (e i) (f i))
          | inr nf ↦ others m b r is ne (λ p. nf p.1)
        ]
        | inr ng ↦ others m b r is ne (λ p. ng p.0)
      ]
    ]
      where
        others : (m b : ℕ) (r : Rel) → w.relation b m ≡ Some r → m ≢ a → ((m ≡ n) × (b ≡ a) → ⊥) → youngest (y.received m b) (y.queue m b) ≡ sends w y.choice m b
        others m b r is ne other = (λ i. youngest (d.other_received m b other i) (d.other_queues m b ne other i)) ∙ agrees.last m b r is ∙ sym (same_sent m b ne)

    pub delivery_agrees : Agrees w seeds y
    delivery_agrees = record {
      only_ases = λ b out. elim (cases_eq b a) [
        | inl e ↦ (let t : true ≡ false = sym (ends a n from linked) ∙ ap w.has (sym e) ∙ out in cc)
        | inr ne ↦ d.other_choices b ne ∙ agrees.only_ases b out
      ];
      last = last_of;
      right = λ b here. elim (cases_eq b a) [
        | inl e ↦ subst (IsRightByReceived w seeds y) (sym e) d.right
        | inr ne ↦ right_with (w.policy b) (seeds b) (λ m. offer w (λ k. x.received k b) m b) (λ m. offer w (λ k. y.received k b) m b) (x.choice b) (y.choice b)
            (λ m. ap (offer_given (w.policy m) (w.policy b) w.state m b (w.relation b m)) (sym (d.other_received m b (λ p. ne p.1)))) (sym (d.other_choices b ne)) (agrees.right b here)
      ];
    }

  pub deliveries_agree : ((a : ℕ) → w.relation a a ≡ None) → ((a b : ℕ) (r : Rel) → w.relation a b ≡ Some r → w.has a ≡ true) → (ls : List (ℕ × ℕ)) (x y : MessageNet) → AreDeliveries w seeds ls x y → Agrees w seeds x → Agrees w seeds y
  deliveries_agree self ends [] x y is agrees = subst (Agrees w seeds) is agrees
  deliveries_agree self ends (l ∷ ls) x y (z, linked, turn, rest) agrees = deliveries_agree self ends ls z y rest (by (w.relation l.1 l.0) refl turn)
    where
      by : (r : Option Rel) → w.relation l.1 l.0 ≡ r → IsTurn w seeds x l.0 l.1 z → Agrees w seeds z
      by r is (inl (none, same)) = subst (Agrees w seeds) (sym same) agrees
      by None is (inr d) = absurd (linked is)
      by (Some from) is (inr d) = delivery_agrees self ends x z l.0 l.1 from is d agrees

  pub quiet_stable : IsMutual w.relation → (x : MessageNet) → Agrees w seeds x → IsQuiet x → IsStable w seeds x.choice
  quiet_stable turns x agrees quiet = record {
    only_ases = agrees.only_ases;
    right = λ a here.
        right_with (w.policy a) (seeds a) (λ n. offer w (λ m. x.received m a) n a) (λ n. offer w x.choice n a) (x.choice a) (x.choice a)
        (offers_of_sent w turns x.choice (λ m. x.received m a) a (λ n r is. sym (ap (youngest (x.received n a)) (quiet n a)) ∙ agrees.last n a r is)) refl (agrees.right a here);
  }
