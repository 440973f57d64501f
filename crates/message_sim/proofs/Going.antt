-- Where a message is under way on a link, it can be delivered.
use Rattle.std.proofs.Common.{◌≡◌, ◌≢◌, ◌⊎◌, inl, inr, ℕ, ◌==◌, cond, Option, Some, None, List, [], ◌∷◌, ◌++◌, refl, sym, ◌∙◌, ap, subst}
use Rattle.std.proofs.lemmas.Bool.{cases_eq, eq-eqb, ne_eqb}
use Rattle.net_names.specs.declared.routes.Class.{Class}
use Rattle.net_names.specs.declared.routes.Class.TheVariants as class
use Rattle.stability_laws.specs.declared.entry.Entry.{Entry}
use Rattle.stability_laws.specs.declared.entry.Seed.{Seed}
use Rattle.stability_laws.specs.Offers.{Setting, offer}
use Rattle.stability_laws.specs.Stable.{IsRightGiven}
use Rattle.message_sim.specs.Messages.{Message, MessageNet, sends, IsTold}
use Rattle.message_sim.specs.Delivery.{IsDelivery}
use Rattle.message_sim.proofs.Parts.{delivery_of}

-- ---- two messages are the same, or they are not

abbrev Same : {X : Type 0} → X → X → Type 0
Same x y = (x ≡ y) ⊎ (x ≡ y → ⊥)

same_class : (c d : Class) → Same c d
same_class class.Origin class.Origin = inl refl
same_class class.Customer class.Customer = inl refl
same_class class.Peer class.Peer = inl refl
same_class class.Provider class.Provider = inl refl
same_class c d = inr (λ e. (cc))

same_numbers : (xs ys : List ℕ) → Same xs ys
same_numbers [] [] = inl refl
same_numbers [] (y ∷ ys) = inr (λ e. (cc))
same_numbers (x ∷ xs) [] = inr (λ e. (cc))
same_numbers (x ∷ xs) (y ∷ ys) = elim (cases_eq x y) [
  | inl e ↦ elim (same_numbers xs ys) [ inl f ↦ inl (λ i. e i ∷ f i) | inr n ↦ inr (λ g. n (let t : xs ≡ ys = cc in t)) ]
  | inr n ↦ inr (λ g. n (let t : x ≡ y = cc in t))
]

same_number : (a b : Option ℕ) → Same a b
same_number None None = inl refl
same_number None (Some b) = inr (λ e. (cc))
same_number (Some a) None = inr (λ e. (cc))
same_number (Some a) (Some b) = elim (cases_eq a b) [ inl e ↦ inl (ap Some e) | inr n ↦ inr (λ g. n (let t : a ≡ b = cc in t)) ]

same_entry : (a b : Entry) → Same a b
same_entry a b = elim (same_class a.class b.class) [
  | inl c ↦ elim (same_numbers a.path b.path) [
    | inl p ↦ elim (same_number a.otc b.otc) [ inl o ↦ inl (λ i. record { class = c i; path = p i; otc = o i }) | inr n ↦ inr (λ e. n (ap (λ (t : Entry). t.otc) e)) ]
    | inr n ↦ inr (λ e. n (ap (λ (t : Entry). t.path) e))
  ]
  | inr n ↦ inr (λ e. n (ap (λ (t : Entry). t.class) e))
]

pub same_message : (a b : Message) → Same a b
same_message None None = inl refl
same_message None (Some b) = inr (λ e. (cc))
same_message (Some a) None = inr (λ e. (cc))
same_message (Some a) (Some b) = elim (same_entry a b) [ inl e ↦ inl (ap (λ (t : Entry). Some t) e) | inr n ↦ inr (λ g. n (let t : a ≡ b = cc in t)) ]

-- ---- the net after the delivery

abbrev told_queue : (old new : Message) → List Message → Same old new → List Message
told_queue old new before (inl e) = before
told_queue old new before (inr n) = before ++ new ∷ []

is_told : (old new : Message) (before : List Message) (s : Same old new) → IsTold old new before (told_queue old new before s)
is_told old new before (inl e) = inl (e, refl)
is_told old new before (inr n) = inr (n, refl)

module _ (w : Setting) (seeds : ℕ → Option Seed) (x : MessageNet) (n a : ℕ) (apart : n ≢ a) (message : Message) (rest : List Message) (oldest : x.queue n a ≡ message ∷ rest) where
  -- what has been received after it
  abbrev pub received_then : ℕ → ℕ → Message
  received_then m b = cond (b == a) (cond (m == n) message (x.received m b)) (x.received m b)

  module _ (held : Option Entry) (right : IsRightGiven (w.policy a) (seeds a) (λ m. offer w (λ k. received_then k a) m a) held) where
    abbrev choice : ℕ → Option Entry
    choice b = cond (b == a) held (x.choice b)

    abbrev queue : ℕ → ℕ → List Message
    queue m b = cond (m == a) (told_queue (sends w x.choice a b) (sends w choice a b) (x.queue a b) (same_message (sends w x.choice a b) (sends w choice a b))) (cond (b == a) (cond (m == n) rest (x.queue m b)) (x.queue m b))

    abbrev pub net_then : MessageNet
    net_then = record { choice = choice; received = received_then; queue = queue }

    holds : choice a ≡ held
    holds = ap (λ t. cond t held (x.choice a)) (eq-eqb a a refl)

    pub can_deliver : IsDelivery w seeds x n a net_then
    can_deliver = delivery_of w seeds x net_then n a apart (record {
      message = message;
      rest = rest;
      oldest = oldest;
      taken =
          ap (λ t. cond t (told_queue (sends w x.choice a a) (sends w choice a a) (x.queue a a) (same_message (sends w x.choice a a) (sends w choice a a))) (cond (a == a) (cond (n == n) rest (x.queue n a)) (x.queue n a))) (ne_eqb n a apart)
          ∙ (λ i. cond (eq-eqb a a refl i) (cond (eq-eqb n n refl i) rest (x.queue n a)) (x.queue n a));
      received = λ i. cond (eq-eqb a a refl i) (cond (eq-eqb n n refl i) message (x.received n a)) (x.received n a);
      right = subst (IsRightGiven (w.policy a) (seeds a) (λ m. offer w (λ k. received_then k a) m a)) (sym holds) right;
      told = λ b.
          let now = told_queue (sends w x.choice a b) (sends w choice a b) (x.queue a b) (same_message (sends w x.choice a b) (sends w choice a b)) in
          subst (IsTold (sends w x.choice a b) (sends w choice a b) (x.queue a b)) (sym (ap (λ t. cond t now (cond (b == a) (cond (a == n) rest (x.queue a b)) (x.queue a b))) (eq-eqb a a refl)))
          (is_told (sends w x.choice a b) (sends w choice a b) (x.queue a b) (same_message (sends w x.choice a b) (sends w choice a b)));
      other_queues = λ m b ne other.
          ap (λ t. cond t (told_queue (sends w x.choice a b) (sends w choice a b) (x.queue a b) (same_message (sends w x.choice a b) (sends w choice a b))) (cond (b == a) (cond (m == n) rest (x.queue m b)) (x.queue m b))) (ne_eqb m a ne)
          ∙ left_alone rest (x.queue m b) m b other;
      other_received = λ m b other. left_alone message (x.received m b) m b other;
      other_choices = λ b ne. ap (λ t. cond t held (x.choice b)) (ne_eqb b a ne);
    })
      where
        left_alone : {X : Type 0} (new old : X) (m b : ℕ) → ((m ≡ n) × (b ≡ a) → ⊥) → cond (b == a) (cond (m == n) new old) old ≡ old
        left_alone new old m b other = elim (cases_eq b a) [
          | inl e ↦ (λ i. cond (eq-eqb b a e i) (cond (ne_eqb m n (λ f. other (f, e)) i) new old) old)
          | inr ne ↦ ap (λ t. cond t (cond (m == n) new old) old) (ne_eqb b a ne)
        ]
