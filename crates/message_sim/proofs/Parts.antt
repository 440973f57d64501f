-- A delivery, part by part: what it changes at its link, at its receiver, and what it leaves.
use Rattle.std.proofs.Common.{◌≡◌, ◌≢◌, inl, inr, ℕ, ◌==◌, ◌&&◌, cond, Option, None, Some, List, [], ◌∷◌, drop, refl, sym, ◌∙◌, ap, subst}
use Rattle.std.proofs.lemmas.Bool.{cases_eq, eq-eqb, ne_eqb}
use Rattle.net_names.specs.declared.routes.Rel.{Rel}
use Rattle.stability_laws.specs.declared.entry.Seed.{Seed}
use Rattle.stability_laws.specs.Offers.{Setting}
use Rattle.message_sim.specs.Messages.{Message, MessageNet, IsTold, sends, sent_given}
use Rattle.message_sim.specs.Starts.{first_queue}
use Rattle.message_sim.specs.Delivery.{IsDelivery}
use Rattle.message_sim.specs.Agreement.{IsRightByReceived}

-- ---- what is told first

pub first_told : (m : Message) (q : List Message) → IsTold None m [] q → q ≡ first_queue m
first_told None q (inl (same, is)) = is
first_told None q (inr (ne, is)) = absurd (ne refl)
first_told (Some e) q (inl (same, is)) = cc
first_told (Some e) q (inr (ne, is)) = is

pub told_first : (m : Message) (q : List Message) → q ≡ first_queue m → IsTold None m [] q
told_first None q is = inl (refl, is)
told_first (Some e) q is = inr ((λ h. (cc)), is)

-- ---- the parts of a delivery

pub record AreParts (w : Setting) (seeds : ℕ → Option Seed) (x : MessageNet) (n a : ℕ) (y : MessageNet) : Type 0 where
  pub message : Message
  pub rest : List Message
  pub oldest : x.queue n a ≡ message ∷ rest
  pub taken : y.queue n a ≡ rest
  pub received : y.received n a ≡ message
  pub right : IsRightByReceived w seeds y a
  pub told : (b : ℕ) → IsTold (sends w x.choice a b) (sends w y.choice a b) (x.queue a b) (y.queue a b)
  pub other_queues : (m b : ℕ) → m ≢ a → ((m ≡ n) × (b ≡ a) → ⊥) → y.queue m b ≡ x.queue m b
  pub other_received : (m b : ℕ) → ((m ≡ n) × (b ≡ a) → ⊥) → y.received m b ≡ x.received m b
  pub other_choices : (b : ℕ) → b ≢ a → y.choice b ≡ x.choice b

-- linked ASes differ
pub apart_ends : (w : Setting) → ((a : ℕ) → w.relation a a ≡ None) → (n a : ℕ) (r : Rel) → w.relation a n ≡ Some r → n ≢ a
apart_ends w self n a r linked e = let none : w.relation a n ≡ None = ap (w.relation a) e ∙ self a in let is : None ≡ Some r = sym none ∙ linked in cc

-- how many messages are taken from a queue
taken_from : (n a m b : ℕ) → ((m ≡ n) × (b ≡ a) → ⊥) → ◌≡◌ {A = ℕ} (cond (m == n && b == a) 1 0) 0
taken_from n a m b other = elim (cases_eq m n) [
  | inl e ↦ (λ i. cond (eq-eqb m n e i && ne_eqb b a (λ f. other (e, f)) i) 1 0)
  | inr ne ↦ ap (λ t. cond (t && b == a) 1 0) (ne_eqb m n ne)
]

taken_one : (n a : ℕ) → ◌≡◌ {A = ℕ} (cond (n == n && a == a) 1 0) 1
taken_one n a = λ i. cond (eq-eqb n n refl i && eq-eqb a a refl i) 1 0

untold : (old new : Message) (before after : List Message) → new ≡ old → IsTold old new before after → after ≡ before
untold old new before after e (inl (same, is)) = is
untold old new before after e (inr (ne, is)) = absurd (ne (sym e))

module _ (w : Setting) (seeds : ℕ → Option Seed) (x y : MessageNet) (n a : ℕ) (apart : n ≢ a) where
  pub parts : IsDelivery w seeds x n a y → AreParts w seeds x n a y
  parts d = record {
    message = y.received n a;
    rest = drop 1 (x.queue n a);
    oldest = d.oldest;
    taken = still n a apart ∙ ap (λ k. drop k (x.queue n a)) (taken_one n a);
    received = refl;
    right = d.right;
    told = λ b. subst (λ k. IsTold (sends w x.choice a b) (sends w y.choice a b) (drop k (x.queue a b)) (y.queue a b)) (taken_from n a a b (λ p. apart (sym p.0))) (d.queues a b);
    other_queues = λ m b ne other. still m b ne ∙ ap (λ k. drop k (x.queue m b)) (taken_from n a m b other);
    other_received = d.received;
    other_choices = d.choices;
  }
    where
      still : (m b : ℕ) → m ≢ a → y.queue m b ≡ drop (cond (m == n && b == a) 1 0) (x.queue m b)
      still m b ne = untold (sends w x.choice m b) (sends w y.choice m b) (drop (cond (m == n && b == a) 1 0) (x.queue m b)) (y.queue m b) (ap (sent_given (w.policy m) (w.relation m b)) (d.choices m ne)) (d.queues m b)

  pub delivery_of : AreParts w seeds x n a y → IsDelivery w seeds x n a y
  delivery_of p = record {
    oldest = p.oldest ∙ (λ i. sym p.received i ∷ sym (ap (drop 1) p.oldest) i);
    received = p.other_received;
    right = p.right;
    choices = p.other_choices;
    queues = λ m b. elim (cases_eq m a) [
      | inl e ↦ subst (λ k. IsTold (sends w x.choice k b) (sends w y.choice k b) (drop (cond (k == n && b == a) 1 0) (x.queue k b)) (y.queue k b)) (sym e)
          (subst (λ k. IsTold (sends w x.choice a b) (sends w y.choice a b) (drop k (x.queue a b)) (y.queue a b)) (sym (taken_from n a a b (λ q. apart (sym q.0)))) (p.told b))
      | inr ne ↦ inl (sym (ap (sent_given (w.policy m) (w.relation m b)) (p.other_choices m ne)), left m b ne)
    ];
  }
    where
      elsewhere : (m b : ℕ) → m ≢ a → ((m ≡ n) × (b ≡ a) → ⊥) → y.queue m b ≡ drop (cond (m == n && b == a) 1 0) (x.queue m b)
      elsewhere m b ne other = p.other_queues m b ne other ∙ ap (λ k. drop k (x.queue m b)) (sym (taken_from n a m b other))

      left : (m b : ℕ) → m ≢ a → y.queue m b ≡ drop (cond (m == n && b == a) 1 0) (x.queue m b)
      left m b ne = elim (cases_eq m n) [
        | inl e ↦ elim (cases_eq b a) [
          | inl f ↦ (λ i. y.queue (e i) (f i)) ∙ p.taken ∙ sym (ap (drop 1) p.oldest) ∙ ap (λ k. drop k (x.queue n a)) (sym (taken_one n a)) ∙ sym (λ i. drop (cond (e i == n && f i == a) 1 0) (x.queue (e i) (f i)))
          | inr nf ↦ elsewhere m b ne (λ q. nf q.1)
        ]
        | inr ng ↦ elsewhere m b ne (λ q. ng q.0)
      ]
