-- Turns have one outcome.
use Rattle.std.proofs.Common.{◌≡◌, ◌≢◌, ◌==◌, ◌&&◌, if◌then◌else◌, inl, inr, ℕ, suc, false, drop, Option, Some, None, List, [], ◌∷◌, refl, sym, ◌∙◌, ap, subst}
use Rattle.std.proofs.lemmas.Bool.{cases_eq}
use Rattle.std.proofs.lemmas.Map.Lookups.{exact_pairs, exact_unsigned}
use Rattle.std.specs.declared.cmp.Ordering.{Ordering}
use Rattle.std.specs.declared.cmp.Ordering.TheVariants.{Less, Equal, Greater}
use Rattle.std.specs.Ordering.{nat_cmp, is_gt, ordering_reverse}
use Rattle.net_names.specs.Links.{pair_cmp}
use Rattle.net_names.proofs.Pairs.{pairs_total}
use Rattle.policy_laws.specs.Policy.{RanksOffers}
use Rattle.stability_laws.specs.declared.entry.Entry.{Entry}
use Rattle.stability_laws.specs.declared.entry.Seed.{Seed}
use Rattle.stability_laws.specs.Offers.{Setting, offer}
use Rattle.stability_laws.specs.Stable.{IsRightGiven}
use Rattle.stability_laws.proofs.Local.{one_right}
use Rattle.message_sim.specs.Messages.{Message, MessageNet, IsStart, IsTold, sends}
use Rattle.message_sim.specs.Delivery.{IsDelivery}
use Rattle.message_sim.specs.Turns.{AreTurns, IsTurnOn}

-- two nets that say the same are one
same_net : (x y : MessageNet) → ((a : ℕ) → x.choice a ≡ y.choice a) → ((n a : ℕ) → x.received n a ≡ y.received n a) → ((n a : ℕ) → x.queue n a ≡ y.queue n a) → x ≡ y
same_net x y c r q i = record { choice = λ a. c a i; received = λ n a. r n a i; queue = λ n a. q n a i }

one_told : (old new : Message) (before s t : List Message) → IsTold old new before s → IsTold old new before t → s ≡ t
one_told old new before s t (inl p) (inl q) = p.1 ∙ sym q.1
one_told old new before s t (inr p) (inr q) = p.1 ∙ sym q.1
one_told old new before s t (inl p) (inr q) = absurd (q.0 p.0)
one_told old new before s t (inr p) (inl q) = absurd (p.0 q.0)

heads : (m k : Message) (ms ks : List Message) → m ∷ ms ≡ k ∷ ks → m ≡ k
heads m k ms ks h = cc

-- the start of a net is one
pub one_start : (w : Setting) (seeds : ℕ → Option Seed) (x y : MessageNet) → IsStart w seeds x → IsStart w seeds y → x ≡ y
one_start w seeds x y p q =
    let choices : (a : ℕ) → x.choice a ≡ y.choice a = λ a. p.choices a ∙ sym (q.choices a) in
    let same : y.choice ≡ x.choice = λ i a. sym (choices a) i in
    same_net x y choices (λ n a. p.received n a ∙ sym (q.received n a))
    (λ n a. one_told None (sends w x.choice n a) [] (x.queue n a) (y.queue n a) (p.queues n a) (subst (λ (f : ℕ → Option Entry). IsTold None (sends w f n a) [] (y.queue n a)) same (q.queues n a)))

module _ (w : Setting) (ranks : (a : ℕ) → RanksOffers (w.policy a)) (seeds : ℕ → Option Seed) where
  -- a delivery has one outcome
  one_delivery : (x y z : MessageNet) (n a : ℕ) → IsDelivery w seeds x n a y → IsDelivery w seeds x n a z → y ≡ z
  one_delivery x y z n a p q =
      let first : y.received n a ≡ z.received n a = heads (y.received n a) (z.received n a) _ _ (sym p.oldest ∙ q.oldest) in
      let received : (m b : ℕ) → y.received m b ≡ z.received m b = λ m b. elim (cases_eq m n) [
        | inl em ↦ elim (cases_eq b a) [
          | inl eb ↦ subst (λ (t : ℕ × ℕ). y.received t.0 t.1 ≡ z.received t.0 t.1) (λ i. (sym em i, sym eb i)) first
          | inr nb ↦ p.received m b (λ h. nb h.1) ∙ sym (q.received m b (λ h. nb h.1))
        ]
        | inr nm ↦ p.received m b (λ h. nm h.0) ∙ sym (q.received m b (λ h. nm h.0))
      ] in
      let same_received : z.received ≡ y.received = λ i m b. sym (received m b) i in
      let chosen : y.choice a ≡ z.choice a = one_right (w.policy a) (ranks a) (seeds a) (λ m. offer w (λ k. y.received k a) m a) (y.choice a) (z.choice a) p.right
      (subst (λ (r : ℕ → ℕ → Message). IsRightGiven (w.policy a) (seeds a) (λ m. offer w (λ k. r k a) m a) (z.choice a)) same_received q.right) in
      let choices : (b : ℕ) → y.choice b ≡ z.choice b = λ b. elim (cases_eq b a) [
        | inl e ↦ subst (λ t. y.choice t ≡ z.choice t) (sym e) chosen
        | inr ne ↦ p.choices b ne ∙ sym (q.choices b ne)
      ] in
      let same_choice : z.choice ≡ y.choice = λ i b. sym (choices b) i in
      let queues : (m b : ℕ) → y.queue m b ≡ z.queue m b = λ m b.
      let left : List Message = drop (if m == n && b == a then 1 else 0) (x.queue m b) in
      one_told (sends w x.choice m b) (sends w y.choice m b) left (y.queue m b) (z.queue m b) (p.queues m b)
      (subst (λ (f : ℕ → Option Entry). IsTold (sends w x.choice m b) (sends w f m b) left (z.queue m b)) same_choice (q.queues m b)) in
      same_net y z choices received queues

  equal_by : (o : Ordering) → is_gt o ≡ false → is_gt (ordering_reverse o) ≡ false → o ≡ Equal
  equal_by Less p q = cc
  equal_by Equal p q = refl
  equal_by Greater p q = cc

  -- two pairs of which none is above the other are one
  one_lowest : (l m : ℕ × ℕ) → is_gt (pair_cmp l m) ≡ false → is_gt (pair_cmp m l) ≡ false → l ≡ m
  one_lowest l m p q = exact_pairs nat_cmp nat_cmp exact_unsigned exact_unsigned l m (equal_by (pair_cmp l m) p (ap is_gt (sym (pairs_total.antisymm m l)) ∙ q))

  -- the link of a turn is one, where a message is on it
  one_link : (x : MessageNet) (t : Option (ℕ × ℕ)) (l m : ℕ × ℕ) → IsTurnOn x t l → IsTurnOn x t m → x.queue l.0 l.1 ≢ [] → x.queue m.0 m.1 ≢ [] → l ≡ m
  one_link x (Some named) l m p q a b = p ∙ sym q
  one_link x None l m p q a b = one_lowest l m (p m.0 m.1 b).1 (q l.0 l.1 a).1

  -- where no message is on the link of a turn none is on another link that it may have
  none_on : (x : MessageNet) (t : Option (ℕ × ℕ)) (l m : ℕ × ℕ) → IsTurnOn x t l → IsTurnOn x t m → x.queue l.0 l.1 ≡ [] → x.queue m.0 m.1 ≢ [] → ⊥
  none_on x (Some named) l m p q none some = some (ap (λ (k : ℕ × ℕ). x.queue k.0 k.1) (q ∙ sym p) ∙ none)
  none_on x None l m p q none some = (p m.0 m.1 some).0 none

  is_some : (x : MessageNet) (l : ℕ × ℕ) (y : MessageNet) → IsDelivery w seeds x l.0 l.1 y → x.queue l.0 l.1 ≢ []
  is_some x l y d none = let h : [] ≡ y.received l.0 l.1 ∷ drop 1 (x.queue l.0 l.1) = sym none ∙ d.oldest in cc

  -- turns have one outcome
  pub one_turns : (ts : List (Option (ℕ × ℕ))) (x y z : MessageNet) (made more : ℕ) → AreTurns w seeds ts x made y → AreTurns w seeds ts x more z → (made ≡ more) × (y ≡ z)
  one_turns [] x y z made more h g = (h.0 ∙ sym g.0, sym h.1 ∙ g.1)
  one_turns (t ∷ ts) x y z made more (l, on, inl h) (m, at, inl g) = one_turns ts x y z made more h.1 g.1
  one_turns (t ∷ ts) x y z made more (l, on, inl h) (m, at, inr g) = absurd (none_on x t l m on at h.0 (is_some x m g.0 g.3))
  one_turns (t ∷ ts) x y z made more (l, on, inr h) (m, at, inl g) = absurd (none_on x t m l at on g.0 (is_some x l h.0 h.3))
  one_turns (t ∷ ts) x y z made more (l, on, inr h) (m, at, inr g) =
      let link : m ≡ l = one_link x t m l at on (is_some x m g.0 g.3) (is_some x l h.0 h.3) in
      let now : h.0 ≡ g.0 = one_delivery x h.0 g.0 l.0 l.1 h.3 (subst (λ (k : ℕ × ℕ). IsDelivery w seeds x k.0 k.1 g.0) link g.3) in
      let rest = one_turns ts h.0 y z h.1 g.1 h.4 (subst (λ (u : MessageNet). AreTurns w seeds ts u g.1 z) (sym now) g.4) in
      (h.2 ∙ ap suc rest.0 ∙ sym g.2, rest.1)
