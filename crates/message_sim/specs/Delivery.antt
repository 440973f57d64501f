-- A delivery, and lists of them.
use Rattle.std.specs.Prelude.{◌≡◌, ◌≢◌, ◌⊎◌, ◌≤◌, ◌==◌, ◌&&◌, ℕ, if◌then◌else◌, Option, None, List, [], ◌∷◌, drop}
use Rattle.stability_laws.specs.declared.entry.Seed.{Seed}
use Rattle.stability_laws.specs.Offers.{Setting, offer}
use Rattle.stability_laws.specs.Stable.{IsRightGiven}
use Rattle.message_sim.specs.Messages.{MessageNet, IsTold, sends}

-- the delivery of the oldest message from n to a takes it out, and a has received it and chooses anew by what its links received (RFC 4271, section 9.1.2); each AS tells its neighbours what has changed of what it sends; all else stays
pub record IsDelivery (w : Setting) (seeds : ℕ → Option Seed) (x : MessageNet) (n a : ℕ) (y : MessageNet) : Type 0 where
  pub oldest : x.queue n a ≡ y.received n a ∷ drop 1 (x.queue n a)
  pub received : (m b : ℕ) → ((m ≡ n) × (b ≡ a) → ⊥) → y.received m b ≡ x.received m b
  pub right : IsRightGiven (w.policy a) (seeds a) (λ m. offer w (λ k. y.received k a) m a) (y.choice a)
  pub choices : (b : ℕ) → b ≢ a → y.choice b ≡ x.choice b
  pub queues : (m b : ℕ) → IsTold (sends w x.choice m b) (sends w y.choice m b) (drop (if m == n && b == a then 1 else 0) (x.queue m b)) (y.queue m b)

-- a delivery on a link whose queue is empty changes nothing
abbrev pub IsTurn : Setting → (ℕ → Option Seed) → MessageNet → ℕ → ℕ → MessageNet → Type 0
IsTurn w seeds x n a y = ((x.queue n a ≡ []) × (y ≡ x)) ⊎ IsDelivery w seeds x n a y

-- from x to y by a delivery on each link of the list in turn; each joins two ASes
abbrev pub AreDeliveries : Setting → (ℕ → Option Seed) → List (ℕ × ℕ) → MessageNet → MessageNet → Type 0
AreDeliveries w seeds [] x y = x ≡ y
AreDeliveries w seeds (l ∷ ls) x y = (z : MessageNet) × (w.relation l.1 l.0 ≢ None) × IsTurn w seeds x l.0 l.1 z × AreDeliveries w seeds ls z y

-- from x to y by a delivery on each link of the list in turn, each of which takes a message out; each link joins two ASes
abbrev pub AreTrueDeliveries : Setting → (ℕ → Option Seed) → List (ℕ × ℕ) → MessageNet → MessageNet → Type 0
AreTrueDeliveries w seeds [] x y = x ≡ y
AreTrueDeliveries w seeds (l ∷ ls) x y = (z : MessageNet) × (w.relation l.1 l.0 ≢ None) × IsDelivery w seeds x l.0 l.1 z × AreTrueDeliveries w seeds ls z y

-- a message can be delivered: it is under way on a link, and there is a net that its delivery makes
abbrev pub CanDeliver : Setting → (ℕ → Option Seed) → MessageNet → Type 0
CanDeliver w seeds x = (n : ℕ) × (a : ℕ) × (y : MessageNet) × (w.relation a n ≢ None) × IsDelivery w seeds x n a y

-- an endless order of links, in which each link comes again and again (Gao and Rexford 2001, fair activation)
pub record IsFair (w : Setting) (order : ℕ → ℕ × ℕ) : Type 0 where
  pub linked : (k : ℕ) → w.relation (order k).1 (order k).0 ≢ None
  pub again : (n a from : ℕ) → w.relation a n ≢ None → (k : ℕ) × (from ≤ k) × (order k ≡ (n, a))
