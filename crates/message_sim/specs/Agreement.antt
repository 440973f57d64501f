-- What each delivery keeps.
use Rattle.std.specs.Prelude.{◌≡◌, ℕ, true, false, Option, None, Some, List, [], ◌∷◌}
use Rattle.net_names.specs.declared.routes.Rel.{Rel}
use Rattle.stability_laws.specs.declared.entry.Seed.{Seed}
use Rattle.stability_laws.specs.Offers.{Setting, offer}
use Rattle.stability_laws.specs.Stable.{IsRightGiven}
use Rattle.message_sim.specs.Messages.{Message, MessageNet, sends}

-- what a chose is right with the offers that follow from what its links received (RFC 4271, section 9.1.2)
abbrev pub IsRightByReceived : Setting → (ℕ → Option Seed) → MessageNet → ℕ → Type 0
IsRightByReceived w seeds x a = IsRightGiven (w.policy a) (seeds a) (λ n. offer w (λ m. x.received m a) n a) (x.choice a)

-- the youngest message of the queue, or what was received last where the queue is empty
abbrev pub youngest : Message → List Message → Message
youngest last [] = last
youngest last (m ∷ ms) = youngest m ms

-- on each link the youngest message, or what was received last, is what the sender sends now; each choice is right by what was received; and only ASes choose
pub record Agrees (w : Setting) (seeds : ℕ → Option Seed) (x : MessageNet) : Type 0 where
  pub only_ases : (a : ℕ) → w.has a ≡ false → x.choice a ≡ None
  pub last : (n a : ℕ) (r : Rel) → w.relation a n ≡ Some r → youngest (x.received n a) (x.queue n a) ≡ sends w x.choice n a
  pub right : (a : ℕ) → w.has a ≡ true → IsRightByReceived w seeds x a
