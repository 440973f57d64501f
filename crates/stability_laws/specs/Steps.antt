-- One AS takes its turn: it takes what it is right with.
use Rattle.std.specs.Prelude.{◌≡◌, ◌≢◌, ℕ, Option, None, Some}
use Rattle.net_names.specs.declared.routes.Class.{Class}
use Rattle.net_names.specs.declared.routes.Class.TheVariants as class
use Rattle.policy_laws.specs.Policy.{Policy}
use Rattle.stability_laws.specs.declared.entry.Entry.{Entry}
use Rattle.stability_laws.specs.declared.entry.Seed.{Seed}
use Rattle.stability_laws.specs.Offers.{Setting, Offer}
use Rattle.stability_laws.specs.Stable.{IsRightGiven, IsRightWith}
use Rattle.stability_laws.specs.Laws.{customer_offer}

-- the entry, where its class is Origin or Customer
abbrev pub low_by : Class → Entry → Option Entry
low_by class.Origin e = Some e
low_by class.Customer e = Some e
low_by class.Peer e = None
low_by class.Provider e = None

-- what is held, where it is of class Origin or Customer
abbrev pub low : Option Entry → Option Entry
low None = None
low (Some e) = low_by e.class e

-- the routing's Origin and Customer entries alone
abbrev pub lows : (ℕ → Option Entry) → ℕ → Option Entry
lows f n = low (f n)

-- from f to g nothing but the entry at a may change, and at a stands what is right with these
-- offers (Gao and Rexford 2001, activation)
pub record IsStep (p : Policy) (seed : Option Seed) (offers : ℕ → Option Offer) (f : ℕ → Option Entry) (a : ℕ) (g : ℕ → Option Entry) : Type 0 where
  pub others : (n : ℕ) → n ≢ a → g n ≡ f n
  pub right : IsRightGiven p seed offers (g a)

-- a step of a in which it looks at its customers' offers alone
abbrev pub IsStepUp : Setting → (ℕ → Option Seed) → (ℕ → Option Entry) → ℕ → (ℕ → Option Entry) → Type 0
IsStepUp w seeds f a g = IsStep (w.policy a) (seeds a) (λ n. customer_offer w f n a) f a g

-- an activation of a: nothing but its entry may change, and it holds what it is right with then, by all offers that its
-- neighbours make in f (Gao and Rexford 2001)
pub record IsStepWhole (w : Setting) (seeds : ℕ → Option Seed) (f : ℕ → Option Entry) (a : ℕ) (g : ℕ → Option Entry) : Type 0 where
  pub others : (n : ℕ) → n ≢ a → g n ≡ f n
  pub right : IsRightWith w seeds f a (g a)

-- what a holds is right with its customers' offers alone
abbrev pub IsRightUp : Setting → (ℕ → Option Seed) → (ℕ → Option Entry) → ℕ → Type 0
IsRightUp w seeds f a = IsRightGiven (w.policy a) (seeds a) (λ n. customer_offer w f n a) (f a)
