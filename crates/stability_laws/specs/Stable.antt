-- When a routing is right at an AS, and when it is stable.
use Rattle.std.specs.Prelude.{◌≡◌, ◌≢◌, ℕ, true, false, IsTrue, Option, None, Some}
use Rattle.policy_laws.specs.Policy.{Policy, RanksOffers, PrefersCustomers, ExportsDownOnly}
use Rattle.stability_laws.specs.declared.entry.Entry.{Entry}
use Rattle.stability_laws.specs.declared.entry.Seed.{Seed}
use Rattle.stability_laws.specs.Entries.{seed_entry}
use Rattle.stability_laws.specs.Offers.{Setting, Offer, offer}

-- n makes this offer, and the policy puts its view before that of every other neighbour's offer
-- (RFC 4271, section 9.1.2)
pub record IsBest (p : Policy) (offers : ℕ → Option Offer) (n : ℕ) (o : Offer) : Type 0 where
  pub made : offers n ≡ Some o
  pub first : (m : ℕ) (x : Offer) → offers m ≡ Some x → m ≢ n → IsTrue (p.before o.view x.view)

-- what an AS holds is right: with a seed it is the seed's entry; without a seed and without an
-- offer it is nothing; without a seed and with offers it is the best offer's entry
-- (RFC 4271, section 9.1.2)
abbrev pub IsRightGiven : Policy → Option Seed → (ℕ → Option Offer) → Option Entry → Type 0
IsRightGiven p (Some s) offers held = held ≡ Some (seed_entry s)
IsRightGiven p None offers None = (n : ℕ) → offers n ≡ None
IsRightGiven p None offers (Some e) = (n : ℕ) × (o : Offer) × IsBest p offers n o × (e ≡ o.entry)

-- the AS a, with the offers that its neighbours make in f, is right with this entry, or with none
-- (RFC 4271, section 9.1.2)
abbrev pub IsRightWith : Setting → (ℕ → Option Seed) → (ℕ → Option Entry) → ℕ → Option Entry → Type 0
IsRightWith w seeds f a held = IsRightGiven (w.policy a) (seeds a) (λ n. offer w f n a) held

-- the routing f is right at a: a is right with what it holds in f (RFC 4271, section 9.1.2)
abbrev pub IsRight : Setting → (ℕ → Option Seed) → (ℕ → Option Entry) → ℕ → Type 0
IsRight w seeds f a = IsRightWith w seeds f a (f a)

-- a stable routing has entries only at ASes, and each of them is right with what it holds, so that
-- no AS would choose anew (Gao and Rexford 2001)
pub record IsStable (w : Setting) (seeds : ℕ → Option Seed) (f : ℕ → Option Entry) : Type 0 where
  pub only_ases : (a : ℕ) → w.has a ≡ false → f a ≡ None
  pub right : (a : ℕ) → w.has a ≡ true → IsRightWith w seeds f a (f a)

-- a policy is lawful where it ranks offers, prefers customers and exports down only: on these laws
-- the one stable routing rests (Gao and Rexford 2001, Guideline A)
pub record IsLawful (p : Policy) : Type 0 where
  pub ranks_offers : RanksOffers p
  pub prefers_customers : PrefersCustomers p
  pub exports_down_only : ExportsDownOnly p
