-- The states of the origins of what ASes hold and announce.
use Rattle.std.specs.Prelude.{◌≡◌, ℕ, Option, Some}
use Rattle.net_names.specs.declared.routes.State.{State}
use Rattle.net_names.specs.Numbers.{last_or}
use Rattle.stability_laws.specs.declared.entry.Entry.{Entry}
use Rattle.stability_laws.specs.declared.entry.Seed.{Seed}

-- the state of the origin of each entry passes the test (RFC 6811, section 2)
abbrev pub AreHeldOf : (State → Type 0) → (ℕ → State) → (ℕ → Option Entry) → Type 0
AreHeldOf test state f = (n : ℕ) (e : Entry) → f n ≡ Some e → test (state (last_or 0 e.path))

-- the state of the origin of each seed passes the test (RFC 6811, section 2)
abbrev pub AreSeedsOf : (State → Type 0) → (ℕ → State) → (ℕ → Option Seed) → Type 0
AreSeedsOf test state seeds = (a : ℕ) (s : Seed) → seeds a ≡ Some s → test (state (last_or 0 s.path))
