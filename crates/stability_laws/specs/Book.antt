-- A policy for each AS.
use Rattle.std.specs.Prelude.{ℕ, unwrap_or, refl}
use Rattle.std.specs.Ordering.{nat_cmp}
use Rattle.std.specs.FinMap as map
use Rattle.std.specs.FinSet as set
use Rattle.std.specs.Coded.{Coded, code_by, coded×, coded_ℕ}

-- a book has the policies of the named ASes, the one of the rest, and the ASes that can be named without memory
pub record PolicyBook (P : Type 0) : Type 0 where
  pub rest : P
  pub named : map.FinMap nat_cmp P
  pub room : set.FinSet nat_cmp

-- stored as the triple of its fields
abbrev pub book_code : {P : Type 0} → Coded P → Coded (PolicyBook P)
book_code {P} p =
    code_by (P × (map.FinMap nat_cmp P × set.FinSet nat_cmp)) (coded× p (coded× (map.code coded_ℕ p) (set.code coded_ℕ)))
    (λ b. (b.rest, (b.named, b.room))) (λ t. record { rest = t.0; named = t.1.0; room = t.1.1 }) (λ _. refl)

-- the policy of an AS is the one that it is named with, or else that of the rest
abbrev pub policy_at : {P : Type 0} → PolicyBook P → ℕ → P
policy_at b a = unwrap_or (map.get b.named a) b.rest

-- the book with room for one AS more
abbrev pub with_room : {P : Type 0} → PolicyBook P → ℕ → PolicyBook P
with_room b a = record b { room = set.insert b.room a }

-- the book in which the AS has this policy
abbrev pub with_policy : {P : Type 0} → PolicyBook P → ℕ → P → PolicyBook P
with_policy b a p = record b { named = map.insert b.named a p }

-- the book in which the AS has the policy of the rest
abbrev pub without_policy : {P : Type 0} → PolicyBook P → ℕ → PolicyBook P
without_policy b a = record b { named = map.remove b.named a }
