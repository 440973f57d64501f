-- Validated ROA payloads (RFC 6811, section 2).
use Rattle.std.specs.Prelude.{ℕ, ◌≤◌, ◌||◌, nat_lt, Option, Some, None, if◌then◌else◌, refl}
use Rattle.std.specs.Coded.{Coded, code_by, coded×, coded_ℕ}
use Rattle.std.specs.declared.cmp.Ordering.{Ordering}
use Rattle.std.specs.Ordering.{ordering_then}
use Rattle.net_names.specs.declared.addresses.Family.{Family}
use Rattle.net_names.specs.Addresses.{width}
use Rattle.net_names.specs.Links.{pair_cmp}
use Rattle.net_names.specs.Prefixes.{PrefixValue, prefix_code, prefix_cmp, IsPrefix}

-- a payload is a prefix, a maximum length and an AS number, which may be 0 (RFC 6811, section 2; RFC 6483, section 4)
pub record VrpValue : Type 0 where
  pub prefix : PrefixValue
  pub max : ℕ
  pub asn : ℕ

-- stored as the triple of its fields
abbrev pub vrp_code : Coded VrpValue
vrp_code =
    code_by (PrefixValue × (ℕ × ℕ)) (coded× prefix_code (coded× coded_ℕ coded_ℕ))
    (λ v. (v.prefix, (v.max, v.asn))) (λ c. record { prefix = c.0; max = c.1.0; asn = c.1.1 }) (λ _. refl)

-- a maximum length is at least the prefix's length and at most the family's width (RFC 6482, section 3.3)
abbrev pub IsMax : PrefixValue → ℕ → Type 0
IsMax p max = (p.len ≤ max) × (max ≤ width p.family)

-- a payload's prefix is one, and its maximum length is one of the prefix (RFC 6811, section 2)
pub record IsVrp (f : Family) (a l m : ℕ) : Type 0 where
  pub prefix : IsPrefix f a l
  pub max : IsMax (record { family = f; addr = a; len = l }) m

-- the payload of that prefix, maximum length and number, where the maximum length is one of the prefix (RFC 6811, section 2)
abbrev pub vrp_at : PrefixValue → ℕ → ℕ → Option VrpValue
vrp_at p max asn = if nat_lt max p.len || nat_lt (width p.family) max then None else Some (record { prefix = p; max = max; asn = asn })

-- payloads are ordered by prefix, then by maximum length, then by number
abbrev pub vrp_cmp : VrpValue → VrpValue → Ordering
vrp_cmp v w = ordering_then (prefix_cmp v.prefix w.prefix) (pair_cmp (v.max, v.asn) (w.max, w.asn))
