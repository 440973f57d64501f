-- Prefixes of both families: which there are, and their order.
use Rattle.std.specs.Prelude.{◌≡◌, ℕ, ◌-◌, ◌%◌, ◌^◌, ◌<◌, ◌≤◌, ◌&&◌, ◌==◌, nat_lt, nat_le, Option, Some, None, if◌then◌else◌, refl}
use Rattle.std.specs.Coded.{Coded, code_by, coded×, coded_ℕ}
use Rattle.std.specs.declared.cmp.Ordering.{Ordering}
use Rattle.std.specs.Ordering.{nat_cmp, on, ordering_then, then_cmp}
use Rattle.net_names.specs.declared.addresses.Family.{Family}
use Rattle.net_names.specs.contracts.addresses.Family as family
use Rattle.net_names.specs.Addresses.{width}
use Rattle.net_names.specs.Links.{pair_cmp}

-- a prefix is a family, the number of its lowest address, and a length (RFC 4632, section 3.1; RFC 4291, section 2.3)
pub record PrefixValue : Type 0 where
  pub family : Family
  pub addr : ℕ
  pub len : ℕ

-- stored as the triple of its fields
abbrev pub prefix_code : Coded PrefixValue
prefix_code =
    code_by (Family × (ℕ × ℕ)) (coded× family.the_row.coded (coded× coded_ℕ coded_ℕ))
    (λ p. (p.family, (p.addr, p.len))) (λ c. record { family = c.0; addr = c.1.0; len = c.1.1 }) (λ _. refl)

-- the address fits the family, the length is at most the width, and no bit past the length is set (RFC 4632, section 3.1; RFC 4291, section 2.3)
pub record IsPrefix (f : Family) (a l : ℕ) : Type 0 where
  pub fits : a < 2 ^ width f
  pub short : l ≤ width f
  pub clear : a % 2 ^ (width f - l) ≡ 0

-- the prefix of that family, address and length, where they are one
abbrev pub prefix_at : Family → ℕ → ℕ → Option PrefixValue
prefix_at family addr len =
    if nat_lt addr (2 ^ width family) && (nat_le len (width family) && (addr % 2 ^ (width family - len) == 0))
    then Some (record { family = family; addr = addr; len = len }) else None

-- prefixes are ordered by family, then by address, then by length
abbrev pub prefix_cmp : PrefixValue → PrefixValue → Ordering
prefix_cmp = then_cmp (on (λ p. width p.family) nat_cmp) (on (λ p. (p.addr, p.len)) pair_cmp)

-- a prefix and an AS that announces it are ordered by the prefix, and then by the AS
abbrev pub announcement_cmp : PrefixValue × ℕ → PrefixValue × ℕ → Ordering
announcement_cmp a b = ordering_then (prefix_cmp a.0 b.0) (nat_cmp a.1 b.1)
