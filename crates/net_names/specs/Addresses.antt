-- Addresses of both families.
use Rattle.std.specs.Prelude.{ℕ, ◌^◌, ◌<◌, nat_lt, Option, Some, None, if◌then◌else◌}
use Rattle.std.specs.declared.cmp.Ordering.{Ordering}
use Rattle.net_names.specs.declared.addresses.Family.{Family}
use Rattle.net_names.specs.declared.addresses.Family.TheVariants.{V4, V6}
use Rattle.net_names.specs.Links.{pair_cmp}

-- how many bits an address of the family has (RFC 791, section 3.2; RFC 4291, section 2)
abbrev pub width : Family → ℕ
width family = elim family [ V4 ↦ 32 | V6 ↦ 128 ]

-- an address is a family and a number (RFC 791, section 3.2; RFC 4291, section 2)
pub record AddrValue : Type 0 where
  pub family : Family
  pub bits : ℕ

-- the number has no more bits than the family's width (RFC 4291, section 2)
abbrev pub FitsFamily : Family → ℕ → Type 0
FitsFamily family bits = bits < 2 ^ width family

-- the address of that family and number, where the number fits the family
abbrev pub addr_at : Family → ℕ → Option AddrValue
addr_at family bits = if nat_lt bits (2 ^ width family) then Some (record { family = family; bits = bits }) else None

-- addresses are ordered by family, IPv4 before IPv6 as its width is less, and then by number
abbrev pub addr_cmp : AddrValue → AddrValue → Ordering
addr_cmp a b = pair_cmp (width a.family, a.bits) (width b.family, b.bits)
