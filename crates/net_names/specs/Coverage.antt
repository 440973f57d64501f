-- What a prefix covers, which addresses it holds, and the prefixes that cover it.
use Rattle.std.specs.Prelude.{ℕ, ◌-◌, ◌*◌, ◌/◌, ◌^◌, ◌&&◌, ◌==◌, nat_le, Bool}
use Rattle.net_names.specs.Addresses.{width, AddrValue}
use Rattle.net_names.specs.Prefixes.{PrefixValue}

-- the first bits of an address are those of the prefix, as many as the prefix is long (RFC 6811, section 2)
abbrev pub has_bits : PrefixValue → ℕ → Bool
has_bits p addr = let past = 2 ^ (width p.family - p.len) in p.addr / past == addr / past

-- the first prefix covers the second: of one family, no longer, and alike in as many bits as the first is long (RFC 6811, section 2)
abbrev pub covers : PrefixValue → PrefixValue → Bool
covers p q = (width p.family == width q.family) && (nat_le p.len q.len && has_bits p q.addr)

-- the prefix holds the address: of one family, and alike in as many bits as the prefix is long (RFC 4632, section 3.1)
abbrev pub holds : PrefixValue → AddrValue → Bool
holds p a = (width p.family == width a.family) && has_bits p a.bits

-- the prefix of this length that has the same first bits (RFC 4632, section 3.1)
abbrev pub shortened : PrefixValue → ℕ → PrefixValue
shortened p n = let past = 2 ^ (width p.family - n) in record p { len = n; addr = p.addr / past * past }
