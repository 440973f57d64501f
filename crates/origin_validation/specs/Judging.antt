-- What the payloads of a set say of a prefix with an origin.
use Rattle.std.specs.Prelude.{ℕ, Bool, not, ◌&&◌, ◌==◌, nat_le, if◌then◌else◌, is_some, slice_get}
use Rattle.std.specs.List.{list_any}
use Rattle.net_names.specs.Prefixes.{PrefixValue}
use Rattle.net_names.specs.Payloads.{VrpValue}
use Rattle.net_names.specs.declared.routes.State.{State}
use Rattle.net_names.specs.declared.routes.State.TheVariants.{NotFound, Valid, Invalid}
use Rattle.roa_table.specs.Sets.{Payloads}
use Rattle.roa_table.specs.Cover.{covering}

-- a payload that covers the prefix matches it with the origin: the prefix is no longer than its maximum length, and its number is the origin's and not 0 (RFC 6811, section 2; RFC 6483, section 4)
abbrev pub matches : PrefixValue → ℕ → VrpValue → Bool
matches p origin v = nat_le p.len v.max && ((v.asn == origin) && not (v.asn == 0))

-- the state of a prefix with an origin, by the payloads of the whole set that cover it: valid where one matches, invalid where none does, and not found where there is none (RFC 6811, section 2)
abbrev pub state_of : Payloads → PrefixValue → ℕ → State
state_of vrps p origin = if list_any (matches p origin) (covering vrps p) then Valid else if is_some (slice_get (covering vrps p) 0) then Invalid else NotFound
