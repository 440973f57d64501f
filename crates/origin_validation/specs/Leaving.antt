-- Sets that one payload is left out of.
use Rattle.std.specs.Prelude.{Bool, true, false, not, ◌&&◌, Option, Some, None}
use Rattle.std.specs.Ordering.{eq_by_cmp}
use Rattle.net_names.specs.Payloads.{VrpValue, vrp_cmp}
use Rattle.roa_table.specs.Sets.{Payloads, has, taken}

-- the set without the payload, if there is one to leave out
abbrev pub less : Payloads → Option VrpValue → Payloads
less vrps None = vrps
less vrps (Some v) = taken vrps v

-- whether the payload is not the one that is left out
abbrev pub is_left : Option VrpValue → VrpValue → Bool
is_left None v = true
is_left (Some w) v = not (eq_by_cmp vrp_cmp w v)

-- whether there is a payload, which is in the set and is not left out
abbrev pub stands : Payloads → Option VrpValue → Option VrpValue → Bool
stands vrps but None = false
stands vrps but (Some v) = is_left but v && has vrps v
