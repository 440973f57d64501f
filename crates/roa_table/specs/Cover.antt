-- The payloads of one prefix, and those that cover one.
use Rattle.std.specs.Prelude.{ℕ, zero, suc, List, [], ◌++◌}
use Rattle.std.specs.List.{filter}
use Rattle.std.specs.declared.cmp.Ordering.{Ordering}
use Rattle.std.specs.Ordering.{nat_cmp, ordering_then, eq_by_cmp}
use Rattle.std.specs.FinMap as fin
use Rattle.net_names.specs.Prefixes.{PrefixValue, prefix_cmp}
use Rattle.net_names.specs.Coverage.{covers, shortened}
use Rattle.net_names.specs.Payloads.{VrpValue}
use Rattle.roa_table.specs.Sets.{Payloads}

-- the payloads of this very prefix, in rising order of maximum length and number
abbrev pub of_prefix : Payloads → PrefixValue → List VrpValue
of_prefix vrps p = filter (λ v. eq_by_cmp prefix_cmp v.prefix p) (fin.keys vrps)

-- the payloads whose prefix covers it, in rising order (RFC 6811, section 2)
abbrev pub covering : Payloads → PrefixValue → List VrpValue
covering vrps p = filter (λ v. covers v.prefix p) (fin.keys vrps)

-- payloads are listed by prefix length, then by maximum length, then by number
abbrev pub cover_cmp : VrpValue → VrpValue → Ordering
cover_cmp v w = ordering_then (nat_cmp v.prefix.len w.prefix.len) (ordering_then (nat_cmp v.max w.max) (nat_cmp v.asn w.asn))

-- the payloads of the prefixes to which it is shortened, at each length below n, one length after the other
abbrev pub rows_below : Payloads → PrefixValue → ℕ → List VrpValue
rows_below vrps p zero = []
rows_below vrps p (suc n) = rows_below vrps p n ++ of_prefix vrps (shortened p n)
