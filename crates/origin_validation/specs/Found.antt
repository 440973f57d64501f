-- States that are kept, each with its prefix and origin.
use Rattle.std.specs.Prelude.{◌≡◌, ℕ, List}
use Rattle.std.specs.List.{All}
use Rattle.net_names.specs.Prefixes.{PrefixValue}
use Rattle.roa_table.specs.Sets.{Payloads}
use Rattle.origin_validation.specs.Judging.{state_of}
use Rattle.origin_validation.specs.declared.known.Found.{Found}

-- the prefix and the origin of a state that is kept
abbrev pub route_of : Found → PrefixValue × ℕ
route_of f = (f.prefix, f.origin)

-- each state that is kept is the one over the set (RFC 6811, section 2)
abbrev pub AreStates : Payloads → List Found → Type 0
AreStates vrps = All (λ f. f.state ≡ state_of vrps f.prefix f.origin)
