-- What each kind answers: the table of the kinds.
use denote.Enum.Bare.{sameb}
use Prim.Native.String.{String as Text}
use Rattle.std.specs.Prelude.{ℕ, Bool, true, false, not, ◌==◌, ◌&&◌, ◌||◌, is_some, if◌then◌else◌, List, [], ◌∷◌}
use Rattle.std.specs.Option.{option_map_or}
use Rattle.std.specs.Ordering.{nat_cmp, is_lt}
use Rattle.std.specs.Cmp.Lexicographic.{slice_cmp}
use Rattle.net_names.specs.contracts.routes.Rel.{the_type as rel}
use Rattle.net_names.specs.contracts.routes.State.{the_type as state}
use Rattle.net_names.specs.declared.routes.Rel.TheVariants.{Customer, Peer, Provider}
use Rattle.net_names.specs.declared.routes.State.TheVariants.{Valid, Invalid}
use Rattle.policy_laws.specs.declared.policy.View.{View}
use Rattle.policy_laws.specs.Policy.{Policy, is_own_or_customers}
use Rattle.policy_kinds.specs.declared.kind.Kind.{Kind}
use Rattle.policy_kinds.specs.declared.kind.Kind.TheVariants.{Plain, DropInvalid, PreferValid, ProviderFirst, Otc, DropInvalidOtc}
use Rattle.policy_kinds.specs.declared.rows.Row.{Row}

-- the row of the plain kind. A row has the place of providers in its order, in which customers have
-- place 0 and peers place 2 (Gao and Rexford 2001, Guideline A); whether it takes no offer whose
-- state is Invalid, and whether it puts Valid offers of a class before the others (RFC 6811,
-- section 3); and whether it marks routes and looks at marks (RFC 9234, section 5)
abbrev pub plain : Row
plain = record { provider = 3; drops_invalid = false; valid_first = false; marks = false }

-- the table of the kinds: the name of each, and what it has other than the plain one
abbrev pub kind_row : Kind → Text × Row
kind_row Plain = ("plain", plain)
kind_row DropInvalid = ("drop-invalid", record plain { drops_invalid = true })
kind_row PreferValid = ("prefer-valid", record plain { valid_first = true })
kind_row ProviderFirst = ("provider-first", record plain { provider = 1 })
kind_row Otc = ("otc", record plain { marks = true })
kind_row DropInvalidOtc = ("drop-invalid+otc", record plain { drops_invalid = true; marks = true })

-- what offers are compared by, one number after the other: the place of the class; then the place
-- of the validation state, by which Valid comes before the other two where it is preferred, else
-- all are alike (RFC 6811, section 3); then the length of the path; then the neighbour's number
-- (RFC 4271, section 9.1.2)
abbrev pub offer_key : Row → View → List ℕ
offer_key r v = elim v.rel [ Customer ↦ 0 | Peer ↦ 2 | Provider ↦ r.provider ] ∷
    (if r.valid_first then elim v.state [ Valid ↦ 0 | _ ↦ 1 ] else 0) ∷ v.length ∷ v.neighbour ∷ []

-- the offer is a route leak: a marked one of a customer, or one of a peer with another number than
-- the peer's own (RFC 9234, section 5, rules 1 and 2 on receipt)
abbrev pub is_leak : View → Bool
is_leak v = elim v.rel [ Customer ↦ is_some v.otc | Peer ↦ option_map_or (λ n. not (n == v.neighbour)) v.otc false | Provider ↦ false ]

-- the answers of a kind are those of its row: where invalid offers are dropped, those of the other
-- two states are taken only (RFC 6811, section 3), and where marks are looked at, no leak is taken;
-- of two offers the one whose key is lower in the order of lists of numbers comes first; every
-- route is exported to customers, and to peers and providers own and customers' routes only (Gao
-- and Rexford 2001), and of these no marked one where marks are looked at (RFC 9234, section 5,
-- rule 2 on sending); `sameb` says whether two are the same
abbrev pub kind_policy : Kind → Policy
kind_policy k = let r = (kind_row k).1 in record {
  accepts = λ v. not (r.drops_invalid && sameb state v.state Invalid) && not (r.marks && is_leak v);
  before = λ x y. is_lt (slice_cmp nat_cmp (offer_key r x) (offer_key r y));
  exports = λ c o to. sameb rel to Customer || is_own_or_customers c && not (r.marks && is_some o);
  reads_state = r.drops_invalid || r.valid_first;
  marks = r.marks;
}

-- the number under which the ASes of a kind are counted
abbrev pub label : Kind → ℕ
label Plain = 0
label DropInvalid = 1
label PreferValid = 2
label ProviderFirst = 3
label Otc = 4
label DropInvalidOtc = 5
