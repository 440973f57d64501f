-- Places in a scenario's document (own format).
use Rattle.std.specs.Prelude.{ℕ, List, [], codes, Some, None}
use Rattle.std.specs.Option.{option_map_or}
use Rattle.scenario_text.specs.declared.places.Member.{Member}
use Rattle.scenario_text.specs.declared.places.Member.TheVariants.{Announcements, Policies, Leaks, Watch}
use Rattle.scenario_text.specs.declared.places.PartOf.{PartOf}
use Rattle.scenario_text.specs.declared.places.PartOf.TheVariants.{Prefix, Number, Path}
use Rattle.scenario_text.specs.declared.places.Place.{Place}

-- the document itself (own format)
abbrev pub document : Place
document = record { member = None; first = None; part = None; second = None }

-- a member of the document (own format)
abbrev pub in_member : Member → Place
in_member m = record { member = Some m; first = None; part = None; second = None }

-- the item at a position, counted from 0, of the list that stands there: a member's list, or a list within one of its items (own format)
abbrev pub item : Place → ℕ → Place
item p i = elim p.first [ None ↦ record p { first = Some i } | _ ↦ record p { second = Some i } ]

-- a member of the object that stands there (own format)
abbrev pub in_part : Place → PartOf → Place
in_part p part = record p { part = Some part }

-- the names of the document's members (own format)
abbrev pub member_name : Member → List ℕ
member_name m = elim m [ Announcements ↦ codes "announcements" | Policies ↦ codes "policies" | Leaks ↦ codes "leaks" | Watch ↦ codes "watch" ]

-- the names of the members of an announcement and of a policy (own format)
abbrev pub part_name : PartOf → List ℕ
part_name p = codes (elim p [ Prefix ↦ "prefix" | Number ↦ "as" | Path ↦ "path" | _ ↦ "policy" ])

-- the name of the member that stands at a place; the document itself has none (own format)
abbrev pub name_at : Place → List ℕ
name_at p = option_map_or part_name p.part (option_map_or member_name p.member [])
