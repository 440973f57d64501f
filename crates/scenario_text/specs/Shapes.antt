-- The first of the two passes in which the code reads a document: each value is of its type, and each object has the members that it is to have (own format, over RFC 8259).
-- The first fault is that of the first step that fails, in the order of the steps. Both passes together read what Members says.
use Rattle.std.specs.Prelude.{ℕ, List, [], ◌∷◌, map, Some, None, ok_or, option_map, option_and_then, Result, Ok}
use Rattle.serde_json.specs.Data.{Data, Items, no_items, item as json_item}
use Rattle.serde_json.specs.Find.{get, as_str, as_number, as_u64, as_array}
use Rattle.scenario_text.specs.declared.places.Member.TheVariants.{Announcements, Policies, Leaks, Watch}
use Rattle.scenario_text.specs.declared.places.PartOf.TheVariants as parts
use Rattle.scenario_text.specs.declared.faults.ScenarioError.{ScenarioError}
use Rattle.scenario_text.specs.declared.faults.ScenarioError.TheVariants.{Shape}
use Rattle.scenario_text.specs.declared.documents.AnnouncementText.{AnnouncementText}
use Rattle.scenario_text.specs.declared.documents.PolicyText.{PolicyText}
use Rattle.scenario_text.specs.Documents.{DocumentValue}
use Rattle.scenario_text.specs.Members.{object, needed}
use Rattle.scenario_text.specs.Places.{document, in_member, in_part, member_name, part_name, name_at}
use Rattle.scenario_text.specs.Walks.{◌>>=◌, Reader, each_at}

-- a text (RFC 8259, section 7)
abbrev pub text_at : Reader Data (List ℕ)
text_at p d = ok_or (as_str d) (Shape p)

-- a number: an integer from 0 to 2^64 - 1, written without a fraction, an exponent or a sign (RFC 8259, section 6)
abbrev pub number_at : Reader Data ℕ
number_at p d = ok_or (option_and_then as_u64 (as_number d)) (Shape p)

-- the items of a JSON array as a list (RFC 8259, section 5)
abbrev pub item_list : Items → List Data
item_list no_items = []
item_list (json_item d ds) = d ∷ item_list ds

-- a list, each of whose items is of this type (RFC 8259, section 5)
abbrev pub list_at : {B : Type 0} → Reader Data B → Reader Data (List B)
list_at read p d = ok_or (option_map item_list (as_array d)) (Shape p) >>= each_at read p

-- the member at this place of an object, or this where it isn't there (RFC 8259, section 4)
abbrev pub optional_or : {B : Type 0} → B → Reader Data B → Reader Data B
optional_or default read p d = elim (get (name_at p) d) [ None ↦ Ok default | Some x ↦ read p x ]

-- an announcement has a prefix and an AS, and may have a path; without one, its path is its AS alone (own format)
unfoldable pub announcement_at : Reader Data AnnouncementText
announcement_at p d = do
  _ ← object (map part_name (parts.Prefix ∷ parts.Number ∷ parts.Path ∷ [])) p d
  prefix ← needed text_at (in_part p parts.Prefix) d
  number ← needed number_at (in_part p parts.Number) d
  path ← optional_or (number ∷ []) (list_at number_at) (in_part p parts.Path) d
  Ok (record { prefix = prefix; number = number; path = path })

-- a policy has an AS and a name (own format)
unfoldable pub policy_at : Reader Data PolicyText
policy_at p d = do
  _ ← object (map part_name (parts.Number ∷ parts.Policy ∷ [])) p d
  number ← needed number_at (in_part p parts.Number) d
  policy ← needed text_at (in_part p parts.Policy) d
  Ok (record { number = number; policy = policy })

-- a document has announcements, and may have policies, lists of the leakers of a round, and watched addresses (own format)
unfoldable pub document_of : Data → Result DocumentValue ScenarioError
document_of d = do
  _ ← object (map member_name (Announcements ∷ Policies ∷ Leaks ∷ Watch ∷ [])) document d
  announcements ← needed (list_at announcement_at) (in_member Announcements) d
  policies ← optional_or [] (list_at policy_at) (in_member Policies) d
  leaks ← optional_or [] (list_at (list_at number_at)) (in_member Leaks) d
  watch ← optional_or [] (list_at text_at) (in_member Watch) d
  Ok (record { announcements = announcements; policies = policies; leaks = leaks; watch = watch })
