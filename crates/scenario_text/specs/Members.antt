-- The members of a scenario's document, each said once: its name, its type, whether it has to be there, and its values (own format, over RFC 8259).
-- A wrong type or name is a fault of the shape, and what is of its type but outside its grammar is a bad value.
use Rattle.std.specs.Prelude.{ℕ, suc, ◌^◌, ◌&&◌, ◌==◌ as nat_eq, nat_lt, List, [], ◌∷◌, map, Bool, true, false, if◌then◌else◌, bytes_eq, Option, unwrap_or, ok_or, option_map, option_and_then, Result, Ok, Err}
use Rattle.std.specs.List.{list_any, starts_with}
use Rattle.std.specs.Option.{option_map_or, option_transpose}
use Rattle.net_names.specs.Texts.{prefix_of, addr_of}
use Rattle.policy_kinds.specs.Names.{kind_named}
use Rattle.policy_kinds.specs.declared.kind.Kind.{Kind}
use Rattle.serde_json.specs.Data.{Data, Items, no_items, item as json_item, Members, no_members, member}
use Rattle.serde_json.specs.Find.{get, as_str, as_number, as_u64, as_array, as_object}
use Rattle.scenario_text.specs.declared.faults.ScenarioError.{ScenarioError as Fault}
use Rattle.scenario_text.specs.declared.faults.ScenarioError.TheVariants.{Shape, Value}
use Rattle.scenario_text.specs.declared.places.Member.TheVariants.{Announcements, Policies, Leaks, Watch}
use Rattle.scenario_text.specs.declared.places.PartOf.TheVariants.{Prefix, Number, Path, Policy}
use Rattle.scenario_text.specs.declared.scenario.Announcement.{Announcement}
use Rattle.scenario_text.specs.Places.{document, in_member, in_part, item, member_name, part_name, name_at}
use Rattle.scenario_text.specs.Scenarios.{ScenarioValue}
use Rattle.scenario_text.specs.Walks.{◌>>=◌, Reader}

-- the parts so far and the next one are both read: the first fault counts, but each wrong type comes before each bad value (own format)
infixl 10 ◌⊛◌
abbrev pub ◌⊛◌ : {A B : Type 0} → Result (A → B) Fault → Result A Fault → Result B Fault
(Err (Value p)) ⊛ (Err (Shape q)) = Err (Shape q)
f ⊛ x = f >>= λ g. x >>= λ y. Ok (g y)

-- what a text writes, which has to be in this grammar (RFC 8259, section 7)
abbrev pub text : {B : Type 0} → (List ℕ → Option B) → Reader Data B
text grammar p d = ok_or (as_str d) (Shape p) >>= λ t. ok_or (grammar t) (Value p)

-- an AS number: its type is an integer from 0 to 2^64 - 1, written without a fraction, an exponent or a sign (RFC 8259, section 6), and it is from 1 to 4294967295 (RFC 6793; RFC 7607 rules out 0)
abbrev pub asn : Reader Data ℕ
asn p d = ok_or (option_and_then as_u64 (as_number d)) (Shape p) >>= λ n. if nat_lt 0 n && nat_lt n (2 ^ 32) then Ok n else Err (Value p)

-- the items of an array, each read at its own place, where the first has this position (RFC 8259, section 5)
abbrev pub items_from : {B : Type 0} → ℕ → Reader Data B → Reader Items (List B)
items_from i read p no_items = Ok []
items_from i read p (json_item d ds) = Ok ◌∷◌ ⊛ read (item p i) d ⊛ items_from (suc i) read p ds

-- a list, each of whose items is read (RFC 8259, section 5)
abbrev pub list : {B : Type 0} → Reader Data B → Reader Data (List B)
list read p d = ok_or (as_array d) (Shape p) >>= items_from 0 read p

-- each member has one of these names (own format)
abbrev pub all_in : List (List ℕ) → Members → Bool
all_in names no_members = true
all_in names (member name d more) = list_any (bytes_eq name) names && all_in names more

-- the test that this is an object, each of whose members has one of these names (RFC 8259, section 4; the members are an own format)
abbrev pub object : List (List ℕ) → Reader Data (Unit {0})
object names p d = if option_map_or (all_in names) (as_object d) false then Ok tt else Err (Shape p)

-- the member at this place of an object, which has to be there; of equal names serde_json keeps the last (RFC 8259, section 4)
abbrev pub needed : {B : Type 0} → Reader Data B → Reader Data B
needed read p d = ok_or (get (name_at p) d) (Shape p) >>= read p

-- the member at this place of an object, where it is there (RFC 8259, section 4)
abbrev pub optional : {B : Type 0} → Reader Data B → Reader Data (Option B)
optional read p d = option_transpose (option_map (read p) (get (name_at p) d))

-- an announcement has a prefix and an AS, and may have a path, which begins with the AS; without one, its path is its AS alone (own format)
unfoldable pub announcement : Reader Data Announcement
announcement p d = object (map part_name (Prefix ∷ Number ∷ Path ∷ [])) p d >>= λ _.
    Ok (λ prefix n path. record { prefix = prefix; asn = n; path = unwrap_or path (n ∷ []) })
    ⊛ needed (text prefix_of) (in_part p Prefix) d ⊛ needed asn (in_part p Number) d
    ⊛ optional (list asn) (in_part p Path) d >>= λ a.
    if starts_with nat_eq a.path (a.asn ∷ []) then Ok a else Err (Value (in_part p Path))

-- a policy has an AS and the name of a kind (own format)
unfoldable pub policy : Reader Data (ℕ × Kind)
policy p d = object (map part_name (Number ∷ Policy ∷ [])) p d >>= λ _. Ok (λ n kind. (n, kind))
    ⊛ needed asn (in_part p Number) d ⊛ needed (text kind_named) (in_part p Policy) d

-- the four lists of a document: it has announcements, and may have policies, lists of the leakers of a round, and watched addresses; a list that isn't there is empty (own format)
unfoldable pub lists_in : Data → Result ScenarioValue Fault
lists_in d = object (map member_name (Announcements ∷ Policies ∷ Leaks ∷ Watch ∷ [])) document d
    >>= λ _. Ok (λ a p l w. record { announcements = a; policies = unwrap_or p []; leaks = unwrap_or l []; watch = unwrap_or w [] })
    ⊛ needed (list announcement) (in_member Announcements) d
    ⊛ optional (list policy) (in_member Policies) d ⊛ optional (list (list asn)) (in_member Leaks) d
    ⊛ optional (list (text addr_of)) (in_member Watch) d
