-- The words of the command line, the program's name first, and the form that they have.
use Prim.Native.String.{String}
use Rattle.std.specs.Prelude.{◌≡◌, ℕ, ◌≤◌, ◌&&◌, nat_le, if◌then◌else◌, List, [], ◌∷◌, codes, filter_map, Option, Some, None, option_map}
use Rattle.std.specs.Borrow.{Bor}
use Rattle.clap.specs.Faults.{fault_of}
use Rattle.clap.specs.Simple.{matches_of}
use Rattle.clap.specs.Walk.{Text, first_of, is_empty}
use Rattle.net_names.specs.Steps.{option_filter}
use Rattle.net_names.specs.Texts.{asn_of, numeral}
use Rattle.task_reading.specs.Command.{asprop_command, file_options}
use Rattle.task_reading.specs.declared.types.File.{File}
use Rattle.task_reading.specs.declared.types.File.TheVariants.{Relations, Payloads, Scenario, Asked}
use Rattle.task_reading.specs.declared.words.FileOption.{FileOption}
use Rattle.task_reading.specs.declared.words.FileOption.TheVariants as option
use Rattle.task_reading.specs.declared.words.Standing.{Standing}
use Rattle.task_reading.specs.declared.words.Standing.TheVariants as standing
use Rattle.task_reading.specs.declared.words.WordForm.{WordForm}
use Rattle.task_reading.specs.declared.words.WordForm.TheVariants as form

-- a form that the words may have (own format)
pub data Form : Type 0 where
  -- what the file of an option asks for, over a relationship file, payloads and a scenario; the files but the first may be left out
  file_form : (rel : Text) (vrps scenario file : Option Text) (option : FileOption) → Form
  -- the routes of all ASes to one origin, over a relationship file
  origin_form : (rel : Text) (origin : ℕ) → Form
  -- the generated input of so many ASes
  demo_form : (size : ℕ) → Form

-- the size of a generated input is from 4 to 20000 (own format)
abbrev pub HasSize : Option Form → Type 0
HasSize None = Unit {0}
HasSize (Some (file_form rel vrps scenario file option)) = Unit {0}
HasSize (Some (origin_form rel origin)) = Unit {0}
HasSize (Some (demo_form size)) = (4 ≤ size) × (size ≤ 20000)

-- the table of the forms, by the options with a file for what is asked that stand, of which one at most may, and by the values of the word and of the other options that stand; where none of those stands, a script is asked for that has no name; a size is 1 to 5 digits, from 4 to 20000 (own format)
abbrev pub form_by : List (FileOption × Text) → (rel vrps plan asn demo : Option Text) → Option Form
form_by [] (Some rel) vrps plan None None = Some (file_form rel vrps plan None option.Script)
form_by (o ∷ []) (Some rel) vrps plan None None = Some (file_form rel vrps plan (Some o.1) o.0)
form_by [] (Some rel) None None (Some number) None = option_map (origin_form rel) (asn_of number)
form_by [] None None None None (Some size) =
    option_map demo_form (option_filter (λ n. nat_le 4 n && nat_le n 20000) (numeral 10 5 size))
form_by _ _ _ _ _ _ = None

-- the form of the words: that of the values of the word and of the options where the command finds no fault in the words, and else none (own format)
unfoldable pub form_of : List Text → Option Form
form_of words = let value = λ (n : String). first_of (codes n) (matches_of asprop_command words) in
    let files = filter_map (λ o. option_map (λ f. (o.0, f)) (value o.1)) file_options in
    if is_empty (fault_of asprop_command words) then form_by files (value "rel") (value "vrps") (value "scenario") (value "origin") (value "demo") else None

-- the name that a form gives to a file, if it names one; the last file is that of an option (own format)
abbrev pub name_by : Option Form → File → Option Text
name_by (Some (file_form rel vrps scenario file option)) which =
    elim which [ Relations ↦ Some rel | Payloads ↦ vrps | Scenario ↦ scenario | Asked ↦ file ]
name_by (Some (origin_form rel origin)) Relations = Some rel
name_by _ _ = None

-- what the program keeps of a name
abbrev pub text_seen : Option (Bor Text) → Option Text
text_seen = option_map (λ text. text.now)

-- these options with a file stand: none, this one, or more than one
abbrev pub IsStanding : Standing → List (FileOption × Text) → Type 0
IsStanding standing.None files = files ≡ []
IsStanding (standing.One option file) files = files ≡ (option, file.now) ∷ []
IsStanding standing.More files = (first second : FileOption × Text) × (rest : List (FileOption × Text)) × (files ≡ first ∷ second ∷ rest)

-- what the program keeps of a form
abbrev pub form_seen : WordForm → Form
form_seen (form.File rel vrps scenario file option) = file_form rel.now (text_seen vrps) (text_seen scenario) (text_seen file) option
form_seen (form.Origin rel origin) = origin_form rel.now origin
form_seen (form.Demo size) = demo_form size
