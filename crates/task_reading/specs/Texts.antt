-- The statuses and texts of faults, and the numbers of statuses.
use Prim.Native.String.{String}
use Rattle.std.specs.Prelude.{ℕ, ◌+◌, [], ◌∷◌, ◌++◌, codes, drop, Option, unwrap_or, decimal}
use Rattle.std.specs.List.{flat_map}
use Rattle.clap.specs.Walk.{Text}
use Rattle.activations.specs.declared.reading.ActsError.TheVariants as acts
use Rattle.activations.specs.declared.reading.TheConstants.{MOST_ACTIVATIONS}
use Rattle.as_graph.specs.declared.build.TheConstants.{MOST_ASES}
use Rattle.caida_reader.specs.declared.errors.RelError.TheVariants as rel
use Rattle.caida_reader.specs.declared.errors.RelError.TheVariants.{SelfLink, Conflict, TooManyLinks}
use Rattle.message_sim.specs.declared.reading.DeliveriesError.TheVariants as steps
use Rattle.message_sim.specs.declared.steps.TheConstants.{MOST_DELIVERIES}
use Rattle.net_names.specs.declared.links.TheConstants.{MOST_LINKS}
use Rattle.roa_table.specs.declared.errors.VrpError.TheVariants as vrp
use Rattle.roa_table.specs.declared.table.TheConstants.{MOST_PAYLOADS}
use Rattle.scenario_text.specs.PlaceTexts.{place_text}
use Rattle.scenario_text.specs.declared.faults.LimitOf.{LimitOf}
use Rattle.scenario_text.specs.declared.faults.LimitOf.TheVariants.{Announcements, Prefixes, Path, Rounds, Leakers, Watch}
use Rattle.scenario_text.specs.declared.faults.ScenarioError.TheVariants as scenario
use Rattle.scenario_text.specs.declared.faults.ScenarioError.TheVariants.{Limit}
use Rattle.scenario_text.specs.declared.limits.TheConstants.{MOST_ANNOUNCEMENTS, MOST_LEAK_LISTS, MOST_LEAKERS, MOST_NUMBERS, MOST_PREFIXES, MOST_WATCHED}
use Rattle.scenario_text.specs.declared.line_faults.LinesError.{LinesError}
use Rattle.scenario_text.specs.declared.line_faults.LinesError.TheVariants as lines
use Rattle.scenario_text.specs.declared.script.TheConstants.{MOST_COMMANDS}
use Rattle.sweep.specs.declared.sweeps.TheConstants.{MOST_SWEEPS}
use Rattle.table_check.specs.declared.reading.TablesError.TheVariants as tables
use Rattle.task_reading.specs.Command.{file_options}
use Rattle.task_reading.specs.Words.{Form, name_by}
use Rattle.task_reading.specs.declared.types.Cause.{Cause}
use Rattle.task_reading.specs.declared.types.Cause.TheVariants.{Unread, TooLong, Relation, Payload, Scenario, Script, Acts, Deliveries, Sweeps, Tables, NotInWorld}
use Rattle.task_reading.specs.declared.types.Fault.{Fault}
use Rattle.task_reading.specs.declared.types.Fault.TheVariants as fault
use Rattle.task_reading.specs.declared.types.Fault.TheVariants.{InFile, TooManyAses}
use Rattle.task_reading.specs.declared.types.Status.{Status}
use Rattle.task_reading.specs.declared.types.Status.TheVariants as status
use Rattle.task_reading.specs.declared.types.Status.TheVariants.{BadInput, TooLarge}

-- `asprop: `, the text and a line feed (own format)
abbrev pub message : Text → Text
message text = codes "asprop: " ++ text ++ 10 ∷ []

-- a text behind the word for its place and the number of that, as in `line 5: unreadable` (own format)
abbrev pub placed : String → ℕ → String → Text
placed word n text = codes word ++ codes " " ++ (decimal n ++ (codes ": " ++ codes text))

-- the rows of the causes of a file of lines, of which it may have so many (own format)
abbrev pub lines_cause : Text → LinesError → Status × Text
lines_cause most lines.Memory = (BadInput, [])
lines_cause most (lines.Unreadable n) = (BadInput, placed "line" n "unreadable")
lines_cause most (lines.TooMany n) = (TooLarge, placed "line" n "more than " ++ most)

-- what a scenario may have at most: announcements, prefixes, numbers in a path, rounds with one before the lists of leakers, leakers in a round, and watched addresses (own format)
abbrev pub most_of : LimitOf → Text
most_of Announcements = decimal MOST_ANNOUNCEMENTS ++ codes " announcements"
most_of Prefixes = decimal MOST_PREFIXES ++ codes " prefixes"
most_of Path = decimal MOST_NUMBERS ++ codes " numbers in a path"
most_of Rounds = decimal (MOST_LEAK_LISTS + 1) ++ codes " rounds"
most_of Leakers = decimal MOST_LEAKERS ++ codes " leakers in a round"
most_of Watch = decimal MOST_WATCHED ++ codes " watched addresses"

-- the table of causes: the status and the text, with the place in the file, of each (own format). Where memory runs out in a reader the run ends for want of memory, and its row here is never asked for
abbrev pub cause_of : Cause → Status × Text
cause_of Unread = (status.ReadFault, codes "read fault")
cause_of (TooLong most) = (TooLarge, codes "more than " ++ decimal most ++ codes " bytes")
cause_of (Relation rel.Memory) = (BadInput, [])
cause_of (Relation (rel.Unreadable n)) = (BadInput, placed "line" n "unreadable")
cause_of (Relation (SelfLink n)) = (BadInput, placed "line" n "an AS linked to itself")
cause_of (Relation (Conflict n m)) = (BadInput, placed "line" n "conflicts with line " ++ decimal m)
cause_of (Relation (TooManyLinks n)) = (TooLarge, placed "line" n "more than " ++ (decimal MOST_LINKS ++ codes " links"))
cause_of (Payload vrp.Memory) = (BadInput, [])
cause_of (Payload (vrp.Fields n)) = (BadInput, placed "row" n "fewer than three fields")
cause_of (Payload (vrp.BadAsn n)) = (BadInput, placed "row" n "bad AS number")
cause_of (Payload (vrp.BadPrefix n)) = (BadInput, placed "row" n "bad prefix")
cause_of (Payload (vrp.BadMax n)) = (BadInput, placed "row" n "bad maximum length")
cause_of (Payload (vrp.TooMany n)) = (TooLarge, placed "row" n "more than " ++ (decimal MOST_PAYLOADS ++ codes " payloads"))
cause_of (Scenario scenario.Memory) = (BadInput, [])
cause_of (Scenario scenario.NotJson) = (BadInput, codes "not JSON")
cause_of (Scenario (scenario.Shape place)) = (BadInput, place_text place ++ codes ": wrong shape")
cause_of (Scenario (scenario.Value place)) = (BadInput, place_text place ++ codes ": bad value")
cause_of (Scenario (scenario.Twice place)) = (BadInput, place_text place ++ codes ": named twice")
cause_of (Scenario (Limit it)) = (TooLarge, codes "more than " ++ most_of it)
cause_of (Script e) = lines_cause (decimal MOST_COMMANDS ++ codes " commands") e
cause_of (Acts acts.Memory) = (BadInput, [])
cause_of (Acts (acts.Unreadable n)) = (BadInput, placed "line" n "unreadable")
cause_of (Acts (acts.Twice n)) = (BadInput, placed "line" n "named twice")
cause_of (Acts (acts.TooMany n)) = (TooLarge, placed "line" n "more than " ++ (decimal MOST_ACTIVATIONS ++ codes " activations"))
cause_of (Acts acts.NoFor) = (BadInput, codes "no for line")
cause_of (Deliveries steps.Memory) = (BadInput, [])
cause_of (Deliveries (steps.Unreadable n)) = (BadInput, placed "line" n "unreadable")
cause_of (Deliveries (steps.TooMany n)) = (TooLarge, placed "line" n "more than " ++ (decimal MOST_DELIVERIES ++ codes " deliveries"))
cause_of (Deliveries steps.NoFor) = (BadInput, codes "no for line")
cause_of (Sweeps e) = lines_cause (decimal MOST_SWEEPS ++ codes " sweeps") e
cause_of (Tables tables.Memory) = (BadInput, [])
cause_of (Tables (tables.Unreadable n)) = (BadInput, placed "line" n "unreadable")
cause_of (Tables (tables.Twice n)) = (BadInput, placed "line" n "named twice")
cause_of (Tables tables.NoFor) = (BadInput, codes "no for line")
cause_of (NotInWorld n) = (BadInput, placed "line" n "not in the world")

-- the table of the faults that a run may end with, each with its status and its text; that of the words has the forms, a line each (own format)
abbrev pub fault_ending : Option Form → Fault → Status × Text
fault_ending form fault.Usage = (status.Usage, codes "usage: asprop REL [--vrps FILE] [--scenario FILE] [--script FILE]\n       asprop REL --origin N\n       asprop --demo N\n" ++ flat_map (λ o. codes "       asprop REL [--vrps FILE] [--scenario FILE] --" ++ (codes o.1 ++ codes " FILE\n")) (drop 1 file_options))
fault_ending form TooManyAses = (TooLarge, message (codes "more than " ++ (decimal MOST_ASES ++ codes " ASes")))
fault_ending form (InFile which cause) = ((cause_of cause).0, codes "asprop: " ++ (unwrap_or (name_by form which) [] ++ (codes ": " ++ ((cause_of cause).1 ++ 10 ∷ []))))

-- the number with which the program ends (own format)
abbrev pub number_of : Status → ℕ
number_of status.Done = 0
number_of status.SomeRefused = 1
number_of status.Usage = 2
number_of status.BadInput = 3
number_of status.ReadFault = 4
number_of status.WriteFault = 5
number_of status.NoMemory = 6
number_of status.TooLarge = 7
