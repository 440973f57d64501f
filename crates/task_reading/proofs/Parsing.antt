-- What the program's command finds in the words.
use Rattle.std.proofs.Common.{◌≡◌, ◌∙◌, ap, sym, subst, refl, true, false, if◌then◌else◌, length, arith, List, [], ◌∷◌, codes, Option, None, option_map, inl, inr}
use Rattle.std.specs.List.{cons_option}
use Rattle.std.proofs.lemmas.Bool.{ne_eqb}
use Rattle.clap.specs.Walk.{Row, Text, first_of, is_empty}
use Rattle.clap.specs.Words.{App, HasKind, HasMatchesOf, Kinds, fault_of, first_value, found_of, is_simple, is_simple_and_free, kind_of, matches_of, rows_of}
use Rattle.clap.specs.declared.error.Error.{Error}
use Rattle.clap.specs.declared.error.kind.ErrorKind.TheVariants.{OutOfMemory}
use Rattle.clap.specs.declared.parser.matches.ArgMatches.{ArgMatches}
use Rattle.clap.proofs.WalkLemmas.{first_value-rows}
use Rattle.task_reading.specs.Command.{asprop_command}
use Rattle.task_reading.specs.Words.{Form, form_by, form_of}
use Rattle.task_reading.specs.declared.words.FileOption.{FileOption}
use Rattle.task_reading.specs.declared.words.FileOption.TheVariants.{Script, Activations, Messages, Sweep, Check}

-- the faults that the command finds in the words
unfoldable pub faults_in : List Text → Kinds
faults_in words = fault_of asprop_command words

-- the values of the options and of the word that stand
unfoldable pub rows_in : List Text → List Row
rows_in words = matches_of asprop_command words

-- the options with a file that stand, by the values of all of them
abbrev pub files_of : (script activations messages sweep check : Option Text) → List (FileOption × Text)
files_of script activations messages sweep check = cons_option (option_map (λ (name : Text). (Script, name)) script)
    (cons_option (option_map (λ (name : Text). (Activations, name)) activations) (cons_option (option_map (λ (name : Text). (Messages, name)) messages) (cons_option (option_map (λ (name : Text). (Sweep, name)) sweep) (cons_option (option_map (λ (name : Text). (Check, name)) check) []))))

-- the form of these values
abbrev form_by_rows : List Row → Option Form
form_by_rows rows =
    form_by (files_of (first_of (codes "script") rows) (first_of (codes "activations") rows) (first_of (codes "messages") rows) (first_of (codes "sweep") rows) (first_of (codes "check") rows))
    (first_of (codes "rel") rows) (first_of (codes "vrps") rows) (first_of (codes "scenario") rows)
    (first_of (codes "origin") rows) (first_of (codes "demo") rows)

-- the form that these values have, unless there are faults
abbrev form_in : Kinds → List Row → Option Form
form_in [] rows = form_by_rows rows
form_in (fault ∷ faults) rows = None

not_empty : {X : Type 0} (x : X) (xs : List X) → is_empty (x ∷ xs) ≡ false
not_empty x xs = ne_eqb (length (x ∷ xs)) 0 (λ none. absurd (omega (arith, none)))

form_unless : (kinds : Kinds) (rows : List Row) → (if is_empty kinds then form_by_rows rows else None) ≡ form_in kinds rows
form_unless [] rows = refl
form_unless (fault ∷ faults) rows = rw (not_empty fault faults) refl

-- the form of the words is that of what the command finds in them
form_of-in : (words : List Text) → form_of words ≡ form_in (faults_in words) (rows_in words)
unfolding form_of faults_in rows_in
form_of-in words = form_unless (fault_of asprop_command words) (matches_of asprop_command words)

-- the command is one of those whose faults and matches are told
simple_and_free : is_simple_and_free asprop_command ≡ true
unfolding asprop_command
simple_and_free = refl

simple : is_simple asprop_command ≡ true
unfolding asprop_command
simple = refl

-- words that are taken have no fault
pub taken : (app : App) (words : List Text) → app ≡ asprop_command → (is_simple_and_free app ≡ true → fault_of app words ≡ []) → faults_in words ≡ []
unfolding faults_in
taken app words is none = subst (λ (a : App). fault_of a words ≡ []) is (none (ap is_simple_and_free is ∙ simple_and_free))

-- the error's kind is that of a fault, or want of memory
pub failed : (app : App) (words : List Text) (e : Error) → app ≡ asprop_command → (is_simple_and_free app ≡ true → HasKind (fault_of app words) e) → HasKind (faults_in words) e
unfolding faults_in
failed app words e is has = subst (λ (a : App). HasKind (fault_of a words) e) is (has (ap is_simple_and_free is ∙ simple_and_free))

-- the rows of what was found
pub found : (app : App) (words : List Text) (m : ArgMatches) → app ≡ asprop_command → HasMatchesOf app words m → rows_of (found_of m) ≡ rows_in words
unfolding rows_in
found app words m is has = (has (ap is_simple is ∙ simple)).0 ∙ ap (λ (a : App). matches_of a words) is

refused_by : (kinds : Kinds) (e : Error) (rows : List Row) → HasKind kinds e → (kind_of e ≡ OutOfMemory → ⊥) → None ≡ form_in kinds rows
refused_by [] e rows (inl memory) other = absurd (other memory)
refused_by [] e rows (inr none) other = elim none [ ]
refused_by (k ∷ ks) e rows has other = refl

-- words with an error that isn't want of memory have no form
pub refused : (words : List Text) (e : Error) → HasKind (faults_in words) e → (kind_of e ≡ OutOfMemory → ⊥) → None ≡ form_of words
refused words e has other = refused_by (faults_in words) e (rows_in words) has other ∙ sym (form_of-in words)

-- the value of a name, where these are the rows
pub stands : (m : ArgMatches) (rows : List Row) (id : Text) → rows_of (found_of m) ≡ rows → first_value (found_of m) id ≡ first_of id rows
stands m rows id is = first_value-rows (found_of m) id ∙ ap (first_of id) is

-- words without a fault have the form of their values
pub accepted : (words : List Text) (rel vrps scenario script activations messages sweep check origin demo : Option Text) (form : Option Form) → faults_in words ≡ []
    → rel ≡ first_of (codes "rel") (rows_in words) → vrps ≡ first_of (codes "vrps") (rows_in words) → scenario ≡ first_of (codes "scenario") (rows_in words)
    → script ≡ first_of (codes "script") (rows_in words) → activations ≡ first_of (codes "activations") (rows_in words) → messages ≡ first_of (codes "messages") (rows_in words)
    → sweep ≡ first_of (codes "sweep") (rows_in words) → check ≡ first_of (codes "check") (rows_in words)
    → origin ≡ first_of (codes "origin") (rows_in words) → demo ≡ first_of (codes "demo") (rows_in words)
    → form ≡ form_by (files_of script activations messages sweep check) rel vrps scenario origin demo → form ≡ form_of words
accepted words rel vrps scenario script activations messages sweep check origin demo form takes rel_is vrps_is scenario_is script_is activations_is messages_is sweep_is check_is origin_is demo_is form_is =
    rw (form_of-in words, takes, form_is, rel_is, vrps_is, scenario_is, script_is, activations_is, messages_is, sweep_is, check_is, origin_is, demo_is) refl
