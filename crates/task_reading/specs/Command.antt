-- The command that takes the words.
use Prim.Native.String.{String}
use Rattle.std.specs.Prelude.{true, List, [], ◌∷◌, ◌++◌, codes, fold, map, Some}
use Rattle.clap.specs.Walk.{Rule, Text}
use Rattle.clap.specs.Simple.{App, new_app, new_rule, on_top, with_rule}
use Rattle.clap.specs.declared.builder.action.ArgAction.TheVariants.{Set}
use Rattle.task_reading.specs.declared.words.FileOption.{FileOption}
use Rattle.task_reading.specs.declared.words.FileOption.TheVariants.{Script, Activations, Messages, Sweep, Check}

-- the options with a file for what is asked, each with its name (own format)
abbrev pub file_options : List (FileOption × String)
file_options = (Script, "script") ∷ (Activations, "activations") ∷ (Messages, "messages") ∷ (Sweep, "sweep") ∷ (Check, "check") ∷ []

-- the program's command: nine options with a value each and one word, each of which stands at most once and none of which must stand, and no options for help and for the version (own format)
unfoldable pub asprop_command : App
asprop_command = let bare = on_top (λ s. record s { disable_help_flag = true; disable_version_flag = true }) (new_app (codes "asprop")) in
    let option : Text → Rule = λ n. record (new_rule n) { action = Some Set; long = Some n } in
    fold with_rule bare (map (λ n. option (codes n)) ("vrps" ∷ "scenario" ∷ "origin" ∷ "demo" ∷ map (λ o. o.1) file_options) ++ record (new_rule (codes "rel")) { action = Some Set } ∷ [])
