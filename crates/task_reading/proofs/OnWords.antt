-- The forms of words that are written out, as examples of the definition.
use Rattle.std.proofs.Common.{◌≡◌, refl, [], ◌∷◌, codes, Some, None}
use Rattle.clap.proofs.OnLiterals.{clap_on_literals}
use Rattle.net_names.specs.Texts.{asn_of, numeral}
use Rattle.task_reading.specs.Command.{asprop_command}
use Rattle.task_reading.specs.Words.{form_of, file_form, origin_form, demo_form}
use Rattle.task_reading.specs.declared.words.FileOption.TheVariants.{Script, Activations}

rel_alone : form_of (codes "asprop" ∷ codes "rel" ∷ []) ≡ Some (file_form (codes "rel") None None None Script)
unfolding clap_on_literals form_of asprop_command
rel_alone = refl

options_before_rel : form_of (codes "asprop" ∷ codes "--script" ∷ codes "cmds" ∷ codes "--scenario=s" ∷ codes "rel" ∷ []) ≡ Some (file_form (codes "rel") None (Some (codes "s")) (Some (codes "cmds")) Script)
unfolding clap_on_literals form_of asprop_command
options_before_rel = refl

payloads_alone : form_of (codes "asprop" ∷ codes "rel" ∷ codes "--vrps" ∷ codes "v" ∷ []) ≡ Some (file_form (codes "rel") (Some (codes "v")) None None Script)
unfolding clap_on_literals form_of asprop_command
payloads_alone = refl

one_origin : form_of (codes "asprop" ∷ codes "rel" ∷ codes "--origin" ∷ codes "0000000007" ∷ []) ≡ Some (origin_form (codes "rel") 7)
unfolding clap_on_literals form_of asprop_command asn_of numeral
one_origin = refl

activations : form_of (codes "asprop" ∷ codes "rel" ∷ codes "--activations" ∷ codes "a" ∷ []) ≡ Some (file_form (codes "rel") None None (Some (codes "a")) Activations)
unfolding clap_on_literals form_of asprop_command
activations = refl

generated : form_of (codes "asprop" ∷ codes "--demo" ∷ codes "00004" ∷ []) ≡ Some (demo_form 4)
unfolding clap_on_literals form_of asprop_command numeral
generated = refl

-- two options with a file, an option twice, an origin with a script or with payloads, an option that isn't there, and a generated input that is too small or stands with a relationship file have no form
without_form :
    (form_of (codes "asprop" ∷ codes "rel" ∷ codes "--script" ∷ codes "a" ∷ codes "--activations" ∷ codes "b" ∷ []) ≡ None)
    × (form_of (codes "asprop" ∷ codes "rel" ∷ codes "--script" ∷ codes "a" ∷ codes "--script" ∷ codes "b" ∷ []) ≡ None)
    × (form_of (codes "asprop" ∷ codes "rel" ∷ codes "--script" ∷ codes "a" ∷ codes "--origin" ∷ codes "7" ∷ []) ≡ None)
    × (form_of (codes "asprop" ∷ codes "rel" ∷ codes "--vrps" ∷ codes "v" ∷ codes "--origin" ∷ codes "7" ∷ []) ≡ None)
    × (form_of (codes "asprop" ∷ codes "rel" ∷ codes "--help" ∷ []) ≡ None)
    × (form_of (codes "asprop" ∷ codes "--demo" ∷ codes "3" ∷ []) ≡ None)
    × (form_of (codes "asprop" ∷ codes "rel" ∷ codes "--demo" ∷ codes "4" ∷ []) ≡ None)
unfolding clap_on_literals form_of asprop_command numeral
without_form = (refl, refl, refl, refl, refl, refl, refl)
