-- The JSON value of some bytes, by the text that they are.
use Rattle.std.proofs.Common.{◌≡◌, ℕ, List, true, false, Option, Some, None, refl, sym, ap, ◌∙◌}
use Rattle.std.specs.Prelude.{ok_or}
use Rattle.std.specs.Str.{IsUtf8, is_utf8}
use Rattle.std.proofs.lemmas.Str.{IsUtf8-from_is_utf8, is_utf8-from_IsUtf8}
use Rattle.serde_json.specs.Data.{Data}
use Rattle.serde_json.specs.Read.{read}
use Rattle.scenario_text.specs.declared.faults.ScenarioError.TheVariants.{NotJson}
use Rattle.scenario_text.specs.Members.{lists_in}
use Rattle.scenario_text.specs.Readings.{json_of, document_in, lists_of_bytes}
use Rattle.scenario_text.specs.Shapes.{document_of}
use Rattle.scenario_text.specs.Values.{lists_of}
use Rattle.scenario_text.specs.Walks.{◌>>=◌}
use Rattle.scenario_text.proofs.Members.{lists_in_passes}

pub json_of-read : (bytes : List ℕ) → IsUtf8 bytes → json_of bytes ≡ read bytes
unfolding json_of
json_of-read bytes utf8 = rw (is_utf8-from_IsUtf8 bytes utf8) refl

pub json_of-none : (bytes : List ℕ) → (IsUtf8 bytes → read bytes ≡ None) → json_of bytes ≡ None
unfolding json_of
json_of-none bytes h =
    (elim (is_utf8 bytes) as (λ v. is_utf8 bytes ≡ v → json_of bytes ≡ None) [
      | true ↦ λ e. rw e (h (IsUtf8-from_is_utf8 bytes e))
      | false ↦ λ e. rw e refl
    ]) refl

by_passes : (o : Option Data) → (ok_or o NotJson >>= lists_in) ≡ ((ok_or o NotJson >>= document_of) >>= lists_of)
by_passes None = refl
by_passes (Some d) = lists_in_passes d

pub lists_in-passes : (bytes text : List ℕ) → text ≡ bytes → IsUtf8 bytes → lists_of_bytes bytes ≡ (document_in text >>= lists_of)
lists_in-passes bytes text same utf8 =
    ap (λ (o : Option Data). ok_or o NotJson >>= lists_in) (json_of-read bytes utf8 ∙ ap read (sym same)) ∙ by_passes (read text)
