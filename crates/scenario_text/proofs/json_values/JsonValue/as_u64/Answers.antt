use Rattle.std.proofs.Common.{◌≡◌, ℕ, Option, Some, None, option_map, option_and_then, refl, sym, ap, ◌∙◌}
use Rattle.std.specs.Prelude.{unwrap_or}
use Rattle.serde_json.specs.Find.{as_u64}
use Rattle.serde_json.specs.Read.{number_of}
use Rattle.scenario_text.specs.Tokens.{data_at}
use Rattle.scenario_text.proofs.JsonData.{same, whole_at, as_u64-same}
use Rattle.scenario_text.proofs.Tokens.{begins}
use Rattle.scenario_text.proofs.json_values.JsonValue.as_u64.Goals as goal

-- the number of a text, or none where the text's number is none of those
flat : {A B : Type 0} (f : A → Option B) (o : Option A) → unwrap_or (option_map f o) None ≡ option_and_then f o
flat f None = refl
flat f (Some a) = refl

pub returns-in-Some : goal.returns-in-Some
returns-in-Some c =
    let ts = c.args.self.now.element in
    let b = begins ts c.args.self.now.is_data in
    let is = ap whole_at (rw c.in-Some.is at (c.as_number.ensures b.0 b.1.begins)) ∙ as_u64-same b.0 (data_at ts) (same b.0 (data_at ts) b.1.is) in
    c.unwrap_or.ensures ∙ ap (λ o. unwrap_or o None) c.whole_number.ensures ∙ flat as_u64 (number_of c.in-Some.text.now) ∙ is

pub returns-in-None : goal.returns-in-None
returns-in-None c =
    let ts = c.args.self.now.element in
    let b = begins ts c.args.self.now.is_data in
    ap whole_at (rw c.in-None.is at (c.as_number.ensures b.0 b.1.begins)) ∙ as_u64-same b.0 (data_at ts) (same b.0 (data_at ts) b.1.is)
