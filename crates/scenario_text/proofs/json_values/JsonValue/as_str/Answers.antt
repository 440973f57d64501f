use Rattle.std.proofs.Common.{◌∙◌}
use Rattle.scenario_text.specs.Tokens.{data_at}
use Rattle.scenario_text.proofs.JsonData.{same, as_str-same}
use Rattle.scenario_text.proofs.Tokens.{begins}
use Rattle.scenario_text.proofs.json_values.JsonValue.as_str.Goals as goal

pub returns : goal.returns
returns c =
    let b = begins c.args.self.now.element c.args.self.now.is_data in
    c.as_str.ensures b.0 b.1.begins ∙ as_str-same b.0 (data_at c.args.self.now.element) (same b.0 _ b.1.is)
