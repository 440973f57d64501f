use Rattle.std.proofs.Common.{◌∙◌}
use Rattle.scenario_text.specs.Tokens.{data_at}
use Rattle.scenario_text.proofs.Tokens.{begins, found}
use Rattle.scenario_text.proofs.json_values.JsonValue.get.Goals as goal

pub of-requires : goal.of-requires
of-requires c =
    let ts = c.args.self.now.element in
    let b = begins ts c.args.self.now.is_data in
    let f = found c.args.name.now c.get.result b.0 (data_at ts) b.1.low b.1.is (c.get.ensures b.0 b.1.begins) in
    rw c.in-Some.is at f.1

pub returns-in-Some : goal.returns-in-Some
returns-in-Some c =
    let ts = c.args.self.now.element in
    let b = begins ts c.args.self.now.is_data in
    let f = found c.args.name.now c.get.result b.0 (data_at ts) b.1.low b.1.is (c.get.ensures b.0 b.1.begins) in
    rw c.of.ensures (rw c.in-Some.is at f.0)

pub returns-in-None : goal.returns-in-None
returns-in-None c =
    let ts = c.args.self.now.element in
    let b = begins ts c.args.self.now.is_data in
    let f = found c.args.name.now c.get.result b.0 (data_at ts) b.1.low b.1.is (c.get.ensures b.0 b.1.begins) in
    rw c.in-None.is at f.0
