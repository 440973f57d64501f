use Rattle.route_choice.proofs.Uses.{occurs-keys}
use Rattle.route_choice.proofs.overlay.Overlay.len.Goals as goal

pub returns-clause-listed : goal.returns-clause-listed
returns-clause-listed c = λ a. occurs-keys c.args.self.now.changes.entries a
