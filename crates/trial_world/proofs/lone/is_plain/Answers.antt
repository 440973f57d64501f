use Rattle.std.proofs.Common.{not, ap, ◌∙◌}
use Rattle.sim_core.specs.Loaded.{is_other}
use Rattle.trial_world.proofs.lone.is_plain.Goals as goal

pub returns : goal.returns
returns c = ap not (c.is_other.ensures c.args.asn ∙ ap (λ k. is_other (c.args.asn, k)) c.policy.ensures)
