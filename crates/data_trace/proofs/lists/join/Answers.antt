use Rattle.std.proofs.Common.{rules, sym, ◌∙◌, ap}
use Rattle.data_trace.specs.Lists.{target}
use Rattle.data_trace.proofs.Joining.{join_none, join_to, target_none}
use Rattle.data_trace.proofs.lists.join.Goals as goal

pub returns-in_default : goal.returns-in_default
returns-in_default c = λ rest h out. join_none c.args.hops.now rest c.args.first.now c.args.before.now c.args.after.now c.args.first.now c.args.before.now c.args.after.now c.args.a h c.requires.inside out
    (ap target (sym c.hop_in.ensures) ∙ target_none c.hop_in.result (λ b e. c.in_default.not-To b e))

pub returns : goal.returns
returns c = λ rest h out.
    join_to c.args.hops.now rest c.args.first.now c.args.before.now c.args.after.now c.link.new.first c.link.new.before c.link.new.after c.args.a h c.requires.inside out c.in-To.b (search rules) (search rules) (search rules) (search rules) c.link.ensures
