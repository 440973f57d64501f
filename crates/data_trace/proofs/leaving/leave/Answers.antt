use Rattle.std.proofs.Common.{rules, sym, ◌∙◌, ap}
use Rattle.data_trace.specs.Lists.{target}
use Rattle.data_trace.proofs.Departing.{leave_none, leave_to}
use Rattle.data_trace.proofs.Joining.{target_none}
use Rattle.data_trace.proofs.leaving.leave.Goals as goal

pub returns-in_default : goal.returns-in_default
returns-in_default c = λ queue h out.
    leave_none c.args.hops.now queue c.args.first.now c.args.before.now c.args.after.now c.args.first.now c.args.before.now c.args.after.now c.args.a h out (ap target (sym c.hop_in.ensures) ∙ target_none c.hop_in.result (λ b e. c.in_default.not-To b e))

pub returns : goal.returns
returns c = λ queue h out.
    leave_to c.args.hops.now queue c.args.first.now c.args.before.now c.args.after.now c.unlink.new.first c.unlink.new.before c.unlink.new.after c.args.a h out c.in-To.b (search rules) (search rules) (search rules) (search rules) c.unlink.ensures
