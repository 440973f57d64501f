use Rattle.std.proofs.Common.{◌++◌, ◌∷◌, [], ◌∙◌, ap, sym, map, cond, append-nil}
use Rattle.sim_core.proofs.naming.add_other.Goals as goal

pub returns-then-not-is_other : goal.returns-then-not-is_other
returns-then-not-is_other c = sym (ap (λ b. c.args.names.now.items ++ map (λ p. p.0) (cond b (c.args.policy ∷ []) [])) (sym (c.if-not-is_other.ensures c.args.policy.0)) ∙ append-nil c.args.names.now.items)

pub returns : goal.returns
returns c = c.in_ok-push.ensures.items ∙ ap (λ b. c.args.names.now.items ++ map (λ p. p.0) (cond b (c.args.policy ∷ []) [])) (c.if-not-is_other.ensures c.args.policy.0)
