use Rattle.std.proofs.Common.{sym, ◌∙◌, ap, subst}
use Rattle.std.specs.Prelude.{IfSome}
use Rattle.path_pool.specs.Pool.{IsLive}
use Rattle.data_trace.specs.Best.{hop_of}
use Rattle.data_trace.proofs.Prefixes.{next_hop_is, best_live}
use Rattle.data_trace.proofs.hops.next_hop_near.Goals as goal

pub hop-requires-clause-live : goal.hop-requires-clause-live
hop-requires-clause-live c = subst (λ o. IfSome o (λ b. IsLive c.args.pool.now b.held.path.0)) (sym c.best_of_plan.ensures) (best_live c.args.pool.now c.args.tables.now c.args.asn c.args.plan.now c.args.addr c.requires)

pub returns : goal.returns
returns c = c.hop.ensures ∙ ap (hop_of c.args.pool.now c.args.plan.now c.args.asn) c.best_of_plan.ensures ∙ sym (next_hop_is c.args.pool.now c.args.tables.now c.args.asn c.args.plan.now c.args.addr)
