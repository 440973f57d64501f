use Rattle.std.proofs.Common.{ℕ, sym, subst}
use Rattle.std.specs.Prelude.{IfOk}
use Rattle.data_trace.specs.declared.kinds.Hop.{Hop}
use Rattle.data_trace.specs.Columns.{IsAmong, AreHops}
use Rattle.data_trace.proofs.Naming.{next_same}
use Rattle.data_trace.proofs.columns.next_hops.Goals as goal

pub hops_of-requires-clause-among : goal.hops_of-requires-clause-among
hops_of-requires-clause-among c =
    let f = c.in_ok-forwarding.forwarding in
    let e = c.in_ok-forwarding.ensures in
    let same = next_same f.plan.now c.args.plan.now f.pool.now c.args.pool.now f.tables.now c.args.tables.now f.addr c.args.addr e.plan e.pool e.tables e.addr in
    subst (λ (n : ℕ → Hop). (a : ℕ) → IsAmong c.args.ases.now.ases (n a)) (sym same) c.requires.among

pub returns : goal.returns
returns c =
    let f = c.in_ok-forwarding.forwarding in
    let e = c.in_ok-forwarding.ensures in
    let same = next_same f.plan.now c.args.plan.now f.pool.now c.args.pool.now f.tables.now c.args.tables.now f.addr c.args.addr e.plan e.pool e.tables e.addr in
    subst (λ (n : ℕ → Hop). IfOk c.hops_of.result (λ v. AreHops n c.args.ases.now.ases v.items)) same c.hops_of.ensures
