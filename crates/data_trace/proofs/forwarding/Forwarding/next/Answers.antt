use Rattle.std.proofs.Common.{◌≡◌, Option, sym, ◌∙◌, ap, subst}
use Rattle.std.specs.Prelude.{IfSome}
use Rattle.path_pool.specs.Pool.{IsLive}
use Rattle.data_trace.specs.declared.best.Best.{Best}
use Rattle.data_trace.specs.Best.{best_in, holding, hop_of}
use Rattle.data_trace.specs.Candidates.{best_among}
use Rattle.data_trace.proofs.Announcing.{unmarked}
use Rattle.data_trace.proofs.Prefixes.{next_hop_is, best_live}
use Rattle.data_trace.proofs.forwarding.Forwarding.next.Goals as goal

pub hop-requires-clause-may : goal.hop-requires-clause-may
hop-requires-clause-may c = λ f. unmarked c.args.self.now.announcers c.args.self.now.plan.now c.args.self.now.announcing c.args.asn (sym c.has.ensures ∙ f)

pub hop-requires-clause-live : goal.hop-requires-clause-live
hop-requires-clause-live c =
    let f = c.args.self.now in
    let e : c.best_at.result ≡ best_in f.tables.now c.args.asn (holding f.plan.now f.addr) = c.best_at.ensures ∙ ap (λ xs. best_among xs c.args.asn) c.as_slice.ensures.value ∙ f.best c.args.asn in
    subst (λ (o : Option Best). IfSome o (λ b. IsLive f.pool.now b.held.path.0)) (sym e) (best_live f.pool.now f.tables.now c.args.asn f.plan.now f.addr f.live)

pub returns : goal.returns
returns c =
    let f = c.args.self.now in
    let e : c.best_at.result ≡ best_in f.tables.now c.args.asn (holding f.plan.now f.addr) = c.best_at.ensures ∙ ap (λ xs. best_among xs c.args.asn) c.as_slice.ensures.value ∙ f.best c.args.asn in
    c.hop.ensures ∙ ap (hop_of f.pool.now f.plan.now c.args.asn) e ∙ sym (next_hop_is f.pool.now f.tables.now c.args.asn f.plan.now f.addr)
