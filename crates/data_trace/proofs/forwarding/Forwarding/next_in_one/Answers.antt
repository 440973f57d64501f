use Rattle.std.proofs.Common.{◌≡◌, List, [], ◌∷◌, Option, None, length, get_or, sym, ◌∙◌, ap, subst, arith}
use Rattle.std.specs.Prelude.{IfSome}
use Rattle.path_pool.specs.Pool.{IsLive}
use Rattle.route_choice.specs.declared.held.Held.{Held}
use Rattle.data_trace.specs.declared.best.Best.{Best}
use Rattle.data_trace.specs.declared.candidate.Candidate.{Candidate}
use Rattle.data_trace.specs.Best.{best_in, better_of, holding, hop_of}
use Rattle.data_trace.specs.Candidates.{best_among}
use Rattle.data_trace.proofs.Announcing.{unmarked}
use Rattle.data_trace.proofs.Prefixes.{next_hop_is, best_live}
use Rattle.data_trace.proofs.forwarding.Forwarding.next_in_one.Goals as goal

one_only : (xs : List Candidate) (x : Candidate) → length xs ≡ 1 → x ≡ get_or xs 0 x → xs ≡ x ∷ []
one_only [] x n e = absurd (omega (arith, n))
one_only (y ∷ []) x n e = ap (λ z. z ∷ []) (sym e)
one_only (y ∷ z ∷ zs) x n e = absurd (omega (arith, n))

pub hop-requires-clause-may : goal.hop-requires-clause-may
hop-requires-clause-may c = λ f. unmarked c.args.self.now.announcers c.args.self.now.plan.now c.args.self.now.announcing c.args.asn (sym c.has.ensures ∙ f)

pub hop-requires-clause-live : goal.hop-requires-clause-live
hop-requires-clause-live c =
    let f = c.args.self.now in
    let one = c.index-one.result.now in
    let e : c.better-best.result ≡ best_in f.tables.now c.args.asn (holding f.plan.now f.addr) =
    c.better-best.ensures ∙ ap (λ (h : Option Held). better_of None one.prefix h) c.get_near.ensures ∙ sym (ap (λ xs. best_among xs c.args.asn) (one_only f.candidates.items one c.requires c.index-one.ensures)) ∙ f.best c.args.asn in
    subst (λ (o : Option Best). IfSome o (λ b. IsLive f.pool.now b.held.path.0)) (sym e) (best_live f.pool.now f.tables.now c.args.asn f.plan.now f.addr f.live)

pub returns : goal.returns
returns c =
    let f = c.args.self.now in
    let one = c.index-one.result.now in
    let e : c.better-best.result ≡ best_in f.tables.now c.args.asn (holding f.plan.now f.addr) =
    c.better-best.ensures ∙ ap (λ (h : Option Held). better_of None one.prefix h) c.get_near.ensures ∙ sym (ap (λ xs. best_among xs c.args.asn) (one_only f.candidates.items one c.requires c.index-one.ensures)) ∙ f.best c.args.asn in
    c.hop.ensures ∙ ap (hop_of f.pool.now f.plan.now c.args.asn) e ∙ sym (next_hop_is f.pool.now f.tables.now c.args.asn f.plan.now f.addr)
