use Rattle.std.proofs.Common.{sym, ◌∙◌, ap}
use Rattle.route_choice.specs.declared.named_set.NamedSet.{NamedSet}
use Rattle.route_choice.specs.NamedSets.{is_named}
use Rattle.route_choice.specs.Routings.{seeds_of}
use Rattle.dirty_recompute.proofs.NoLoopLemmas.{on_no_path}
use Rattle.dirty_recompute.proofs.named.Named.may_have.Goals as goal

pub returns-in-Some-clause-out : goal.returns-in-Some-clause-out
returns-in-Some-clause-out c = λ out.
    on_no_path (is_named c.in-Some.listed.value) (seeds_of c.args.pool.now c.args.seeds.now) (c.count.ensures c.in-Some.listed c.in-Some.is) c.args.asn
    (λ origin. ap (λ (s : NamedSet). is_named s c.args.asn origin) (sym c.deref.ensures) ∙ c.has.ensures.none out origin)
