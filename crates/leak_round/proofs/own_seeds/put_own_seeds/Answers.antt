use Rattle.std.proofs.Common.{◌≡◌, ◌<◌, List, Some, length, sym, ap, ◌∙◌, arith}
use Rattle.std.specs.Prelude.{slice_get}
use Rattle.net_names.specs.Prefixes.{PrefixValue}
use Rattle.stability_laws.specs.Plans.{prefixes_of}
use Rattle.leak_round.proofs.Owning.{own_put}
use Rattle.leak_round.proofs.own_seeds.put_own_seeds.Goals as goal

pub returns-in-Some : goal.returns-in-Some
returns-in-Some c = λ xs ys was others are.
    let own = c.args.own.now.items in
    let at : slice_get (prefixes_of c.args.plan.now) c.in-Some.place ≡ Some c.args.prefix = ap (λ (ps : List PrefixValue). slice_get ps c.in-Some.place) (sym c.prefixes.ensures) ∙ c.in-Some.ensures in
    let less : c.in-Some.place < length own = omega (arith, c.if-place-len.true, c.len.ensures, c.args.own.now.ok.0) in
    own_put c.args.plan.now xs ys own c.in-Some.place c.args.prefix c.args.seeds was others are at less
