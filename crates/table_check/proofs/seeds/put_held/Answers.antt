use Rattle.std.proofs.Common.{ap, arith, sym, ◌∙◌}
use Rattle.std.specs.FinMap as map
use Rattle.std.proofs.lemmas.Result.{on_ok_weaker}
use Rattle.table_check.proofs.Leakers.{put_this, put_other, taken_this, taken_other}
use Rattle.table_check.proofs.seeds.put_held.Goals as goal

pub put_copy-requires : goal.put_copy-requires
put_copy-requires c = let short = c.paths_are_short.ensures c.args.round c.args.asn c.in-Some.entry.now (sym c.in-Some.ensures) in omega (arith, short)

pub returns-in-Some-clause-this : goal.returns-in-Some-clause-this
returns-in-Some-clause-this c =
    on_ok_weaker c.put_copy.result (λ is. ap (λ m. map.get m c.args.asn) is ∙ put_this c.args.routing.now c.args.asn c.in-Some.entry.now ∙ c.in-Some.ensures) c.put_copy.ensures

pub returns-in-Some-clause-others : goal.returns-in-Some-clause-others
returns-in-Some-clause-others c =
    on_ok_weaker c.put_copy.result (λ is a ne. ap (λ m. map.get m a) is ∙ put_other c.args.routing.now c.args.asn c.in-Some.entry.now a ne) c.put_copy.ensures

pub returns-in-None-clause-this : goal.returns-in-None-clause-this
returns-in-None-clause-this c = ap (λ m. map.get m c.args.asn) c.clear.ensures ∙ taken_this c.args.routing.now c.args.asn ∙ c.in-None.ensures

pub returns-in-None-clause-others : goal.returns-in-None-clause-others
returns-in-None-clause-others c = λ a ne. ap (λ m. map.get m a) c.clear.ensures ∙ taken_other c.args.routing.now c.args.asn a ne
