use Rattle.std.proofs.Common.{arith}
use Rattle.std.specs.FinMap as map
use Rattle.rank_order.proofs.Edited.{away_past, there_before}
use Rattle.rank_order.proofs.Putting.{taken_other, left_other}
use Rattle.rank_order.proofs.commit.take_other.Goals as goal

pub returns-then-place_in-ases : goal.returns-then-place_in-ases
returns-then-place_in-ases c = λ a.
    taken_other c.args.asn a c.args.ases.now (map.get c.args.ranks.now.by_as a) (map.get c.take.new.self.by_as a) (away_past c.args.ases.now c.args.asn (omega (arith, c.place_in.ensures.place, c.if-place_in-ases.true))) (c.take.ensures a)

pub returns-else-place_in-ases : goal.returns-else-place_in-ases
returns-else-place_in-ases c = λ a.
    left_other c.args.asn a c.args.ases.now (map.get c.args.ranks.now.by_as a) (there_before c.args.ases.now c.args.asn (omega (arith, c.place_in.ensures.place, c.place_in.ensures.inside, c.if-place_in-ases.false)))
