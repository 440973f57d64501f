use Rattle.std.proofs.Common.{◌<◌, length, sym, subst, arith}
use Rattle.caida_reader.specs.Marks.{IsMarked}
use Rattle.caida_reader.proofs.MarkLemmas.{still_marked}
use Rattle.caida_reader.proofs.marks.PairFilter.mark.Goals as goal

pub returns-then-spot-len-clause-kept : goal.returns-then-spot-len-clause-kept
returns-then-spot-len-clause-kept c = λ pair marked.
    let inside : c.spot_of-spot.result.word < length c.self.inside.words.items = omega (arith, c.if-spot-len.true, c.len.ensures, c.self.inside.words.ok.0) in
    still_marked c.self.inside.words.items c.spot_of-spot.result.word c.index_mut.result.now c.spot_of-spot.result.bits c.index_mut.ensures.value inside pair
    (subst (λ words. IsMarked words pair) (sym c.self.view_is) marked)
