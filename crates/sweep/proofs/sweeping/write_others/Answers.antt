use Rattle.std.proofs.Common.{ℕ, Vec, Global, drop, take, subst}
use Rattle.std.specs.List.{flat_map}
use Rattle.std.proofs.lemmas.Result.{err_from_is_err_and}
use Rattle.io_edge.specs.Bytes.{AppendsFront}
use Rattle.sweep.proofs.Written.{Appends-front, front_longer, others_at}
use Rattle.sweep.proofs.sweeping.write_others.Goals as goal

pub returns-in_err-write_all-clause-err : goal.returns-in_err-write_all-clause-err
returns-in_err-write_all-clause-err g c =
    let p = err_from_is_err_and c.from_residual.result c.from_residual.ensures.1 in
    let texts = c.args.texts.now in
    let v = c.index-texts-i.result in
    let old = g.O.Sink.written c.args.out.now in
    let new = g.O.Sink.written c.write_all.new.sink in
    let before = flat_map (λ (w : Vec ℕ Global). w.items) (drop 1 (take c.texts.i texts)) in
    rw p.1
    (subst (AppendsFront old new) (others_at texts c.texts.i v c.texts.auto.i c.texts-test.true c.index-texts-i.is)
    (front_longer old new _ _ (Appends-front old (g.O.Sink.written c.texts.out) new before v.items c.texts.invariant.wrote
    (subst (AppendsFront (g.O.Sink.written c.texts.out) new) c.as_slice.ensures.value c.write_all.ensures.front))))
