use Rattle.std.proofs.Common.{◌++◌, take, length-append, length-take, arith}
use Rattle.std.proofs.KnownBytes.{Consumes-trans}
use Rattle.std.proofs.lemmas.Result.{err_from_is_err_and}
use Rattle.io_edge.proofs.Keeping.{keeps_on}
use Rattle.io_edge.proofs.whole.read_all.Goals as goal

pub returns-in_err-extend_from_slice-in_default-clause-taken : goal.returns-in_err-extend_from_slice-in_default-clause-taken
returns-in_err-extend_from_slice-in_default-clause-taken g c =
    let given = err_from_is_err_and c.from_residual-in_err-extend_from_slice-in_default.result c.from_residual-in_err-extend_from_slice-in_default.ensures.1 in
    rw (given.1, given.2) (record {
      bytes = c.pieces.bytes.items ++ take c.in_ok-count.count c.take.new.room;
      within = rw length-append (omega (arith, c.in_ok-count.ensures.bound, c.take.auto.room, length-take c.min-want.result c.pieces.room, c.pieces.bytes.ok));
      taken = Consumes-trans _ _ _ _ _ c.pieces.invariant.taken c.in_ok-count.ensures.bytes.0;
    })

pub returns-in_err-count-clause-keeps : goal.returns-in_err-count-clause-keeps
returns-in_err-count-clause-keeps g c = keeps_on _ _ _ c.pieces.invariant.keeps c.take.ensures.keeps

pub returns-in-0-clause-keeps : goal.returns-in-0-clause-keeps
returns-in-0-clause-keeps g c = keeps_on _ _ _ c.pieces.invariant.keeps c.take.ensures.keeps

pub returns-in_err-extend_from_slice-in_default-clause-keeps : goal.returns-in_err-extend_from_slice-in_default-clause-keeps
returns-in_err-extend_from_slice-in_default-clause-keeps g c = keeps_on _ _ _ c.pieces.invariant.keeps c.take.ensures.keeps
