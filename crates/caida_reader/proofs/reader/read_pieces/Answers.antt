use Rattle.std.proofs.Common.{◌≡◌, ◌+◌, [], ap, ◌∙◌, subst, drop, append-nil}
use Rattle.std.proofs.lemmas.List.{drop_all}
use Rattle.std.proofs.lemmas.Result.{err_from_is_err_and}
use Rattle.caida_reader.specs.Progress.{joined}
use Rattle.net_names.specs.Links.{LinkMap}
use Rattle.caida_reader.specs.Value.{links_of}
use Rattle.caida_reader.specs.Progress.{outcome, Gives}
use Rattle.caida_reader.proofs.Reading.{piece_fault, pieces_from}
use Rattle.caida_reader.proofs.reader.read_pieces.Goals as goal

pub returns-in_err-feed : goal.returns-in_err-feed
returns-in_err-feed c =
    let from = pieces_from c.args.pieces.now c.pieces.piece-index c.piece-item.result c.pieces-test.true c.piece-item.is in
    let given = err_from_is_err_and c.from_residual.result c.from_residual.ensures.1 in
    rw (given.1, given.2) (piece_fault c.pieces.reader c.in_err-feed.field-0.0 c.piece-item.result.items (joined (drop (c.pieces.piece-index + 1) c.args.pieces.now)) (joined c.args.pieces.now)
    (λ more. rw c.deref.ensures.value at (c.in_err-feed.ensures.fault.1 more)) (rw from at c.pieces.invariant.so_far))

pub returns : goal.returns
returns c =
    let none : drop c.pieces.piece-index c.args.pieces.now ≡ [] = drop_all _ _ c.pieces-test.false in
    let whole : outcome c.pieces.reader [] ≡ links_of (joined c.args.pieces.now) =
    rw none at (c.pieces.invariant.so_far []) ∙ ap links_of (append-nil (joined c.args.pieces.now)) in
    subst (Gives (λ (links : LinkMap). links) c.finish.result) whole c.finish.ensures.value
