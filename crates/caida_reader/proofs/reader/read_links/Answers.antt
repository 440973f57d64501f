use Rattle.std.proofs.Common.{ap, ◌∙◌, subst, append-nil, [], ◌++◌}
use Rattle.std.proofs.lemmas.Result.{err_from_is_err_and}
use Rattle.caida_reader.specs.Value.{links_of}
use Rattle.caida_reader.specs.Progress.{Fails}
use Rattle.caida_reader.proofs.reader.read_links.Goals as goal

pub returns-in_err-feed : goal.returns-in_err-feed
returns-in_err-feed c =
    let given = err_from_is_err_and c.from_residual.result c.from_residual.ensures.1 in
    rw (given.1, given.2) (subst (Fails c.in_err-feed.field-0.0) (c.new-reader.ensures.start (c.args.bytes.now ++ []) ∙ ap links_of (append-nil c.args.bytes.now)) (c.in_err-feed.ensures.fault.1 []))
