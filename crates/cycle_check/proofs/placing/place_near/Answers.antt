use Rattle.std.proofs.Common.{◌≡◌, ◌<◌, length, sym, ap, ◌∙◌}
use Rattle.std.proofs.lemmas.Bool.{eqb-true}
use Rattle.std.proofs.lemmas.List.{get_or_read}
use Rattle.cycle_check.specs.Places.{place_in}
use Rattle.cycle_check.proofs.Places.{place_at}
use Rattle.cycle_check.proofs.placing.place_near.Goals as goal

pub returns-then-eq-clause-place : goal.returns-then-eq-clause-place
returns-then-eq-clause-place c =
    let ases = c.args.ases.now in
    let less : c.args.near < length ases = c.if-near-ases.true in
    let same : c.index-ases-near.result ≡ c.args.asn = eqb-true _ _ (sym c.eq.ensures ∙ c.if-eq.true) in
    sym (place_at ases c.requires c.args.near less) ∙ ap (place_in ases) (sym (get_or_read ases c.args.near c.index-ases-near.result less c.index-ases-near.is 0) ∙ same)
