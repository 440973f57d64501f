use Rattle.std.proofs.Common.{sym, ◌∙◌, ap, length, get_or, arith}
use Rattle.std.proofs.lemmas.Bool.{eqb-true}
use Rattle.as_places.proofs.PlaceLemmas.{place_at}
use Rattle.route_choice.proofs.dense.place_near.Goals as goal

pub returns-in-Some : goal.returns-in-Some
returns-in-Some c =
    let h = c.in-Some.ensures.lookup.3 in
    let stands = ap (λ l. get_or l c.args.near 0) (sym c.as_slice.ensures.list) ∙ sym (h.1 0) ∙ eqb-true _ _ (sym c.eq.ensures ∙ c.if-eq.true) in
    sym (place_at c.args.ases.now.ases c.as_slice.ensures.apart c.args.near c.args.asn (omega (arith, h.0, ap length c.as_slice.ensures.list)) stands)
