use Rattle.std.proofs.Common.{sym, ◌∙◌, ap, get_or, length, arith}
use Rattle.std.proofs.lemmas.Bool.{eqb-true}
use Rattle.as_places.specs.Places.{PlacedAses, place_of}
use Rattle.as_places.proofs.PlaceLemmas.{at_place, place_at}
use Rattle.as_places.proofs.places.AsPlaces.place_near.Goals as goal

pub returns-in-Some-clause-value : goal.returns-in-Some-clause-value
returns-in-Some-clause-value c =
    let h = c.in-Some.ensures.lookup.3 in
    let numbers = c.self.inside.numbers.items in
    let stands = ap (λ l. get_or l c.args.hint 0) (sym c.deref.ensures.value) ∙ sym (h.1 0) ∙ eqb-true _ _ (sym c.eq.ensures ∙ c.if-eq.true) in
    sym (ap (λ (v : PlacedAses). place_of v.ases c.args.asn) (sym c.self.view_is) ∙ place_at numbers c.self.invariant.apart c.args.hint c.args.asn (omega (arith, h.0, ap length c.deref.ensures.value)) stands)

pub returns-in-Some-clause-found : goal.returns-in-Some-clause-found
returns-in-Some-clause-found c = at_place c.args.self.now.ases c.args.asn c.args.hint (sym (returns-in-Some-clause-value c))
