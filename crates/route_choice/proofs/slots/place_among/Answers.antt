use Rattle.std.proofs.Common.{sym, ◌∙◌, ap}
use Rattle.std.proofs.lemmas.Bool.{eqb-true}
use Rattle.as_places.specs.Places.{place_of}
use Rattle.route_choice.specs.declared.row.Row.{Row}
use Rattle.route_choice.specs.Rows.{asns_of}
use Rattle.route_choice.proofs.RowLemmas.{row_place, inside_where}
use Rattle.route_choice.proofs.slots.place_among.Goals as goal

pub returns-in-Some-clause-value : goal.returns-in-Some-clause-value
returns-in-Some-clause-value c =
    let h = c.in-Some.ensures.lookup.3 in
    let same = sym (ap (λ (r : Row). r.asn) (h.1 c.in-Some.row.now)) ∙ eqb-true _ _ (sym c.eq.ensures ∙ c.if-eq.true) in
    sym (ap (place_of (asns_of c.args.rows.now)) (sym same) ∙ row_place c.args.rows.now c.args.near c.in-Some.row.now c.requires.apart h.0)

pub returns-in_default-clause-found : goal.returns-in_default-clause-found
returns-in_default-clause-found c =
    inside_where c.args.rows.now c.args.asn c.place_in.result (ap (λ l. place_of l c.args.asn) c.requires.places ∙ sym c.place_in.ensures)
