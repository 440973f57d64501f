use Rattle.std.proofs.Common.{◌≡◌, ◌<◌, ap, length, map as each, slice_index_or, sym, ◌∙◌, arith, rules}
use Rattle.std.specs.Prelude.{option_copied}
use Rattle.std.proofs.lemmas.List.{get_or-map, length-map}
use Rattle.std.proofs.lemmas.Bool.{eqb-true}
use Rattle.table_check.specs.Rows.{held_by}
use Rattle.table_check.proofs.placed.Placed.near.Goals as goal

pub returns-then-eq-clause-value : goal.returns-then-eq-clause-value
returns-then-eq-clause-value c =
    let held = c.args.self.now.held.now in
    let rows = c.args.self.now.rows.now in
    let of_rows = held_by c.args.self.now.table.now c.args.self.now.round in
    let same : each option_copied held ≡ each of_rows rows = search rules in
    let within : c.args.place < length held = omega (arith, c.if-place-self.true, length-map held option_copied, length-map rows of_rows, ap length same) in
    let here : slice_index_or rows c.args.place c.index-self-place.result ≡ c.args.asn = eqb-true (slice_index_or rows c.args.place c.index-self-place.result) c.args.asn (sym c.eq.ensures ∙ c.if-eq.true) in
    sym (get_or-map option_copied held c.args.place c.index-self-place-then-eq.result (of_rows c.args.asn) within)
    ∙ ap (λ xs. slice_index_or xs c.args.place (of_rows c.args.asn)) same
    ∙ get_or-map of_rows rows c.args.place c.index-self-place.result (of_rows c.args.asn) c.if-place-self.true
    ∙ ap of_rows here
