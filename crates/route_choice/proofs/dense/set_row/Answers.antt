use Rattle.std.proofs.Common.{ap, sym, ◌∙◌, arith}
use Rattle.std.proofs.lemmas.Bool.{ne_eqb}
use Rattle.as_places.specs.Places.{place_of}
use Rattle.route_choice.specs.Dense.{marked_or}
use Rattle.route_choice.proofs.DenseLemmas.{mark_this, mark_other, place_within}
use Rattle.route_choice.proofs.dense.set_row.Goals as goal

pub index_mut-requires : goal.index_mut-requires
index_mut-requires c = omega (arith, place_within c.args.ases.now.ases c.args.asn c.in-Some.place (sym c.place_near.ensures ∙ c.in-Some.is), c.requires.marks)

pub returns-in-Some-clause-this : goal.returns-in-Some-clause-this
returns-in-Some-clause-this c = mark_this c.args.ases.now.ases c.args.marks.now.items c.args.asn c.in-Some.place c.args.row (sym c.place_near.ensures ∙ c.in-Some.is) c.requires.marks _

pub returns-in-Some-clause-others : goal.returns-in-Some-clause-others
returns-in-Some-clause-others c = λ a ne.
    mark_other c.args.ases.now.ases c.args.marks.now.items c.args.asn c.in-Some.place c.args.row (sym c.place_near.ensures ∙ c.in-Some.is) c.requires.marks _ a ne

pub returns-in-Ok-clause-others : goal.returns-in-Ok-clause-others
returns-in-Ok-clause-others c = λ a ne.
    ap (λ late. marked_or late c.args.marks.now.items (place_of c.args.ases.now.ases a)) (c.in-Ok.ensures.updates.2 a (ne_eqb c.args.asn a (λ e. ne (sym e))))
