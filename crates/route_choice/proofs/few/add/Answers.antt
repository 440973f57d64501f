use Rattle.std.proofs.Common.{◌∷◌, [], nat_eq, ap, sym, ◌∙◌}
use Rattle.std.proofs.lemmas.Bool.{ne_eqb}
use Rattle.std.proofs.lemmas.List.{map-append}
use Rattle.std.proofs.lemmas.List.Sums.{sum_by_push}
use Rattle.std.specs.List.{sum_by}
use Rattle.std.specs.Map.{keys_of, values_of}
use Rattle.indexmap.proofs.CallerLemmas.{insert_entry-new}
use Rattle.route_choice.specs.Slots.{use_of}
use Rattle.route_choice.proofs.few.add.Goals as goal

pub returns-clause-others : goal.returns-clause-others
returns-clause-others c = λ a ne. c.in-Ok.ensures.updates.2 a (ne_eqb c.args.asn a (λ e. ne (sym e)))

pub returns-clause-uses : goal.returns-clause-uses
returns-clause-uses c = λ k.
    ap (λ es. sum_by (use_of k) (values_of es)) (c.in-Ok.ensures.entries ∙ insert_entry-new nat_eq c.args.slots.now c.args.asn c.args.entry c.requires.absent)
    ∙ ap (sum_by (use_of k)) (map-append _ c.args.slots.now.entries ((c.args.asn, c.args.entry) ∷ []))
    ∙ sum_by_push (use_of k) (values_of c.args.slots.now.entries) c.args.entry

pub returns-clause-new_place : goal.returns-clause-new_place
returns-clause-new_place c =
    ap keys_of (c.in-Ok.ensures.entries ∙ insert_entry-new nat_eq c.args.slots.now c.args.asn c.args.entry c.requires.absent)
    ∙ map-append _ c.args.slots.now.entries ((c.args.asn, c.args.entry) ∷ [])
