use Rattle.std.proofs.Common.{◌+◌, rules, nat_eq, ap, sym, ◌∙◌}
use Rattle.std.specs.List.{sum_by}
use Rattle.std.specs.Map.{values_of}
use Rattle.std.proofs.lemmas.Bool.{ne_eqb}
use Rattle.std.proofs.lemmas.Map.Entries.{sum_by-set_value}
use Rattle.route_choice.specs.Slots.{use_of}
use Rattle.route_choice.proofs.few.exchange_in.Goals as goal

pub returns-in-Some-clause-others : goal.returns-in-Some-clause-others
returns-in-Some-clause-others c = λ a ne. ((c.get_mut.follows.holds c.args.entry).3 (search rules)).2 a (ne_eqb c.args.asn a (λ e. ne (sym e)))

pub returns-in-Some-clause-uses : goal.returns-in-Some-clause-uses
returns-in-Some-clause-uses c = λ k.
    ap (λ es. sum_by (use_of k) (values_of es) + use_of k c.in-Some.place.now) (c.get_mut.follows.holds c.args.entry).0
    ∙ sum_by-set_value (use_of k) (nat_eq c.args.asn) c.args.slots.now.entries c.in-Some.place.now c.args.entry (sym c.in-Some.ensures.value)
