use Rattle.std.proofs.Common.{ap, sym, ◌∙◌, subst, take}
use Rattle.std.proofs.lemmas.List.{take_rest}
use Rattle.net_names.specs.Orders.{vrp_total, exact_vrp}
use Rattle.roa_table.specs.Lists.{IsRising, is_to, CutsAt}
use Rattle.roa_table.proofs.Rising.{rising_drop}
use Rattle.roa_table.proofs.Placed.{row_between}
use Rattle.roa_table.proofs.row.row.Goals as goal

pub count_to-requires : goal.count_to-requires
count_to-requires c = subst IsRising (sym (take_rest c.args.vrps.now c.count_below.result)) (rising_drop vrp_total exact_vrp c.count_below.result c.args.vrps.now c.requires)

pub returns : goal.returns
returns c =
    let rest = take_rest c.args.vrps.now c.count_below.result in
    ap (take c.count_to.result) rest
    ∙ sym (row_between c.args.prefix c.args.vrps.now c.count_below.result c.count_to.result c.count_below.ensures
    (subst (λ l. CutsAt (is_to c.args.prefix) l c.count_to.result) rest c.count_to.ensures))
