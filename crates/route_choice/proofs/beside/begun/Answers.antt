use Rattle.std.proofs.Common.{◌++◌, ◌∷◌, [], ap, sym, ◌∙◌}
use Rattle.route_choice.specs.Few.{few_entries}
use Rattle.stability_laws.proofs.Listing.{take_next}
use Rattle.route_choice.proofs.beside.begun.Goals as goal

pub loop-index-preserved : goal.loop-index-preserved
loop-index-preserved c =
    c.push.ensures.entries
    ∙ ap (λ l. l ++ c.in-Some.pair ∷ []) (c.in_ok-reserve.ensures.same ∙ c.loop-index.invariant)
    ∙ sym (take_next (few_entries c.args.few.now) c.loop-index.index c.in-Some.pair (sym c.in-Some.ensures))
