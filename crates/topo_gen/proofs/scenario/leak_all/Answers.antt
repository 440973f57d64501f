use Rattle.std.proofs.Common.{◌∙◌, [], ◌∷◌, ◌++◌, ap}
use Rattle.topo_gen.proofs.scenario.leak_all.Goals as goal

pub ases-init : goal.ases-init
ases-init c = c.in_ok-new_round.ensures.ok ∙ ap (λ xs. record c.args.scenario.now { leaks = xs ++ [] ∷ [] }) c.requires.none
