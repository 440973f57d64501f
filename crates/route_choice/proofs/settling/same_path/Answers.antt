use Rattle.std.proofs.Common.{◌≡◌, ap, sym, ◌∙◌, not, get_or, ℕ, List}
use Rattle.std.proofs.lemmas.Bool.{eq-eqb, both_ways}
use Rattle.path_pool.specs.Pool.{list_of}
use Rattle.route_choice.proofs.settling.same_path.Goals as goal

pub returns-then-ne : goal.returns-then-ne
returns-then-ne c = (
  λ t. cc,
  λ e.
      let lists : list_of c.args.pool.now c.cells.x.0 ≡ list_of c.args.pool.now c.cells.y.0 = c.cells.invariant.same.1 e in
      let heads : c.head.result ≡ c.head-in-cells.result = c.head.ensures.first ∙ ap (λ (ys : List ℕ). get_or ys 0 0) lists ∙ sym c.head-in-cells.ensures.first in
      absurd (both_ways c.ne-in-cells.result (c.ne-in-cells.ensures ∙ ap not (eq-eqb c.head.result c.head-in-cells.result heads)) c.if-ne.true),
)
