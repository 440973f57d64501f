use Rattle.std.proofs.Common.{◌≡◌, take}
use Rattle.std.specs.BTreeSet.{contains}
use Rattle.std.specs.List.{list_any}
use Rattle.std.specs.Ordering.{eq_by_cmp}
use Rattle.scenario_text.specs.Twice.{once_in}
use Rattle.scenario_text.proofs.Repeats.{rest_once}
use Rattle.scenario_text.proofs.twice.items_once.Given as goal

abbrev pub invariant-loop-i : goal.invariant-loop-i
invariant-loop-i g l = record {
  so_far : rest_once g.K.Ord.cmp l.fn.place l.keys l.i ≡ once_in g.K.Ord.cmp l.fn.place l.keys;
  seen : (q : g.row.K.Denot) → contains g.K.Ord.cmp l.seen q ≡ list_any (eq_by_cmp g.K.Ord.cmp q) (take l.i l.keys);
}
