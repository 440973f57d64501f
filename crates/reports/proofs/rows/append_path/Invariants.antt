use Rattle.std.proofs.Common.{◌≡◌, ◌<◌, ◌++◌, length, drop}
use Rattle.path_pool.specs.Pool.{IsLive, list_of}
use Rattle.reports.specs.Growth.{Grows}
use Rattle.net_names.specs.Texts.{numbers_text}
use Rattle.reports.specs.Rows.{more_numbers}
use Rattle.reports.proofs.rows.append_path.Given as goal

abbrev pub invariant-cells : goal.invariant-cells
invariant-cells l = record {
  grows : Grows l.fn.out.items l.out.items;
  live : IsLive l.pool l.at.0;
  some : 0 < l.left;
  left : length (list_of l.pool l.at.0) ≡ l.left;
  told : l.out.items ++ more_numbers (drop 1 (list_of l.pool l.at.0)) ≡ l.fn.out.items ++ numbers_text (list_of l.pool l.fn.path.0);
}

abbrev pub decreases-cells : goal.decreases-cells
decreases-cells l = l.left
