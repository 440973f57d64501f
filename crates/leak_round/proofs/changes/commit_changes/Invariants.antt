use Rattle.std.proofs.Common.{◌≡◌, ℕ, ◌+◌, ◌≤◌, Option, length}
use Rattle.std.specs.Prelude.{IsTrue}
use Rattle.net_names.specs.Prefixes.{PrefixValue, prefix_cmp}
use Rattle.path_pool.specs.Pool.{holds_of}
use Rattle.stability_laws.specs.declared.entry.Entry.{Entry}
use Rattle.stability_laws.specs.Plans.{Plan, ListsRising, has_prefix, prefixes_of}
use Rattle.route_choice.specs.Holds.{GivesBack}
use Rattle.leak_round.specs.Tables.{entry_uses}
use Rattle.leak_round.specs.Overlays.{changes_uses, AreChangesOf, AreFew, IsLaid}
use Rattle.leak_round.proofs.changes.commit_changes.Given as goal

abbrev pub invariant-changes : goal.invariant-changes
invariant-changes l = record {
  changes : AreChangesOf l.tables.items l.left.items;
  held : (k : ℕ) → entry_uses l.tables.items k + changes_uses l.left.items k ≤ holds_of l.pool k;
  laid : (plan : Plan) (routings : ℕ → PrefixValue → ℕ → Option Entry) (others : ℕ → ℕ) → ListsRising prefix_cmp (λ p. IsTrue (has_prefix plan p)) (prefixes_of plan) → ((round : ℕ) (prefix : PrefixValue) → AreFew (routings round prefix))
      → IsLaid plan routings others l.fn.pool l.fn.tables.items l.fn.changes.items → IsLaid plan routings others l.pool l.tables.items l.left.items;
  count : length l.tables.items ≡ length l.fn.tables.items;
  back : GivesBack l.fn.pool l.pool;
}

abbrev pub decreases-changes : goal.decreases-changes
decreases-changes l = length l.left.items
