use Rattle.std.proofs.Common.{◌≡◌, ℕ, ◌+◌, ◌<◌, ◌≤◌, Some, length, take}
use Rattle.std.specs.Prelude.{slice_get}
use Rattle.std.specs.List.{sum_by}
use Rattle.net_names.specs.Prefixes.{PrefixValue}
use Rattle.path_pool.specs.Pool.{live_count, limit_of}
use Rattle.stability_laws.specs.Plans.{prefixes_of, announcers_of}
use Rattle.leak_round.specs.Limits.{announced_length, announced_count}
use Rattle.leak_round.specs.Announced.{IsAnnouncing, HasAnnounced}
use Rattle.leak_round.proofs.announced.announce_all.Given as goal

abbrev pub invariant-prefixes : goal.invariant-prefixes
invariant-prefixes l = record {
  so_far : IsAnnouncing l.pool l.plan l.announced.items;
  put : (i : ℕ) (p : PrefixValue) → i < l.prefix-index → slice_get (prefixes_of l.plan) i ≡ Some p → (a : ℕ) → HasAnnounced l.plan l.announced.items p a;
  few : length l.announced.items ≤ sum_by (λ p. sum_by (announced_count l.plan p) (announcers_of l.plan)) (take l.prefix-index (prefixes_of l.plan));
  cells : live_count l.pool ≤ live_count l.fn.pool + sum_by (λ p. sum_by (announced_length l.plan p) (announcers_of l.plan)) (take l.prefix-index (prefixes_of l.plan));
  limit : limit_of l.pool ≡ limit_of l.fn.pool;
}
