use Rattle.std.proofs.Common.{◌≡◌, ℕ, ◌+◌, ◌<◌, ◌≤◌, Some, length, take}
use Rattle.std.specs.Prelude.{slice_get}
use Rattle.std.specs.List.{sum_by}
use Rattle.path_pool.specs.Pool.{live_count, limit_of}
use Rattle.stability_laws.specs.Plans.{announcers_of}
use Rattle.leak_round.specs.Limits.{announced_length, announced_count}
use Rattle.leak_round.specs.Announced.{IsAnnouncing, KeepsAnnounced, HasAnnounced}
use Rattle.leak_round.proofs.announced.announce_prefix.Given as goal

abbrev pub invariant-announcers : goal.invariant-announcers
invariant-announcers l = record {
  so_far : IsAnnouncing l.pool l.plan l.announced.items;
  more : KeepsAnnounced l.fn.announced.items l.announced.items;
  put : (i a : ℕ) → i < l.asn-index → slice_get (announcers_of l.plan) i ≡ Some a → HasAnnounced l.plan l.announced.items l.prefix a;
  few : length l.announced.items ≤ length l.fn.announced.items + sum_by (announced_count l.plan l.prefix) (take l.asn-index (announcers_of l.plan));
  cells : live_count l.pool ≤ live_count l.fn.pool + sum_by (announced_length l.plan l.prefix) (take l.asn-index (announcers_of l.plan));
  limit : limit_of l.pool ≡ limit_of l.fn.pool;
}
