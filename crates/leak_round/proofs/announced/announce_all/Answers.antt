use Rattle.std.proofs.Common.{◌≡◌, ℕ, ◌+◌, ◌≤◌, Some, List, length, refl, subst, ◌∙◌, arith}
use Rattle.std.specs.Prelude.{slice_get, IsTrue}
use Rattle.std.proofs.lemmas.Option.{slice_get_past, slice_get_read}
use Rattle.std.specs.List.{sum_by}
use Rattle.std.proofs.lemmas.List.Sums.{sum_by-take-le}
use Rattle.net_names.specs.Orders.{prefix_total, exact_prefix}
use Rattle.net_names.specs.Prefixes.{PrefixValue, prefix_cmp}
use Rattle.stability_laws.specs.Plans.{has_prefix, prefixes_of, announcers_of}
use Rattle.stability_laws.proofs.KeyLists.{keys_listed, seen_before_end}
use Rattle.leak_round.specs.Limits.{announced_length, announced_count}
use Rattle.leak_round.specs.Announced.{HasAnnounced}
use Rattle.stability_laws.proofs.Listing.{at_next}
use Rattle.leak_round.proofs.Listing.{sum_next}
use Rattle.leak_round.proofs.Numbers.{announcements_counted, numbers_counted}
use Rattle.leak_round.proofs.announced.announce_all.Goals as goal

pub announce_prefix-requires-clause-room : goal.announce_prefix-requires-clause-room
announce_prefix-requires-clause-room c =
    let plan = c.args.plan.now in
    let f = λ (q : PrefixValue). sum_by (announced_length plan q) (announcers_of plan) in
    let i = c.prefixes.prefix-index in
    let x = c.prefix-item.result in
    let items : List PrefixValue = c.prefixes-prefix-items.result.now in
    let at : slice_get (prefixes_of plan) i ≡ Some x = subst (λ (ys : List PrefixValue). slice_get ys i ≡ Some x) c.prefixes-prefix-items.ensures (slice_get_read items (length items) i x refl c.prefixes-test.true c.prefix-item.is) in
    let old = c.prefixes.invariant in
    omega (arith, c.requires.room, old.cells, old.limit, sum_next f (prefixes_of plan) i x at, sum_by-take-le f (prefixes_of plan) (i + 1), numbers_counted plan)

pub prefixes-preserved : goal.prefixes-preserved
prefixes-preserved c =
    let plan = c.args.plan.now in
    let i = c.prefixes.prefix-index in
    let x = c.prefix-item.result in
    let at : slice_get (prefixes_of plan) i ≡ Some x = subst (λ (ys : List PrefixValue). slice_get ys i ≡ Some x) c.prefixes-prefix-items.ensures (slice_get_read c.prefixes-prefix-items.result.now (length c.prefixes-prefix-items.result.now) i x refl c.prefixes-test.true c.prefix-item.is) in
    let now = c.in_ok-announce_prefix.ensures in
    record {
      so_far = now.more.so_far;
      put = at_next (prefixes_of plan) i x (λ q. (a : ℕ) → HasAnnounced plan c.announce_prefix.new.announced.items q a) at now.whole (λ j q less is a h. now.more.kept q a (c.prefixes.invariant.put j q less is a h));
      few = omega (arith, sum_next (λ (q : PrefixValue). sum_by (announced_count plan q) (announcers_of plan)) (prefixes_of plan) i x at, now.few, c.prefixes.invariant.few);
      cells = omega (arith, sum_next (λ (q : PrefixValue). sum_by (announced_length plan q) (announcers_of plan)) (prefixes_of plan) i x at, now.cells, c.prefixes.invariant.cells);
      limit = now.limit ∙ c.prefixes.invariant.limit;
    }

pub returns-clause-whole : goal.returns-clause-whole
returns-clause-whole c = λ prefix a there.
    let xs : List PrefixValue = prefixes_of c.args.plan.now in
    let end = c.prefixes.prefix-index in
    let past : length xs ≤ end = subst (λ (ys : List PrefixValue). length ys ≤ end) c.prefixes-prefix-items.ensures c.prefixes-test.false in
    let (i, less, at) = seen_before_end prefix_cmp (λ p. IsTrue (has_prefix c.args.plan.now p)) xs (keys_listed prefix_total exact_prefix c.args.plan.now.prefixes) end (slice_get_past xs end past) prefix there in
    c.prefixes.invariant.put i prefix less at a

pub returns-clause-few : goal.returns-clause-few
returns-clause-few c =
    let plan = c.args.plan.now in
    let most = sum_by-take-le (λ (p : PrefixValue). sum_by (announced_count plan p) (announcers_of plan)) (prefixes_of plan) c.prefixes.prefix-index in
    omega (arith, c.prefixes.invariant.few, most, announcements_counted plan)

pub returns-clause-cells : goal.returns-clause-cells
returns-clause-cells c =
    omega (arith, c.prefixes.invariant.cells, sum_by-take-le (λ (p : PrefixValue). sum_by (announced_length c.args.plan.now p) (announcers_of c.args.plan.now)) (prefixes_of c.args.plan.now) c.prefixes.prefix-index)
