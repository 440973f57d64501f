use Rattle.std.proofs.Common.{◌≡◌, ℕ, ◌+◌, ◌≤◌, Some, List, length, refl, subst, ◌∙◌, arith}
use Rattle.std.specs.Prelude.{slice_get}
use Rattle.std.specs.Ordering.{nat_cmp}
use Rattle.std.proofs.lemmas.List.Sums.{sum_by-take-le}
use Rattle.std.proofs.lemmas.Option.{slice_get_past, slice_get_read}
use Rattle.stability_laws.specs.Plans.{announced_path, announcers_of, IsAnnouncer}
use Rattle.stability_laws.proofs.KeyLists.{seen_before_end}
use Rattle.stability_laws.proofs.Listing.{at_next}
use Rattle.stability_laws.proofs.PlanListings.{announcers_listed}
use Rattle.leak_round.specs.Limits.{announced_length, announced_count}
use Rattle.leak_round.specs.Announced.{HasAnnounced}
use Rattle.leak_round.proofs.Listing.{sum_next, some_of}
use Rattle.leak_round.proofs.announced.announce_prefix.Goals as goal

pub announce-requires-clause-room : goal.announce-requires-clause-room
announce-requires-clause-room c =
    let plan = c.args.plan.now in
    let xs = announcers_of plan in
    let f = announced_length plan c.args.prefix in
    let i = c.announcers.asn-index in
    let x = c.asn-item.result in
    let items : List ℕ = c.announcers-asn-items.result.now in
    let at : slice_get xs i ≡ Some x = subst (λ (ys : List ℕ). slice_get ys i ≡ Some x) c.announcers-asn-items.ensures (slice_get_read items (length items) i x refl c.announcers-test.true c.asn-item.is) in
    let old = c.announcers.invariant in
    omega (arith, c.requires.room, old.cells, old.limit, sum_next f xs i x at, sum_by-take-le f xs (i + 1))

pub announcers-preserved : goal.announcers-preserved
announcers-preserved c =
    let plan = c.args.plan.now in
    let prefix = c.args.prefix in
    let i = c.announcers.asn-index in
    let x = c.asn-item.result in
    let items : List ℕ = c.announcers-asn-items.result.now in
    let at : slice_get (announcers_of plan) i ≡ Some x = subst (λ (ys : List ℕ). slice_get ys i ≡ Some x) c.announcers-asn-items.ensures (slice_get_read items (length items) i x refl c.announcers-test.true c.asn-item.is) in
    let old = c.announcers.invariant in
    let now = c.in_ok-announce.ensures in
    record {
      so_far = now.more.so_far;
      more = λ p b h. now.more.kept p b (old.more p b h);
      put = at_next (announcers_of plan) i x (HasAnnounced plan c.announce.new.announced.items prefix) at now.this (λ j b less is h. now.more.kept prefix b (old.put j b less is h));
      few = omega (arith, sum_next (announced_count plan prefix) (announcers_of plan) i x at, now.few, old.few);
      cells = omega (arith, sum_next (announced_length plan prefix) (announcers_of plan) i x at, now.cells, old.cells);
      limit = now.limit ∙ old.limit;
    }

pub returns-clause-more : goal.returns-clause-more
returns-clause-more c = record { so_far = c.announcers.invariant.so_far; kept = c.announcers.invariant.more }

pub returns-clause-whole : goal.returns-clause-whole
returns-clause-whole c = λ a h.
    let plan = c.args.plan.now in
    let end = c.announcers.asn-index in
    let past : length (announcers_of plan) ≤ end = subst (λ (ys : List ℕ). length ys ≤ end) c.announcers-asn-items.ensures c.announcers-test.false in
    let (path, is) = some_of (announced_path plan c.args.prefix a) h in
    let (i, less, at) = seen_before_end nat_cmp (IsAnnouncer plan) (announcers_of plan) (announcers_listed plan) end (slice_get_past (announcers_of plan) end past) a (record { prefix = c.args.prefix; path = path; announced = is }) in
    c.announcers.invariant.put i a less at h

pub returns-clause-few : goal.returns-clause-few
returns-clause-few c = omega (arith, c.announcers.invariant.few, sum_by-take-le (announced_count c.args.plan.now c.args.prefix) (announcers_of c.args.plan.now) c.announcers.asn-index)

pub returns-clause-cells : goal.returns-clause-cells
returns-clause-cells c = omega (arith, c.announcers.invariant.cells, sum_by-take-le (announced_length c.args.plan.now c.args.prefix) (announcers_of c.args.plan.now) c.announcers.asn-index)
