use Rattle.std.proofs.Common.{◌≡◌, ℕ, Some, List, length, refl, sym, ap, subst, ◌∙◌, ◌≤◌, arith}
use Rattle.std.specs.Prelude.{slice_get}
use Rattle.std.specs.Ordering.{nat_cmp}
use Rattle.std.specs.Cmp.{nat_cmp_total}
use Rattle.std.specs.FinMap as map
use Rattle.std.proofs.lemmas.Option.{slice_get_past}
use Rattle.stability_laws.specs.Plans.{announcers_of, IsAnnouncer}
use Rattle.stability_laws.specs.Seeding.{announced_seed}
use Rattle.stability_laws.proofs.KeyLists.{seen_before_end, apart_later}
use Rattle.stability_laws.proofs.Listing.{at_next, found_at}
use Rattle.stability_laws.proofs.PlanListings.{announcers_listed}
use Rattle.stability_laws.proofs.RoundSeeds.{all_announced}
use Rattle.stability_laws.proofs.round_seeds.announce_all.Goals as goal

pub announcers-init : goal.announcers-init
announcers-init c = record {
  sound = λ a h. ap (λ m. map.get m a) c.new-seeds.ensures ∙ map.get-empty nat_cmp a;
  put = λ i a less is. absurd (omega arith);
}

pub announce-requires : goal.announce-requires
announce-requires c =
    let xs = announcers_of c.args.plan.now in
    let at : slice_get xs c.announcers.asn-index ≡ Some c.asn-item.result = found_at c.announcers-asn-items.result.now xs c.announcers.asn-index c.asn-item.result c.announcers-asn-items.ensures c.announcers-test.true c.asn-item.is in
    c.announcers.invariant.sound c.asn-item.result (λ j less is. apart_later nat_cmp nat_cmp_total (IsAnnouncer c.args.plan.now) xs (announcers_listed c.args.plan.now) j c.announcers.asn-index c.asn-item.result c.asn-item.result less is at refl)

pub announcers-preserved : goal.announcers-preserved
announcers-preserved c =
    let plan = c.args.plan.now in
    let xs = announcers_of plan in
    let i = c.announcers.asn-index in
    let x = c.asn-item.result in
    let at : slice_get xs i ≡ Some x = found_at c.announcers-asn-items.result.now xs i x c.announcers-asn-items.ensures c.announcers-test.true c.asn-item.is in
    let old = c.announcers.invariant in
    let now = c.in_ok-announce.ensures in
    record {
      sound = λ a h. now.others a (λ same. h i (omega arith) (at ∙ ap (λ n. Some n) (sym same))) ∙ old.sound a (λ j less is. h j (omega arith) is);
      put = at_next xs i x (λ a. map.get c.announce.new.seeds a ≡ announced_seed plan c.args.prefix a) at now.this (λ j a less is.
          now.others a (apart_later nat_cmp nat_cmp_total (IsAnnouncer plan) xs (announcers_listed plan) j i a x less is at) ∙ old.put j a less is);
    }

pub returns : goal.returns
returns c = λ a.
    let plan = c.args.plan.now in
    let xs = announcers_of plan in
    let end = c.announcers.asn-index in
    let past : length xs ≤ end = subst (λ (ys : List ℕ). length ys ≤ end) c.announcers-asn-items.ensures c.announcers-test.false in
    all_announced plan (announcers_listed plan) c.args.prefix a (map.get c.announcers.seeds a) end
    (seen_before_end nat_cmp (IsAnnouncer plan) xs (announcers_listed plan) end (slice_get_past xs end past) a)
    (c.announcers.invariant.sound a) (λ j. c.announcers.invariant.put j a)
