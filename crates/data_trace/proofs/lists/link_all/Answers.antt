use Rattle.std.proofs.Common.{◌≡◌, ◌+◌, ◌-◌, suc, ℕ, length, subst, arith}
use Rattle.std.specs.List.{range_with_len}
use Rattle.data_trace.specs.Lists.{HasLists}
use Rattle.data_trace.proofs.Building.{no_lists, range_apart}
use Rattle.data_trace.proofs.lists.link_all.Goals as goal

pub places-init : goal.places-init
places-init c =
    let e : length c.args.hops.now ≡ length c.args.hops.now - 0 = omega arith in
    subst (λ k. HasLists c.args.hops.now (range_with_len 0 k) c.args.first.now c.args.before.now c.args.after.now) e
    (no_lists c.args.hops.now c.args.first.now c.args.before.now c.args.after.now c.requires.first c.requires.before c.requires.after)

pub places-preserved : goal.places-preserved
places-preserved c =
    let n : ℕ = length c.args.hops.now in
    let i : ℕ = c.places.place in
    let e : n - i ≡ suc (n - (i + 1)) = omega (arith, c.places-test.true) in
    c.join.ensures (range_with_len (i + 1) (n - (i + 1))) (subst (λ k. HasLists c.args.hops.now (range_with_len i k) c.places.first c.places.before c.places.after) e c.places.invariant)
    (range_apart (i + 1) (n - (i + 1)) i (omega arith))

pub returns : goal.returns
returns c =
    let e : length c.args.hops.now - c.places.place ≡ 0 = omega (arith, c.places-test.false) in
    subst (λ k. HasLists c.args.hops.now (range_with_len c.places.place k) c.places.first c.places.before c.places.after) e c.places.invariant
