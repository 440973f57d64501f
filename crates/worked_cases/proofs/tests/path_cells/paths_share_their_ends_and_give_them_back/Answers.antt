use Rattle.std.proofs.Common.{arith, sym}
use Rattle.path_pool.proofs.Needed.{kept_apart}
use Rattle.worked_cases.proofs.tests.path_cells.paths_share_their_ends_and_give_them_back.Goals as goal

pub release-requires : goal.release-requires
release-requires g c =
    let over = kept_apart _ _ _ _ c.cons-b.ensures.made c.cons-a.result.0 c.cons-a.ensures.made.live in
    let beside = kept_apart _ _ _ _ c.cons-c.ensures.made c.cons-a.result.0 (c.cons-b.ensures.made.stays_live c.cons-a.result.0 c.cons-a.ensures.made.live) in
    omega (arith, c.cons-a.ensures.made.one_hold, over.1, beside.1)

pub release-requires-2 : goal.release-requires-2
release-requires-2 g c =
    let over = kept_apart _ _ _ _ c.cons-b.ensures.made c.cons-a.result.0 c.cons-a.ensures.made.live in
    let beside = kept_apart _ _ _ _ c.cons-c.ensures.made c.cons-b.result.0 c.cons-b.ensures.made.live in
    omega (
      arith,
      c.cons-b.ensures.made.one_hold,
      beside.1,
      c.release.ensures.released.other_holds c.cons-b.result.0 (λ e. over.0 (sym e)),
    )

pub release-requires-3 : goal.release-requires-3
release-requires-3 g c =
    let beside_a = kept_apart _ _ _ _ c.cons-c.ensures.made c.cons-a.result.0 (c.cons-b.ensures.made.stays_live c.cons-a.result.0 c.cons-a.ensures.made.live) in
    let beside_b = kept_apart _ _ _ _ c.cons-c.ensures.made c.cons-b.result.0 c.cons-b.ensures.made.live in
    omega (
      arith,
      c.cons-c.ensures.made.one_hold,
      c.release.ensures.released.other_holds c.cons-c.result.0 (λ e. beside_a.0 (sym e)),
      c.release-2.ensures.released.other_holds c.cons-c.result.0 (λ e. beside_b.0 (sym e)),
    )
