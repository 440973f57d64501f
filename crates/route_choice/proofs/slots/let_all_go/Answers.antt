use Rattle.std.proofs.Common.{arith, sym, ◌+◌}
use Rattle.route_choice.proofs.Uses.{uses_before-more, uses_before-le, back_more}
use Rattle.route_choice.proofs.slots.let_all_go.Goals as goal

pub let_go-requires : goal.let_go-requires
let_go-requires c = λ k.
    omega (
      arith,
      c.loop-place.invariant.holds k,
      c.requires k,
      uses_before-le c.args.slots.now (c.loop-place.place + 1) k,
      uses_before-more c.args.slots.now c.loop-place.place c.in-Some.pair.0 k c.in-Some.pair.1 (sym c.in-Some.ensures.entry),
    )

pub loop-place-preserved : goal.loop-place-preserved
loop-place-preserved c = record {
  holds = λ k. omega (
    arith,
    c.loop-place.invariant.holds k,
    c.let_go.ensures.holds k,
    uses_before-more c.args.slots.now c.loop-place.place c.in-Some.pair.0 k c.in-Some.pair.1 (sym c.in-Some.ensures.entry),
  );
  back = back_more c.args.pool.now c.loop-place.pool c.let_go.new.pool c.loop-place.invariant.back c.let_go.ensures.back;
}
