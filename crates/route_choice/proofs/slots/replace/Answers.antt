use Rattle.std.proofs.Common.{arith, ap}
use Rattle.route_choice.specs.Slots.{use_of}
use Rattle.route_choice.proofs.Uses.{use_of-le}
use Rattle.route_choice.proofs.slots.replace.Goals as goal

pub let_go-requires : goal.let_go-requires
let_go-requires c = λ k. omega (arith, ap (use_of k) c.exchange_near-old.ensures.old, use_of-le c.args.slots.now c.args.asn k, c.requires.held k)
