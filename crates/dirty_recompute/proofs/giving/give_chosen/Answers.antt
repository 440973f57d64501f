use Rattle.std.proofs.Common.{ℕ, Option, inr, rules}
use Rattle.std.specs.Prelude.{IsSome}
use Rattle.policy_laws.specs.Policy.{Policy}
use Rattle.stability_laws.specs.declared.entry.Entry.{Entry}
use Rattle.stability_laws.specs.Book.{policy_at}
use Rattle.route_choice.specs.Choices.{named_by}
use Rattle.route_choice.specs.PrefixWorlds.{named_at}
use Rattle.route_choice.specs.Routings.{routing_of, seeds_of}
use Rattle.dirty_recompute.specs.Giving.{IsGiven}
use Rattle.dirty_recompute.specs.Resources.{IsKept}
use Rattle.dirty_recompute.proofs.RoomLemmas.{given_after, given_already, kept_after, same_named, still_nameable}
use Rattle.dirty_recompute.proofs.giving.give_chosen.Given as given
use Rattle.dirty_recompute.proofs.giving.give_chosen.Goals as goal

pub returns-then-is_held_by_offer-clause-given : goal.returns-then-is_held_by_offer-clause-given
returns-then-is_held_by_offer-clause-given g c =
    let p = c.args.pool.now in
    let f = routing_of p c.args.at.now.table.now c.args.overlay.now in
    let seed = seeds_of p c.args.at.now.seeds.now c.args.asn in
    given_already p c.args.at.now.table.now c.args.overlay.now c.args.asn (named_by (λ n. g.P.RoutePolicy.meaning (policy_at c.args.at.now.book.now n)) seed f c.args.asn c.args.chosen.choice) (c.is_held_by_offer.ensures c.if-is_held_by_offer.true seed)

pub returns-in_err-make_room-in-Seed-clause-kept : goal.returns-in_err-make_room-in-Seed-clause-kept
returns-in_err-make_room-in-Seed-clause-kept g c = c.make_room.ensures.kept c.args.at.now.seeds.now c.requires.can.seeds_live

pub settle_near-requires-clause-choice : goal.settle_near-requires-clause-choice
settle_near-requires-clause-choice g c =
    still_nameable c.args.at.now.seeds.now c.args.at.now.table.now c.args.overlay.now c.make_room.new.overlay c.args.asn c.args.chosen.choice (c.make_room.ensures.same c.args.at.now.table.now c.requires.can.held).changes c.requires.choice

pub settle_near-requires-clause-pool : goal.settle_near-requires-clause-pool
settle_near-requires-clause-pool g c = (c.in_ok-make_room-in-Seed.ensures.can c.args.at.now.seeds.now c.args.at.now.table.now c.requires.can).changes

pub settle_near-requires-clause-room : goal.settle_near-requires-clause-room
settle_near-requires-clause-room g c = inr (c.in_ok-make_room-in-Seed.ensures.can c.args.at.now.seeds.now c.args.at.now.table.now c.requires.can).room

-- what the step left
both : (g : given.Over) (c : goal.After-settle_near g) → IsGiven c.args.pool.now c.settle_near.new.pool c.args.at.now.table.now c.args.overlay.now c.settle_near.new.overlay c.args.asn (named_at g.P.RoutePolicy.meaning c.args.at.now c.args.pool.now c.args.overlay.now c.args.asn c.args.chosen.choice) c.settle_near.result
    × IsKept c.args.pool.now c.settle_near.new.pool c.args.at.now.seeds.now c.args.overlay.now c.settle_near.new.overlay
both g c =
    let p = c.args.pool.now in let q = c.make_room.new.pool in let r = c.settle_near.new.pool in
    let x = c.args.overlay.now in let y = c.make_room.new.overlay in let z = c.settle_near.new.overlay in
    let seeds = c.args.at.now.seeds.now in let t = c.args.at.now.table.now in let a = c.args.asn in
    let policy : ℕ → Policy = λ n. g.P.RoutePolicy.meaning (policy_at c.args.at.now.book.now n) in
    let new : Option Entry = named_at g.P.RoutePolicy.meaning c.args.at.now p x a c.args.chosen.choice in
    let some : IsSome new = search rules in
    let same = c.make_room.ensures.same t c.requires.can.held in
    let kept = c.make_room.ensures.kept seeds c.requires.can.seeds_live in
    let paths = c.make_room.ensures.paths in
    let done = c.settle_near.ensures in
    let at = same_named p q r seeds t x y z a same paths kept policy c.args.chosen.choice done.named in (
      given_after p q r seeds t x y z a same paths kept new c.settle_near.result some at done.others done.changed done.unchanged done.put done.spent,
      kept_after p q r seeds t x y z a same paths kept new c.requires.kept at done.spent done.kept,
    )

pub returns-in_ok-make_room-in-Seed-clause-given : goal.returns-in_ok-make_room-in-Seed-clause-given
returns-in_ok-make_room-in-Seed-clause-given g c = (both g c).0

pub returns-in_ok-make_room-in-Seed-clause-kept : goal.returns-in_ok-make_room-in-Seed-clause-kept
returns-in_ok-make_room-in-Seed-clause-kept g c = (both g c).1
