use Rattle.std.proofs.Common.{◌-◌, ◌<◌, length, sym, ap, subst, ◌∙◌, arith}
use Rattle.std.specs.Prelude.{option_and_then, slice_get}
use Rattle.leak_round.specs.Rounds.{kept, plan_of, round_count}
use Rattle.policy_kinds.specs.Kinds.{label}
use Rattle.data_trace.specs.Hops.{next_hop}
use Rattle.sim_core.specs.Views.{world_seen}
use Rattle.sim_core.specs.World.{kind_at, topology}
use Rattle.sim_core.specs.Watching.{HasRows, end_at, place_in, rows_in}
use Rattle.sim_core.specs.declared.watching.RoundWatches.{RoundWatches}
use Rattle.sim_core.proofs.Renewals.{read_at}
use Rattle.sim_core.proofs.Watches.{round_within, watches_len}
use Rattle.sim_core.proofs.sim.Sim.watch_at.Goals as goal

pub index-requires-2 : goal.index-requires-2
index-requires-2 c =
    let s = c.args.self.now.parts in
    let one = c.index.result.now in
    let within = round_within (round_count s.rounds) c.args.round c.requires.round in
    let less : c.args.round - 1 < length s.watches.items = omega (arith, within.0, within.1, s.watching.count) in
    let len = watches_len one s.watched.items (s.watching.each (c.args.round - 1) one (read_at s.watches.items (c.args.round - 1) one less c.index.ensures)) in
    omega (arith, len, c.requires.place.is, c.requires.place.within, one.watches.ok.0)

pub returns : goal.returns
returns c =
    let s = c.args.self.now.parts in
    let addrs = s.watched.items in
    let one = c.index.result.now in
    let w = c.index-2.result.now in
    let within = round_within (round_count s.rounds) c.args.round c.requires.round in
    let less : c.args.round - 1 < length s.watches.items = omega (arith, within.0, within.1, s.watching.count) in
    let at = read_at s.watches.items (c.args.round - 1) one less c.index.ensures in
    let len = watches_len one addrs (s.watching.each (c.args.round - 1) one at) in
    let inside : c.args.place < length one.watches.items = omega (arith, len, c.requires.place.is, c.requires.place.within) in
    let here = read_at one.watches.items c.args.place w inside c.index-2.ensures in
    let found = ap rows_in (ap (option_and_then (λ (x : RoundWatches). slice_get x.watches.items (place_in addrs c.args._addr))) at ∙ (ap (slice_get one.watches.items) (sym c.requires.place.is) ∙ here)) in
    record {
      round_there = c.requires.round;
      watched = c.requires.place.watched;
      rows = subst (HasRows (topology (world_seen s)) (next_hop (plan_of s.rounds) (kept s.rounds c.args.round) c.args._addr) (λ a. label (kind_at (world_seen s) a))) found (c.args.self.now.counted.rows c.args.round c.args._addr c.requires.round c.requires.place.watched);
      ends = λ a. ap (λ rows. end_at rows a) found;
    }
