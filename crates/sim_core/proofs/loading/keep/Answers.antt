use Rattle.std.proofs.Common.{sym, subst, arith}
use Rattle.leak_round.specs.Limits.{IsWithinLimits}
use Rattle.leak_round.specs.Rounds.{kept as kept_rounds}
use Rattle.rank_order.specs.Ranks.{rank_at}
use Rattle.roa_table.specs.Sets.{Payloads}
use Rattle.sim_core.specs.Parts.{AreRoundsOf, IsNamed}
use Rattle.sim_core.proofs.Listed.{reader_there}
use Rattle.sim_core.proofs.Loads.{only_ones, stable_rounds, world_kept}
use Rattle.sim_core.proofs.Rows.{kept_by_rows}
use Rattle.sim_core.proofs.Watches.{rows_right}
use Rattle.sim_core.proofs.loading.keep.Goals as goal

pub watch_rounds-requires-clause-count : goal.watch_rounds-requires-clause-count
watch_rounds-requires-clause-count g c = sym c.in_ok-rounds.ensures.rounds.count_is

pub watch_rounds-requires-clause-stable : goal.watch_rounds-requires-clause-stable
watch_rounds-requires-clause-stable g c =
    let b = c.args.base in
    let are = subst (λ (v : Payloads). AreRoundsOf b.graph v b.book b.plan b.rounds c.in_ok-rounds.rounds) c.in_ok-states.ensures c.in_ok-rounds.ensures.rounds in
    (b.vrps, stable_rounds b.graph b.vrps b.book b.plan b.rounds c.in_ok-rounds.rounds are)

pub invariant_of-result : goal.invariant_of-result
invariant_of-result g c =
    let b = c.args.base in
    let is = c.in_ok-rounds.ensures.rounds in
    let named = subst (IsNamed b.graph b.book) (sym is.plan_is) b.named in
    record {
      named = named;
      plain = b.plain;
      other = b.other;
      small = subst IsWithinLimits (sym is.plan_is) b.small;
      few = omega (arith, is.count_is, b.few);
      closed = c.in_ok-rounds.ensures.closed;
      reading = λ a reads. c.in_ok-readers.ensures a (reader_there b.graph b.plan b.book a b.named b.plain reads) reads;
      once = b.once;
      watching = rw c.deref.ensures.value at c.in_ok-watches.ensures.addrs;
    }

pub returns-clause-world : goal.returns-clause-world
returns-clause-world g c =
    let b = c.args.base in
    let are = subst (λ (v : Payloads). AreRoundsOf b.graph v b.book b.plan b.rounds c.in_ok-rounds.rounds) c.in_ok-states.ensures c.in_ok-rounds.ensures.rounds in
    world_kept b.graph b.vrps b.book b.plan b.rounds c.in_ok-rounds.rounds b.watched.items are

pub returns-clause-right : goal.returns-clause-right
returns-clause-right g c =
    let b = c.args.base in
    let rounds = c.in_ok-rounds.rounds in
    let named = subst (IsNamed b.graph b.book) (sym c.in_ok-rounds.ensures.rounds.plan_is) b.named in
    let are = subst (λ (v : Payloads). AreRoundsOf b.graph v b.book b.plan b.rounds rounds) c.in_ok-states.ensures c.in_ok-rounds.ensures.rounds in
    let rows = rows_right b.graph b.vrps b.book rounds b.watched.items c.in_ok-watches.watches.items named b.plain (rw c.deref.ensures.value at c.in_ok-watches.ensures.addrs) c.in_ok-watches.ensures.rows in
    record {
      is_kept = kept_by_rows _ (kept_rounds rounds) (rank_at c.args.ranks) _ (only_ones b.graph b.vrps b.book b.plan b.rounds rounds b.watched.items named b.plain are) c.requires.ranks rows;
      rows = rows;
    }
