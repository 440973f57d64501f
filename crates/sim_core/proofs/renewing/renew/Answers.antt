use Rattle.std.proofs.Common.{◌≡◌, ◌<◌, ◌+◌, ℕ, suc, List, length, sym, ap, subst, ◌∙◌, arith}
use Rattle.std.proofs.lemmas.List.{length-map}
use Rattle.std.proofs.lemmas.Option.{slice_get_within}
use Rattle.leak_round.specs.Plans.{ases_told}
use Rattle.leak_round.specs.Rounds.{kept, plan_of, round_count}
use Rattle.sim_core.specs.Renewing.{CanFollow}
use Rattle.sim_core.specs.Watching.{AreWatches, GoesOnInside, addrs_in, seen_in}
use Rattle.sim_core.specs.declared.watching.RoundWatches.{RoundWatches}
use Rattle.sim_core.proofs.Renewals.{next_worked, read_at}
use Rattle.sim_core.proofs.Watches.{got_mapped, map_at}
use Rattle.sim_core.proofs.Working.{map_worked, rows_more}
use Rattle.sim_core.proofs.renewing.renew.Goals as goal

pub renew_in-requires-clause-inside : goal.renew_in-requires-clause-inside
renew_in-requires-clause-inside c =
    let n = c.loop-place.place in
    let less : n < round_count c.args.rounds.now = omega (arith, c.requires.count, c.len-place-end.ensures, c.loop-place-test.true) in
    let next : suc n ≡ n + 1 = omega arith in
    subst (λ (r : ℕ). GoesOnInside c.args.graph.now (plan_of c.args.rounds.now) (kept c.args.rounds.now r)) next (c.requires.inside n less)

pub renew_in-requires-clause-roomy : goal.renew_in-requires-clause-roomy
renew_in-requires-clause-roomy c =
    let mid = c.loop-place.all.items in
    let n = c.loop-place.place in
    let y = c.index_mut.result.now in
    let less : n < length mid = omega (arith, c.loop-place.invariant.so_far.count, c.len-place-end.ensures, c.loop-place-test.true) in
    c.requires.roomy n y (sym (c.loop-place.invariant.so_far.left n (omega arith)) ∙ read_at mid n y less c.index_mut.ensures.value)

pub renew_in-requires-clause-follow : goal.renew_in-requires-clause-follow
renew_in-requires-clause-follow c =
    let old = c.args.all.now.items in
    let mid = c.loop-place.all.items in
    let n = c.loop-place.place in
    let y = c.index_mut.result.now in
    let less : n < length mid = omega (arith, c.loop-place.invariant.so_far.count, c.len-place-end.ensures, c.loop-place-test.true) in
    let there = map_at seen_in old n y (sym (c.loop-place.invariant.so_far.left n (omega arith)) ∙ read_at mid n y less c.index_mut.ensures.value) in
    let next : suc n ≡ n + 1 = omega arith in
    let told : ases_told c.args.done.now (suc n) ≡ c.changed_in.result.now = ap (ases_told c.args.done.now) next ∙ sym c.changed_in.ensures in
    subst (λ (t : ℕ × List ℕ). CanFollow c.args.graph.now (plan_of c.args.rounds.now) (kept c.args.rounds.now t.0) c.args.book.now t.1 c.args.ends.now (seen_in y)) (λ i. (next i, told i)) (c.requires.follow n (seen_in y) there)

pub loop-place-preserved : goal.loop-place-preserved
loop-place-preserved c =
    let old = c.args.all.now.items in
    let mid = c.loop-place.all.items in
    let n = c.loop-place.place in
    let y = c.index_mut.result.now in
    let x = c.renew_in.new.one in
    let less : n < length mid = omega (arith, c.loop-place.invariant.so_far.count, c.len-place-end.ensures, c.loop-place-test.true) in
    let next : n + 1 ≡ suc n = omega arith in
    let P : ℕ → RoundWatches → Type 0 = λ k z. AreWatches c.args.graph.now (plan_of c.args.rounds.now) (kept c.args.rounds.now (suc k)) c.args.book.now (seen_in z) in
    let here : P n x = subst (λ (r : ℕ). AreWatches c.args.graph.now (plan_of c.args.rounds.now) (kept c.args.rounds.now r) c.args.book.now (seen_in x)) next c.renew_in.ensures.rows in
    record {
      so_far = next_worked (λ u z. addrs_in z ≡ addrs_in u) old mid n y x c.loop-place.invariant.so_far less c.index_mut.ensures.value c.renew_in.ensures.addrs;
      rows = rows_more P mid n x less c.loop-place.invariant.rows here;
    }

pub returns-clause-rows : goal.returns-clause-rows
returns-clause-rows c = record {
  count = length-map c.loop-place.all.items seen_in ∙ c.loop-place.invariant.so_far.count ∙ c.requires.count;
  each = λ before seen at.
      let (one, there, is) = got_mapped seen_in c.loop-place.all.items before seen at in
      let within : before < length c.loop-place.all.items = slice_get_within c.loop-place.all.items before one there in
      let less : before < c.loop-place.place = omega (arith, within, c.loop-place.invariant.so_far.count, c.len-place-end.ensures, c.loop-place-test.false) in
      subst (AreWatches c.args.graph.now (plan_of c.args.rounds.now) (kept c.args.rounds.now (suc before)) c.args.book.now) is (c.loop-place.invariant.rows before one less there);
}

pub returns-clause-addrs : goal.returns-clause-addrs
returns-clause-addrs c = map_worked addrs_in c.args.all.now.items c.loop-place.all.items c.loop-place.place c.loop-place.invariant.so_far
