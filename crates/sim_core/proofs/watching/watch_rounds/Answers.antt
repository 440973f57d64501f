use Rattle.std.proofs.Common.{◌≡◌, ◌∙◌, ◌+◌, ◌<◌, ◌∷◌, ℕ, [], length, refl, suc, sym, subst, map, List, arith}
use Rattle.std.proofs.lemmas.Bool.{eqb-true}
use Rattle.std.specs.declared.vec.Vec.{Vec}
use Rattle.std.specs.declared.alloc.Global.{Global}
use Rattle.stability_laws.specs.Plans.{IsSound}
use Rattle.leak_round.specs.Rounds.{kept, plan_of, round_count}
use Rattle.sim_core.specs.Watching.{AreRoundWatches, AreWatches, GoesOnInside, HasWatches, seen_in}
use Rattle.sim_core.specs.declared.watching.RoundWatches.{RoundWatches}
use Rattle.sim_core.proofs.Hops.{goes_on_inside}
use Rattle.data_trace.proofs.Inside.{ok_gives}
use Rattle.net_names.specs.Addresses.{AddrValue}
use Rattle.sim_core.proofs.Watches.{none_watched, one_round_longer, one_round_more}
use Rattle.sim_core.proofs.watching.watch_rounds.Goals as goal

pub watch_round-requires-clause-inside : goal.watch_round-requires-clause-inside
watch_round-requires-clause-inside c =
    let (payloads, stable) = c.requires.stable in
    let plan = plan_of c.args.rounds.now in
    let sound : IsSound plan = subst IsSound c.seed_plan.ensures c.plans_are_sound.ensures in
    let within : c.loop-past.past < round_count c.args.rounds.now = omega (arith, c.loop-past-test.true, c.requires.count) in
    let next : suc c.loop-past.past ≡ c.loop-past.past + 1 = omega arith in
    let Q : ℕ → Type 0 = λ r. GoesOnInside c.args.graph.now plan (kept c.args.rounds.now r) in
    let inside : GoesOnInside c.args.graph.now plan (kept c.args.rounds.now (c.loop-past.past + 1)) = subst Q next (goes_on_inside c.paths_go_on.ensures c.args.graph.now c.args.book.now payloads plan (round_count c.args.rounds.now) (kept c.args.rounds.now) sound stable c.loop-past.past within) in
    λ p a b known free second. c.in_ok-index.ensures.listed b ∙ inside p a b known free second

pub loop-past-preserved : goal.loop-past-preserved
loop-past-preserved c =
    let plan = plan_of c.args.rounds.now in
    let one = c.in_ok-one.one in
    let next : c.loop-past.past + 1 ≡ suc c.loop-past.past = omega arith in
    let here = subst (λ r. AreWatches c.args.graph.now plan (kept c.args.rounds.now r) c.args.book.now (seen_in one)) next (c.in_ok-one.ensures.rows c.args.graph.now c.args.book.now c.in_ok-index.ensures) in
    subst
    (λ (all : List RoundWatches). AreRoundWatches c.args.graph.now plan (kept c.args.rounds.now) c.args.book.now (c.loop-past.past + 1) (map seen_in all) × HasWatches (c.loop-past.past + 1) c.args.addrs.now all)
    (sym c.in_ok-push.ensures.items)
    (one_round_more c.args.graph.now plan (kept c.args.rounds.now) c.args.book.now c.loop-past.past c.loop-past.all.items one c.loop-past.invariant.0 here, one_round_longer c.args.addrs.now c.loop-past.past c.loop-past.all.items one c.loop-past.invariant.1 c.in_ok-one.ensures.addrs)

no_addrs : (addrs : List AddrValue) → length addrs ≡ 0 → [] ≡ addrs
no_addrs [] e = refl
no_addrs (x ∷ xs) e = absurd (omega (arith, e))

pub returns-then-is_empty-clause-rows : goal.returns-then-is_empty-clause-rows
returns-then-is_empty-clause-rows c =
    ok_gives (λ (all : Vec RoundWatches Global). HasWatches c.args.count [] all.items)
    (λ all. AreRoundWatches c.args.graph.now (plan_of c.args.rounds.now) (kept c.args.rounds.now) c.args.book.now (round_count c.args.rounds.now) (map seen_in all.items)) c.watch_none.result
    (λ all has. none_watched c.args.graph.now (plan_of c.args.rounds.now) (kept c.args.rounds.now) c.args.book.now (round_count c.args.rounds.now) all.items (subst (λ n. HasWatches n [] all.items) c.requires.count has)) c.watch_none.ensures

pub returns-then-is_empty-clause-addrs : goal.returns-then-is_empty-clause-addrs
returns-then-is_empty-clause-addrs c =
    let none : [] ≡ c.args.addrs.now = no_addrs c.args.addrs.now (eqb-true (length c.args.addrs.now) 0 (sym c.is_empty.ensures ∙ c.if-is_empty.true)) in
    ok_gives (λ (all : Vec RoundWatches Global). HasWatches c.args.count [] all.items) (λ all. HasWatches (round_count c.args.rounds.now) c.args.addrs.now all.items) c.watch_none.result
    (λ all has. subst (λ n. HasWatches n c.args.addrs.now all.items) c.requires.count (subst (λ addrs. HasWatches c.args.count addrs all.items) none has)) c.watch_none.ensures
