use Rattle.std.proofs.Common.{◌≡◌, ℕ, suc, ◌+◌, Option, List, length, sym, ap, subst, ◌∙◌, arith}
use Rattle.std.specs.Prelude.{IsTrue}
use Rattle.net_names.specs.Prefixes.{PrefixValue}
use Rattle.stability_laws.specs.declared.entry.Entry.{Entry}
use Rattle.stability_laws.specs.Plans.{has_prefix}
use Rattle.route_choice.specs.declared.round_tables.RoundTables.{RoundTables}
use Rattle.leak_round.specs.Tables.{kept_in, AreRoundsFull}
use Rattle.leak_round.proofs.AllRounds.{rounds_made, rounds_more, rounds_start}
use Rattle.leak_round.proofs.moving.moved_rounds.Goals as goal

pub moved_round-requires-clause-earlier : goal.moved_round-requires-clause-earlier
moved_round-requires-clause-earlier c = subst (AreRoundsFull c.loop-old.pool c.args.moving.now.plan.now) (sym c.as_slice-earlier.ensures.value) c.loop-old.invariant.full

pub loop-old-init : goal.loop-old-init
loop-old-init c =
    rounds_start (λ before p f g. (a : ℕ) → g a ≡ kept_in c.args.moving.now.from.now c.args.moving.now.tables.now (suc before) p a) c.args.moving.now.plan.now c.args.pool.now c.new-rounds.result.items c.new-rounds.ensures.items

pub loop-old-preserved : goal.loop-old-preserved
loop-old-preserved c =
    let Fits : ℕ → PrefixValue → (ℕ → Option Entry) → (ℕ → Option Entry) → Type 0 = λ before p f g. (a : ℕ) → g a ≡ kept_in c.args.moving.now.from.now c.args.moving.now.tables.now (suc before) p a in
    let xs : List RoundTables = c.loop-old.rounds.items in
    let number : length c.as_slice-earlier.result.now + 1 ≡ suc (length xs) = (let is = ap (λ (ys : List RoundTables). length ys) c.as_slice-earlier.ensures.value in omega (arith, is)) in
    let same = λ (p : PrefixValue) (known : IsTrue (has_prefix c.args.moving.now.plan.now p)) (a : ℕ). c.in_ok-next.ensures.same p known a ∙ ap (λ n. kept_in c.args.moving.now.from.now c.args.moving.now.tables.now n p a) number in
    rounds_more Fits c.args.moving.now.plan.now c.args.pool.now c.loop-old.pool c.moved_round.new.pool c.loop-old.old-index xs c.in_ok-next.next c.loop-old.invariant c.in_ok-next.ensures.made same c.push.new.self.items c.in_ok-push.ensures.items

pub returns-clause-made : goal.returns-clause-made
returns-clause-made c =
    let Fits : ℕ → PrefixValue → (ℕ → Option Entry) → (ℕ → Option Entry) → Type 0 = λ before p f g. (a : ℕ) → g a ≡ kept_in c.args.moving.now.from.now c.args.moving.now.tables.now (suc before) p a in
    rounds_made Fits c.args.moving.now.plan.now c.args.pool.now c.loop-old.pool c.loop-old.rounds.items c.loop-old.old-index (length c.args.moving.now.tables.now) c.loop-old.invariant (omega arith)
