use Rattle.std.proofs.Common.{◌≡◌, ℕ, suc, ◌+◌, Vec, Global, ◌++◌, ◌∷◌, [], List, length, sym, ap, subst, ◌∙◌, arith}
use Rattle.std.specs.Prelude.{slice_get}
use Rattle.std.specs.Ordering.{nat_cmp}
use Rattle.std.proofs.lemmas.List.{length-append}
use Rattle.stability_laws.specs.Plans.{ListsRising}
use Rattle.leak_round.specs.Told.{IsToldOf}
use Rattle.leak_round.proofs.Ordering.{each_more, told_at}
use Rattle.leak_round.proofs.told.listed.Goals as goal

pub loop-before-preserved : goal.loop-before-preserved
loop-before-preserved c =
    let xs : List (Vec ℕ Global) = c.loop-before.changed.items in
    let v : Vec ℕ Global = c.in_ok-ases.ases in
    let items : c.push.new.self.items ≡ xs ++ v ∷ [] = c.in_ok-push.ensures.items in
    let P : ℕ → Vec ℕ Global → Type 0 = λ i w. ListsRising nat_cmp (IsToldOf c.args.changes.now c.args.edited (suc i)) w.items in
    let number : c.loop-before.before + 1 ≡ suc (length xs) = omega (arith, c.loop-before.invariant.count) in
    let here : P (length xs) v = subst (λ n. ListsRising nat_cmp (IsToldOf c.args.changes.now c.args.edited n) v.items) number c.in_ok-ases.ensures in
    record {
      count = ap length items ∙ length-append xs (v ∷ []) ∙ ap (λ n. n + 1) c.loop-before.invariant.count;
      told = λ i w at. each_more P xs v c.loop-before.invariant.told here i w (sym (ap (λ (ys : List (Vec ℕ Global)). slice_get ys i) items) ∙ at);
    }

pub returns-clause-told : goal.returns-clause-told
returns-clause-told c =
    let count : length c.loop-before.changed.items ≡ c.args.rounds = omega (arith, c.loop-before.invariant.count, c.loop-before.auto.before-end, c.loop-before-test.false) in
    told_at (record { count = c.in_ok-count.count; changed = c.loop-before.changed; none = c.new.result; empty = c.new.ensures.items }) (λ round ys. ListsRising nat_cmp (IsToldOf c.args.changes.now c.args.edited round) ys) c.args.rounds count c.loop-before.invariant.told
