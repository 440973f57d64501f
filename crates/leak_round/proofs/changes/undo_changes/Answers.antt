use Rattle.std.proofs.Common.{◌≡◌, ℕ, ◌+◌, ◌-◌, ◌++◌, ◌∷◌, [], List, length, take, ap, ◌∙◌, arith}
use Rattle.std.proofs.lemmas.List.{length-append}
use Rattle.std.proofs.lemmas.List.Sums.{sum_by_push}
use Rattle.route_choice.specs.Tables.{overlay_uses}
use Rattle.route_choice.proofs.Uses.{back_itself, back_more}
use Rattle.leak_round.specs.declared.changes.Change.{Change}
use Rattle.leak_round.specs.Overlays.{changes_uses}
use Rattle.leak_round.proofs.changes.undo_changes.Goals as goal

uses_last : (xs ys : List Change) (x : Change) → xs ≡ ys ++ x ∷ [] → (k : ℕ) → changes_uses xs k ≡ changes_uses ys k + overlay_uses x.overlay k
uses_last xs ys x e k = ap (λ zs. changes_uses zs k) e ∙ sum_by_push (λ (y : Change). overlay_uses y.overlay k) ys x

pub changes-init : goal.changes-init
changes-init c = record { held = c.requires; holds = λ k. omega arith; back = back_itself c.args.pool.now }

pub undo-requires : goal.undo-requires
undo-requires c = λ k. omega (arith, c.changes.invariant.held k, uses_last c.changes.left.items c.pop.new.self.items c.in-Some.change c.in-Some.ensures.items k)

pub changes-preserved : goal.changes-preserved
changes-preserved c =
    let last = uses_last c.changes.left.items c.pop.new.self.items c.in-Some.change c.in-Some.ensures.items in
    record {
      held = λ k. omega (arith, c.changes.invariant.held k, last k, c.undo.ensures.holds k);
      holds = λ k. omega (arith, c.changes.invariant.holds k, last k, c.undo.ensures.holds k);
      back = back_more c.args.pool.now c.changes.pool c.undo.new.pool c.changes.invariant.back c.undo.ensures.back;
    }

pub changes-smaller : goal.changes-smaller
changes-smaller c = omega (arith, ap (λ (zs : List Change). length zs) c.in-Some.ensures.items, length-append c.pop.new.self.items (c.in-Some.change ∷ []))

pub returns : goal.returns
returns c =
    let none : c.changes.left.items ≡ [] = c.in_default.ensures.items ∙ ap (λ (ys : List Change). ys ++ []) (c.in_default.ensures.rest ∙ ap (λ n. take (n - 1) c.changes.left.items) c.in_default.ensures.cases.0) in
    record {
      holds = λ k. omega (arith, c.changes.invariant.holds k, ap (λ (zs : List Change). changes_uses zs k) none);
      back = c.changes.invariant.back;
    }
