use Rattle.std.proofs.Common.{◌≡◌, ℕ, ◌+◌, ◌-◌, ◌++◌, ◌∷◌, [], List, length, take, ap, subst, ◌∙◌, refl, arith}
use Rattle.std.proofs.lemmas.List.{length-append}
use Rattle.std.proofs.lemmas.List.Sums.{sum_by_push}
use Rattle.route_choice.specs.Tables.{overlay_uses}
use Rattle.route_choice.proofs.Uses.{back_itself, back_more}
use Rattle.leak_round.specs.declared.changes.Change.{Change}
use Rattle.leak_round.specs.Overlays.{changes_uses, AreChangesOf, IsLaid}
use Rattle.leak_round.proofs.Laying.{left_changes}
use Rattle.leak_round.proofs.Listing.{got_last}
use Rattle.leak_round.proofs.Committing.{laid_left}
use Rattle.leak_round.proofs.changes.commit_changes.Goals as goal

uses_last : (xs ys : List Change) (x : Change) → xs ≡ ys ++ x ∷ [] → (k : ℕ) → changes_uses xs k ≡ changes_uses ys k + overlay_uses x.overlay k
uses_last xs ys x e k = ap (λ zs. changes_uses zs k) e ∙ sum_by_push (λ (y : Change). overlay_uses y.overlay k) ys x

pub changes-init : goal.changes-init
changes-init c = record {
  changes = c.requires.changes;
  held = c.requires.held;
  laid = λ plan routings others listed few h. h;
  count = refl;
  back = back_itself c.args.pool.now;
}

pub commit_change-requires-clause-fits : goal.commit_change-requires-clause-fits
commit_change-requires-clause-fits c = (subst (AreChangesOf c.changes.tables.items) c.in-Some.ensures.items c.changes.invariant.changes).fits (length c.pop.new.self.items) c.in-Some.change (got_last c.pop.new.self.items c.in-Some.change)

pub commit_change-requires-clause-held : goal.commit_change-requires-clause-held
commit_change-requires-clause-held c = λ k. omega (arith, c.changes.invariant.held k, uses_last c.changes.left.items c.pop.new.self.items c.in-Some.change c.in-Some.ensures.items k)

pub changes-preserved : goal.changes-preserved
changes-preserved c =
    let xs : List Change = c.pop.new.self.items in
    let x = c.in-Some.change in
    let items : c.changes.left.items ≡ xs ++ x ∷ [] = c.in-Some.ensures.items in
    let old = c.changes.invariant in
    let now = c.commit_change.ensures in
    record {
      changes = left_changes c.changes.tables.items c.commit_change.new.tables.items xs x (subst (AreChangesOf c.changes.tables.items) items old.changes) now.put;
      held = λ k. omega (arith, old.held k, now.holds k, uses_last c.changes.left.items xs x items k);
      laid = λ plan routings others listed few h.
          laid_left plan listed routings few others c.changes.pool c.commit_change.new.pool c.changes.tables.items c.commit_change.new.tables.items xs x (subst (IsLaid plan routings others c.changes.pool c.changes.tables.items) items (old.laid plan routings others listed few h)) now.put now.holds now.back;
      count = now.put.count ∙ old.count;
      back = back_more c.args.pool.now c.changes.pool c.commit_change.new.pool old.back now.back;
    }

pub changes-smaller : goal.changes-smaller
changes-smaller c = omega (arith, ap (λ (zs : List Change). length zs) c.in-Some.ensures.items, length-append c.pop.new.self.items (c.in-Some.change ∷ []))

pub returns : goal.returns
returns c = record {
  laid = λ plan routings others listed few h.
      (let none : c.changes.left.items ≡ [] = c.in_default.ensures.items ∙ ap (λ (ys : List Change). ys ++ []) (c.in_default.ensures.rest ∙ ap (λ n. take (n - 1) c.changes.left.items) c.in_default.ensures.cases.0) in
      subst (IsLaid plan routings others c.changes.pool c.changes.tables.items) none (c.changes.invariant.laid plan routings others listed few h));
  count = c.changes.invariant.count;
  back = c.changes.invariant.back;
}
