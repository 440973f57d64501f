use Rattle.std.proofs.Common.{◌≡◌, ◌∙◌, ℕ, ap, not, sym}
use Rattle.std.specs.Prelude.{count_by}
use Rattle.policy_kinds.specs.declared.kind.Kind.{Kind}
use Rattle.stability_laws.specs.Book.{PolicyBook, policy_at}
use Rattle.sim_core.specs.Loaded.{is_other}
use Rattle.sweep.specs.Trials.{changed}
use Rattle.trial_world.specs.Trials.{AreKeptIn, IsRight, plain_in}
use Rattle.trial_world.specs.declared.kept.Kept.{Kept}
use Rattle.trial_world.specs.declared.trial.LineTrial.{LineTrial}
use Rattle.trial_world.proofs.Keeping.{other_kept}
use Rattle.trial_world.proofs.KindBooks.{changed_from, given_back, had_kinds, room_back}
use Rattle.trial_world.proofs.trial.LineTrialTrial.adopt_all.Goals as goal

-- a trial stays right where each AS has the kind that it had, and what is kept is right for that
right_still : (t : LineTrial) (book : PolicyBook Kind) (now : Kept) → ((a : ℕ) → policy_at book a ≡ policy_at t.book a) → AreKeptIn t.fixed t.book now → IsRight t → IsRight (record { fixed = t.fixed; book = book; kept = now; gone = t.gone })
right_still t book now same are right = record {
  fixed = right.fixed;
  kept = other_kept t.fixed t.book book now same are;
  gone = right.gone ∙ ap (λ (k : ℕ → Kind). count_by (λ a. not (is_other (a, k a))) t.fixed.lone.items) (λ i a. sym (same a) i);
}

pub follow-requires-clause-from : goal.follow-requires-clause-from
follow-requires-clause-from c = (
  c.args.self.now.book,
  had_kinds c.args.self.now.book c.room_for.new.book c.give_all.new.book c.args.changes.now c.as_slice-had.result.now (c.as_slice-had.ensures.value ∙ c.in_ok-before.ensures) c.room_for.ensures.same c.give_all.ensures.kinds,
  c.requires.right.kept,
)

pub returns-in-Ok-clause-ok : goal.returns-in-Ok-clause-ok
returns-in-Ok-clause-ok c = λ a. c.give_all.ensures.kinds a ∙ changed_from (policy_at c.room_for.new.book) (policy_at c.args.self.now.book) c.args.changes.now c.room_for.ensures.same a

pub returns-in-Ok-clause-right : goal.returns-in-Ok-clause-right
returns-in-Ok-clause-right c = record {
  fixed = c.requires.right.fixed;
  kept = c.in-Ok.ensures.ok;
  gone = c.plain_count-self.ensures ∙ ap (λ xs. plain_in xs c.give_all.new.book) c.as_slice.ensures.value;
}

pub give_all-requires-in-Err : goal.give_all-requires-in-Err
give_all-requires-in-Err c = room_back c.room_for.new.book.room c.give_all.new.book.room (policy_at c.args.self.now.book) c.args.changes.now c.as_slice-had.result.now
    (c.as_slice-had.ensures.value ∙ c.in_ok-before.ensures) c.give_all.ensures.room c.in_ok-room_for.ensures.room

pub returns-clause-err : goal.returns-clause-err
returns-clause-err c = λ a.
    c.give_all-in-Err.ensures.kinds a ∙ ap (λ cs. changed (policy_at c.give_all.new.book) cs a) (c.as_slice-had.ensures.value ∙ c.in_ok-before.ensures)
    ∙ given_back (policy_at c.args.self.now.book) (policy_at c.give_all.new.book) c.args.changes.now
    (λ b. c.give_all.ensures.kinds b ∙ changed_from (policy_at c.room_for.new.book) (policy_at c.args.self.now.book) c.args.changes.now c.room_for.ensures.same b) a

pub returns-clause-right : goal.returns-clause-right
returns-clause-right c =
    let same : (a : ℕ) → policy_at c.give_all-in-Err.new.book a ≡ policy_at c.args.self.now.book a = λ a.
    c.give_all-in-Err.ensures.kinds a ∙ ap (λ cs. changed (policy_at c.give_all.new.book) cs a) (c.as_slice-had.ensures.value ∙ c.in_ok-before.ensures)
    ∙ given_back (policy_at c.args.self.now.book) (policy_at c.give_all.new.book) c.args.changes.now
    (λ b. c.give_all.ensures.kinds b ∙ changed_from (policy_at c.room_for.new.book) (policy_at c.args.self.now.book) c.args.changes.now c.room_for.ensures.same b) a in
    right_still c.args.self.now c.give_all-in-Err.new.book c.follow.new.self same (c.in-Err.ensures.err c.args.self.now.book c.requires.right.kept) c.requires.right

pub returns-in_err-room_for-clause-right : goal.returns-in_err-room_for-clause-right
returns-in_err-room_for-clause-right c = right_still c.args.self.now c.room_for.new.book c.args.self.now.kept c.room_for.ensures.same c.requires.right.kept c.requires.right
