use Rattle.std.proofs.Common.{◌≡◌, ◌++◌, append-nil, sym, ap, subst, ◌∙◌}
use Rattle.std.proofs.lemmas.Result.{on_ok_weaker}
use Rattle.io_edge.specs.Bytes.{Appends}
use Rattle.io_edge.proofs.Appending.{Appends-trans}
use Rattle.sweep.proofs.Written.{Appends-front}
use Rattle.asprop_run.proofs.Answering.{on_err, unless_ok}
use Rattle.asprop_run.proofs.answers.pass_on.Goals as goal
use Rattle.asprop_run.proofs.answers.pass_on.Goals.{else-is_little-via-then-is_little+else-is_ok, else-is_little-via-else-is_little}

-- what is held back when it is written is what was held back before
same_held : (g : _) (c : goal.After-write_all-2 g) → c.deref.result.now ≡ c.args.held.now.items
same_held g c = c.deref.ensures.value ∙ elim c.else-is_little.branch [
  | else-is_little-via-then-is_little+else-is_ok w ↦ ap (λ v. v.items) w.held-is ∙ w.extend_from_slice.ensures.items ∙ unless_ok _ _ _ (sym w.is_ok.ensures.value ∙ w.if-is_ok.false)
  | else-is_little-via-else-is_little w ↦ ap (λ v. v.items) w.held-is
]

pub returns-clause-ok : goal.returns-clause-ok
returns-clause-ok g c =
    on_ok_weaker c.write_all-2.result
    (λ last. record {
      written = c.args.held.now.items ++ c.args.text.now;
      appends = Appends-trans _ _ _ c.args.held.now.items c.args.text.now (subst (Appends (g.O.Sink.written c.args.out.now) (g.O.Sink.written c.write_all.new.sink)) (same_held g c) c.in_ok-write_all.ensures.whole) last;
      whole = ap (λ l. (c.args.held.now.items ++ c.args.text.now) ++ l) c.clear.ensures.items ∙ append-nil (c.args.held.now.items ++ c.args.text.now);
    })
    c.write_all-2.ensures.whole

pub returns-clause-err : goal.returns-clause-err
returns-clause-err g c =
    on_err c.write_all-2.result
    (Appends-front _ _ _ c.args.held.now.items c.args.text.now (subst (Appends (g.O.Sink.written c.args.out.now) (g.O.Sink.written c.write_all.new.sink)) (same_held g c) c.in_ok-write_all.ensures.whole) c.write_all-2.ensures.front)
