use Rattle.std.proofs.Common.{◌∙◌, ap, sym, subst}
use Rattle.std.specs.FinMap as fin
use Rattle.caida_reader.specs.Firsts.{FirstMap}
use Rattle.caida_reader.specs.Runs.{joined, all_turned, AreRuns}
use Rattle.caida_reader.proofs.JoinLemmas.{joined-insert_front, joined-insert_back, all_turned-insert, none_of_joined, rising_more, turned_more}
use Rattle.caida_reader.proofs.runs.Runs.put.Goals as goal

pub invariant_of-self-then-is_past : goal.invariant_of-self-then-is_past
invariant_of-self-then-is_past c =
    let exchanged = all_turned c.self.inside.turned in
    let none = none_of_joined c.self.inside.rising exchanged (c.args.lo, c.args.hi) (rw (← c.self.view_is) at c.requires) in
    let are : AreRuns c.self.inside.rising c.self.inside.turned c.mark_long.new.marks = record { apart = c.self.invariant.apart; marked = c.mark_long.ensures } in
    subst (λ rising. AreRuns rising c.self.inside.turned c.mark.new.self) (sym c.in_ok-push.ensures.ok)
    (rising_more c.self.inside.rising c.self.inside.turned c.mark_long.new.marks c.mark.new.self (c.args.lo, c.args.hi) c.args.first are none.1 c.mark.ensures.marked c.mark.ensures.kept)

pub returns-then-is_past-clause-ok : goal.returns-then-is_past-clause-ok
returns-then-is_past-clause-ok c =
    let exchanged = all_turned c.self.inside.turned in
    ap (λ rising. joined rising exchanged) c.in_ok-push.ensures.ok ∙ joined-insert_front c.self.inside.rising exchanged (c.args.lo, c.args.hi) c.args.first
    ∙ ap (λ (m : FirstMap). fin.insert m (c.args.lo, c.args.hi) c.args.first) c.self.view_is

pub invariant_of-self-then-is_past-2 : goal.invariant_of-self-then-is_past-2
invariant_of-self-then-is_past-2 c =
    let none = none_of_joined c.self.inside.rising (all_turned c.self.inside.turned) (c.args.lo, c.args.hi) (rw (← c.self.view_is) at c.requires) in
    subst (λ exchanged. AreRuns c.self.inside.rising exchanged c.self.inside.marks) (sym c.in_ok-push-2.ensures.ok)
    (turned_more c.self.inside.rising c.self.inside.turned c.self.inside.marks c.args.lo c.args.hi c.args.first c.self.invariant none.0)

pub returns-then-is_past-2-clause-ok : goal.returns-then-is_past-2-clause-ok
returns-then-is_past-2-clause-ok c =
    let rising = c.self.inside.rising in
    let none = none_of_joined rising (all_turned c.self.inside.turned) (c.args.lo, c.args.hi) (rw (← c.self.view_is) at c.requires) in
    ap (λ exchanged. joined rising (all_turned exchanged)) c.in_ok-push-2.ensures.ok ∙ ap (joined rising) (all_turned-insert c.self.inside.turned c.args.lo c.args.hi c.args.first)
    ∙ joined-insert_back rising (all_turned c.self.inside.turned) (c.args.lo, c.args.hi) c.args.first none.0
    ∙ ap (λ (m : FirstMap). fin.insert m (c.args.lo, c.args.hi) c.args.first) c.self.view_is
