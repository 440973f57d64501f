use Rattle.std.proofs.Common.{◌++◌, ℕ, List, ap, codes, option_copied, refl, subst, ◌∙◌}
use Rattle.sim_core.specs.Bases.{base_world}
use Rattle.sim_core.specs.World.{setting_of}
use Rattle.table_check.specs.Checked.{IsVerdict}
use Rattle.table_check.specs.Rows.{held_by}
use Rattle.asprop_run.proofs.Checked.{verdict_in}
use Rattle.asprop_run.proofs.Facts.{wrong_rows}
use Rattle.asprop_run.proofs.checking.answer_check.Goals as goal

pub returns-in-Stable : goal.returns-in-Stable
returns-in-Stable c =
    let w = base_world c.args.base.now in
    let t = c.args.tables.now in
    let told = verdict_in c.kept_are_stable.ensures.setting w t c.graph.result.now c.book.result.now c.in_ok-states.states.payloads c.plan-2.result.now c.in_ok-verdict.verdict
    c.graph.ensures c.book.ensures (c.in_ok-states.ensures ∙ c.vrps.ensures) c.plan-2.ensures.value c.in_ok-verdict.ensures in (
      refl,
      (
        subst (IsVerdict (setting_of w t.prefix) w.plan t) c.in-Stable.is told,
        c.in_ok-put_bytes-in-Stable.ensures.ok ∙ ap (λ (l : List ℕ). l ++ codes "stable|yes\n") c.clear.ensures.items,
      ),
    )

pub returns : goal.returns
returns c =
    let w = base_world c.args.base.now in
    let t = c.args.tables.now in
    let round = c.in-Wrong.round in
    let a = c.in-Wrong.asn in
    let right = c.in-Wrong.right in
    let told = verdict_in c.kept_are_stable.ensures.setting w t c.graph.result.now c.book.result.now c.in_ok-states.states.payloads c.plan-2.result.now c.in_ok-verdict.verdict
    c.graph.ensures c.book.ensures (c.in_ok-states.ensures ∙ c.vrps.ensures) c.plan-2.ensures.value c.in_ok-verdict.ensures in
    let first = subst (IsVerdict (setting_of w t.prefix) w.plan t) c.in-Wrong.is told in (
      refl,
      (
        first.0,
        a,
        right,
        first.2,
        c.in_ok-put_wrong-in-Wrong.ensures
            ∙ ap (λ (l : List ℕ). l ++ wrong_rows round a (option_copied c.held.result) (option_copied c.as_ref.result)) c.clear.ensures.items
            ∙ (λ i. wrong_rows round a (c.held.ensures i) (c.as_ref.ensures.value i))
            ∙ ap (λ (n : ℕ). wrong_rows n a (held_by t.rows n a) right) first.1,
      ),
    )
