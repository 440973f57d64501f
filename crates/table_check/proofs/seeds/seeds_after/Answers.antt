use Rattle.std.proofs.Common.{ℕ, ◌+◌, ◌≡◌, ◌∙◌}
use Rattle.std.specs.FinMap as map
use Rattle.std.proofs.lemmas.Result.{IfOk-weaker}
use Rattle.stability_laws.specs.Rounds.{seeds_of}
use Rattle.table_check.specs.Rows.{held_by}
use Rattle.table_check.proofs.Leakers.{leaked_same}
use Rattle.table_check.proofs.seeds.seeds_after.Goals as goal

pub returns : goal.returns
returns c =
    let round = c.args.before + 1 in
    let held = held_by c.args.table.now c.args.before in
    IfOk-weaker c.seeds_at.result
    (λ s. (a : ℕ) → map.get s a ≡ seeds_of c.args.plan.now round c.args.prefix (map.get c.in_ok-held.held) a)
    (λ s. (a : ℕ) → map.get s a ≡ seeds_of c.args.plan.now round c.args.prefix held a)
    (λ s is a. is a ∙ leaked_same c.args.plan.now c.args.prefix round (map.get c.in_ok-held.held) held c.in_ok-held.ensures a) c.seeds_at.ensures
