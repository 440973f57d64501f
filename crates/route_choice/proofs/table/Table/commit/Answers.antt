use Rattle.std.proofs.Common.{◌≤◌, ℕ, arith, ap, option_map, sym, ◌∙◌}
use Rattle.path_pool.specs.Pool.{holds_of}
use Rattle.route_choice.specs.Slots.{slot_at, uses_of}
use Rattle.route_choice.specs.Routings.{entry_of}
use Rattle.route_choice.proofs.Lists.{back_same}
use Rattle.route_choice.proofs.Uses.{over_nothing}
use Rattle.route_choice.proofs.table.Table.commit.Goals as goal

pub returns-then-len-eq0-clause-entries : goal.returns-then-len-eq0-clause-entries
returns-then-len-eq0-clause-entries c = λ a. over_nothing c.args.self.now.slots.entries (slot_at c.args.overlay.changes a) a (sym c.len.ensures.count ∙ c.if-len-eq0.true)

pub returns-then-len-eq0-clause-routing : goal.returns-then-len-eq0-clause-routing
returns-then-len-eq0-clause-routing c = λ a. ap (option_map (entry_of c.args.pool.now)) (returns-then-len-eq0-clause-entries c a)

pub returns-else-len-eq0-clause-routing : goal.returns-else-len-eq0-clause-routing
returns-else-len-eq0-clause-routing c = λ a.
    let held : (k : ℕ) → uses_of c.replace_all.new.slots k ≤ holds_of c.replace_all.new.pool k = λ k. omega (arith, c.replace_all.ensures.holds k, c.requires.held k) in
    back_same c.args.pool.now c.replace_all.new.pool c.replace_all.new.slots c.replace_all.ensures.back held a
    ∙ ap (option_map (entry_of c.args.pool.now)) (c.replace_all.ensures.entries a)
