-- What deliveries of messages come to.
use Rattle.std.specs.Prelude.{◌≡◌, ◌-◌, ◌==◌, ℕ, ◌++◌}
use Rattle.clap.specs.Walk.{Text}
use Rattle.message_sim.specs.Messages.{IsStart, MessageNet}
use Rattle.message_sim.specs.Nets.{queued_in}
use Rattle.message_sim.specs.Turns.{AreTurns, turns_of}
use Rattle.message_sim.specs.declared.steps.Deliveries.{Deliveries}
use Rattle.reports.specs.Rows.{table}
use Rattle.sim_core.specs.Kept.{Kept, IsKept}
use Rattle.sim_core.specs.World.{World, setting_of, topology}
use Rattle.stability_laws.specs.EntryTexts.{entry_row}
use Rattle.stability_laws.specs.Rounds.{seeds_of}
use Rattle.asprop_run.specs.Settling.{fact, said}

-- how many messages were taken out, how many are left under way, and whether none is (own format)
abbrev pub message_rows : ℕ → ℕ → Text
message_rows made left = fact "delivered" made ++ (fact "queued" left ++ said "quiet" (left == 0))

-- the text says what the deliveries come to, from the start of the net with the seeds of the round that follow from the routing that is kept of the round before: the rows of what all ASes chose then, and what is said of the messages (own format; RFC 4271, section 9)
abbrev pub IsNetText : World → Deliveries → Text → Type 0
IsNetText w d text = (k : Kept) × IsKept w k × (x y : MessageNet) × (made : ℕ) ×
    let here = setting_of w d.prefix in let g = topology w in let left = queued_in g y in
    let seeds = seeds_of w.plan d.round d.prefix (k.routings (d.round - 1) d.prefix) in
    IsStart here seeds x × AreTurns here seeds (turns_of d.steps) x made y
    × (text ≡ table g (λ a. entry_row a (y.choice a)) ++ (fact "delivered" made
    ++ (fact "queued" left ++ said "quiet" (left == 0))))
