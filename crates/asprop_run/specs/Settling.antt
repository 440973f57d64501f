-- What activations of ASes come to.
use Prim.Native.String.{String}
use Rattle.std.specs.Prelude.{◌≡◌, ◌↔◌, ◌-◌, ℕ, Bool, IsTrue, [], ◌∷◌, ◌++◌, codes, decimal, Option, if◌then◌else◌}
use Rattle.std.specs.FinMap as fin
use Rattle.clap.specs.Walk.{Text}
use Rattle.activations.specs.Pieces.{IsMostPieces}
use Rattle.activations.specs.declared.acts.Acts.{Acts}
use Rattle.as_graph.specs.Topology.{has}
use Rattle.reports.specs.Rows.{table}
use Rattle.sim_core.specs.Kept.{Kept, IsKept}
use Rattle.sim_core.specs.World.{World, setting_of, topology}
use Rattle.stability_laws.specs.EntryTexts.{entry_row, row}
use Rattle.stability_laws.specs.Laws.{IsHeight}
use Rattle.stability_laws.specs.Rounds.{seeds_of}
use Rattle.stability_laws.specs.Runs.{IsRunBy}
use Rattle.stability_laws.specs.Stable.{IsStable}
use Rattle.stability_laws.specs.Steps.{IsStepWhole}
use Rattle.stability_laws.specs.declared.entry.Entry.{Entry}

-- a row that gives the number of what has this name (own format)
abbrev pub fact : String → ℕ → Text
fact name number = row (codes name ∷ decimal number ∷ [])

-- a row that says whether what has this name holds (own format)
abbrev pub said : String → Bool → Text
said name holds = row (codes name ∷ codes (if holds then "yes" else "no") ∷ [])

-- how many full pieces a list of activations has, how many ASes the longest chain of the world has, and whether the routing is stable (own format)
abbrev pub acts_rows : ℕ → ℕ → Bool → Text
acts_rows full height stable = fact "pieces" full ++ (fact "height" height ++ said "settled" stable)

-- the text says what the activations come to, from what ASes hold at first and with the seeds of the round that follow from the routing that is kept of the round before: the rows of all ASes in the routing then, and what is said of the list and the routing (own format; Gao and Rexford 2001)
abbrev pub IsActsText : World → Acts → Text → Type 0
IsActsText w acts text = (k : Kept) × IsKept w k × (f : ℕ → Option Entry) × (n h : ℕ) × (yes : Bool)
    × let g = topology w in let here = setting_of w acts.prefix in
    let seeds = seeds_of w.plan acts.round acts.prefix (k.routings (acts.round - 1) acts.prefix) in
    IsRunBy (IsStepWhole here seeds) acts.list (fin.get acts.held) f × IsHeight g h
    × IsMostPieces (has g) acts.list n × (IsTrue yes ↔ IsStable here seeds f) × (text ≡ table g
    (λ a. entry_row a (f a)) ++ (fact "pieces" n ++ (fact "height" h ++ said "settled" yes)))
