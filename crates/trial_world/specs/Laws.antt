-- Laws of sweeps over a world.
use Rattle.std.specs.Prelude.{◌≡◌, ◌++◌, ℕ, true, List}
use Rattle.std.specs.FinSet as set
use Rattle.net_names.specs.Addresses.{AddrValue}
use Rattle.data_trace.specs.contracts.kinds.EndPartialEq.TheImpl as same_end
use Rattle.sim_core.specs.Counting.{how_many}
use Rattle.sim_core.specs.Kept.{IsKept, Kept}
use Rattle.sim_core.specs.World.{HasCycle, World, has_round}
use Rattle.sweep.specs.declared.sweeps.Sweep.{Sweep}
use Rattle.sweep.specs.declared.trial.Fate.{Fate}
use Rattle.trial_world.specs.Sweeps.{AreNumbers, IsBegunIn, IsSweptIn, end_of, is_inside}

-- a line that is in a world without a provider cycle has one text (Gao and Rexford 2001)
abbrev pub OneSweptText : Type 0
OneSweptText = (w : World) (line : Sweep) (x y : List ℕ) → (HasCycle w → ⊥) → is_inside w line ≡ true → IsSweptIn w line x → IsSweptIn w line y → x ≡ y

-- the number of each fate in a round and for a watched address that are there is that of the ends that are kept of the world, which a report counts
abbrev pub SweptNumbersAreReported : Type 0
SweptNumbersAreReported = (w : World) (k : Kept) (round : ℕ) (addr : AddrValue) (numbers : Fate → ℕ) → (HasCycle w → ⊥) → IsKept w k → has_round w round ≡ true → set.contains w.watched addr ≡ true
    → AreNumbers w round addr numbers → (f : Fate) → numbers f ≡ how_many w (λ a. (same_end.ghosts).eq (k.ends round addr a) (end_of f))

-- what is written of a line whose text could not be finished is a front of the line's one text (own format)
abbrev pub BegunRowsAreAFront : Type 0
BegunRowsAreAFront = (w : World) (line : Sweep) (begun text : List ℕ) → (HasCycle w → ⊥) → is_inside w line ≡ true → IsBegunIn w line begun → IsSweptIn w line text → (rest : List ℕ) × (text ≡ begun ++ rest)
