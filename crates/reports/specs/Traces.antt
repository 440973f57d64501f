-- How a printed trace ends.
use Rattle.std.specs.Prelude.{ℕ, List, codes}
use Rattle.data_trace.specs.declared.kinds.End.{End}
use Rattle.data_trace.specs.declared.kinds.End.TheVariants.{At, NoRoute, Loop}

-- the word for how a trace ends (own format)
abbrev pub end_word : End → List ℕ
end_word e = elim e [ At a ↦ codes "delivered" | NoRoute ↦ codes "no-route" | Loop ↦ codes "loop" ]
