-- The printed counts of a watched address: for each group of ASes a row for each end.
use Rattle.std.specs.Prelude.{ℕ, ◌==◌, nat_lt, List, [], ◌∷◌, ◌++◌, if◌then◌else◌, codes, decimal, filter, map}
use Rattle.std.specs.List.{flat_map}
use Rattle.policy_kinds.specs.Names.{kinds, name_of}
use Rattle.data_trace.specs.declared.kinds.End.{End}
use Rattle.data_trace.specs.declared.kinds.End.TheVariants.{At, NoRoute, Loop}
use Rattle.reports.specs.declared.group.Group.{Group}
use Rattle.reports.specs.declared.group.Group.TheVariants.{Total, Stub, Of}
use Rattle.stability_laws.specs.EntryTexts.{row}

-- the name of a group: all ASes, those without customers, or those whose policy is of a kind (own format)
abbrev pub group_name : Group → List ℕ
group_name g = elim g [ Total ↦ codes "total" | Stub ↦ codes "stub" | Of kind ↦ name_of kind ]

-- a row of a group: the group's name, `|`, what is counted, `|`, the count and a line feed (own format)
abbrev pub count_row : Group → List ℕ → ℕ → List ℕ
count_row g what n = row (group_name g ∷ what ∷ decimal n ∷ [])

-- the rows of a group: how many ASes it has, from how many of them packets are delivered at each announcing AS, where any are, from how many there is no route, and from how many packets run in a loop (own format)
unfoldable pub group_text : (Group → ℕ) → (Group → End → ℕ) → List ℕ → Group → List ℕ
group_text size count ases g = let line = count_row g in line (codes "ases") (size g) ++ flat_map (
    λ a. if count g (At a) == 0 then [] else line (codes "to " ++ decimal a) (count g (At a))) ases
    ++ line (codes "no-route") (count g NoRoute) ++ line (codes "loop") (count g Loop)

-- the counts group by group: of all ASes, of those without customers, and of those of each kind that some AS has, where the groups are so large, and the traces of so many ASes of a group have such an end (own format)
unfoldable pub report_text : (Group → ℕ) → (Group → End → ℕ) → List ℕ → List ℕ
report_text size count announcers = flat_map (group_text size count announcers)
    (Total ∷ Stub ∷ filter (λ g. nat_lt 0 (size g)) (map (λ kind. Of kind) kinds))
