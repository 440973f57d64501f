-- The groups by the rows of a watch.
use Rattle.std.specs.Prelude.{ℕ, ◌==◌, Bool, true, nat_lt, List, [], ◌++◌, if◌then◌else◌, codes, decimal}
use Rattle.policy_kinds.specs.Kinds.{label}
use Rattle.data_trace.specs.Watches.{Row, count_of, size_of}
use Rattle.data_trace.specs.declared.kinds.End.{End}
use Rattle.data_trace.specs.declared.kinds.End.TheVariants.{At}
use Rattle.data_trace.specs.declared.kinds.Which.{Which}
use Rattle.data_trace.specs.declared.kinds.Which.TheVariants as which
use Rattle.reports.specs.Counts.{count_row, group_text}
use Rattle.reports.specs.declared.group.Group.{Group}
use Rattle.reports.specs.declared.group.Group.TheVariants as group

-- which ASes of a watch the group has
abbrev pub which_of : Group → Which
which_of group.Total = which.All
which_of group.Stub = which.Stub
which_of (group.Of kind) = which.Label (label kind)

-- how many rows the group has
abbrev pub group_size : List Row → Group → ℕ
group_size rows g = size_of rows (which_of g)

-- how many rows of the group have this end
abbrev pub group_count : List Row → Group → End → ℕ
group_count rows g e = count_of rows (which_of g) e

-- the row of an AS at which packets of a group are delivered; there is none where none are (own format)
unfoldable pub delivered_text : (Group → End → ℕ) → Group → ℕ → List ℕ
delivered_text count g a = if count g (At a) == 0 then [] else count_row g (codes "to " ++ decimal a) (count g (At a))

-- a kind that no AS has is not printed (own format)
abbrev pub is_printed : (Group → ℕ) → Group → Bool
is_printed size (group.Of kind) = nat_lt 0 (size (group.Of kind))
is_printed size g = true

-- the rows of a group, if it is printed (own format)
abbrev pub printed_text : List Row → List ℕ → Group → List ℕ
printed_text rows announcers g =
    if is_printed (group_size rows) g then group_text (group_size rows) (group_count rows) announcers g else []
