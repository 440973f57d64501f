use Rattle.std.proofs.Common.{ℕ, List, codes, sym, ap}
use Rattle.sim_core.specs.declared.errors.EditLimit.{EditLimit}
use Rattle.sim_core.specs.declared.errors.EditLimit.TheVariants.{Announcements, Ases, Links, Vrps}
use Rattle.asprop_run.proofs.refusals.limit_name.Goals as goal

abbrev name : EditLimit → List ℕ
name which = codes (elim which [ Links ↦ "links" | Announcements ↦ "announcements" | Ases ↦ "ases" | Vrps ↦ "payloads" ])

pub returns-in-Links : goal.returns-in-Links
returns-in-Links c = ap name (sym c.in-Links.is)

pub returns-in-Announcements : goal.returns-in-Announcements
returns-in-Announcements c = ap name (sym c.in-Announcements.is)

pub returns-in-Ases : goal.returns-in-Ases
returns-in-Ases c = ap name (sym c.in-Ases.is)

pub returns-in-Vrps : goal.returns-in-Vrps
returns-in-Vrps c = ap name (sym c.in-Vrps.is)
