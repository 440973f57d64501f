-- What is found of a section at its place.
use Rattle.std.proofs.Common.{◌≡◌, ℕ, suc, ◌<◌, false, Option, None, Some}
use Rattle.stability_laws.specs.declared.entry.Entry.{Entry}
use Rattle.stability_laws.specs.declared.entry.Seed.{Seed}
use Rattle.stability_laws.specs.Offers.{Setting}
use Rattle.stability_laws.specs.Plans.{Plan}
use Rattle.stability_laws.specs.Rounds.{seeds_of}
use Rattle.table_check.specs.declared.tables.Tables.{Tables}
use Rattle.table_check.specs.declared.verdict.Fault.{Fault}
use Rattle.table_check.specs.Rows.{held_by}
use Rattle.table_check.specs.Checked.{IsRightIn, IsInOrder}
use Rattle.table_check.specs.Walk.{Fits, IsFault}

-- nobody is wrong in the section after `before`, or who is the lowest and what it would be right with
abbrev pub Found : Setting → Plan → Tables → ℕ → Option Fault → Type 0
Found w plan t before None = (a : ℕ) → IsInOrder w plan t before a
Found w plan t before (Some fault) = (IsInOrder w plan t before fault.asn → ⊥) × ((b : ℕ) → b < fault.asn → IsInOrder w plan t before b) × IsRightIn w plan t before fault.asn fault.right

-- what is found with the seeds and the rows of a round is found of its section
pub in_section : (w : Setting) (plan : Plan) (t : Tables) (before round : ℕ) → round ≡ suc before → (found : Option Fault)
    → IsFault w (seeds_of plan round t.prefix (held_by t.rows before)) (held_by t.rows round) found → Found w plan t before found
in_section w plan t before round is found given =
    said found (coe 0 1 (i. IsFault w (seeds_of plan (is i) t.prefix (held_by t.rows before)) (held_by t.rows (is i)) found) given)
  where
    seeds_here : ℕ → Option Seed
    seeds_here = seeds_of plan (suc before) t.prefix (held_by t.rows before)

    held_here : ℕ → Option Entry
    held_here = held_by t.rows (suc before)

    fits : (a : ℕ) (o : Option Entry) → Fits w seeds_here held_here a o → IsRightIn w plan t before a o
    fits a o h = (h.inside, h.outside)

    fitting : (a : ℕ) (o : Option Entry) → IsRightIn w plan t before a o → Fits w seeds_here held_here a o
    fitting a o h = record { inside = h.0; outside = h.1 }

    said : (found : Option Fault) → IsFault w seeds_here held_here found → Found w plan t before found
    said None h = λ a. fits a (held_here a) (h a)
    said (Some fault) h = (λ fine. h.0.wrong (fitting fault.asn (held_here fault.asn) fine), (λ b less. fits b (held_here b) (h.0.lowest b less)), fits fault.asn fault.right h.1)
