-- The pairs of the lines so far, as a reader keeps them.
use Rattle.std.specs.Prelude.{◌≡◌, ℕ, ◌<◌, ◌≤◌, List, map, IsSome, Some, None, Result, Ok, Err, if◌then◌else◌}
use Rattle.std.specs.Option.{is_some}
use Rattle.std.specs.Coded.{Coded, coded×, coded_ℕ}
use Rattle.std.specs.FinMap as fin
use Rattle.net_names.specs.Links.{pair_cmp, LinkMap}
use Rattle.net_names.specs.declared.routes.Rel.{Rel}
use Rattle.caida_reader.specs.Value.{numbered, fault_at}
use Rattle.caida_reader.specs.declared.line.Line.{Line}
use Rattle.caida_reader.specs.declared.line.Line.TheVariants.{Link}
use Rattle.caida_reader.specs.declared.firsts.First.{First}
use Rattle.caida_reader.specs.contracts.firsts.First as first
use Rattle.caida_reader.specs.declared.errors.RelError.{RelError}
use Rattle.caida_reader.specs.declared.errors.RelError.TheVariants as fault
use Rattle.net_names.specs.declared.links.TheConstants.{MOST_LINKS}

-- Pairs of ASes, each with what the first line says that gives the pair, and the number of that line.
abbrev pub FirstMap : Type 0
FirstMap = fin.FinMap pair_cmp First

-- How such a map is stored as a value.
abbrev pub first_map_code : Coded FirstMap
first_map_code = fin.code (coded× coded_ℕ coded_ℕ) first.the_row.coded

-- The pairs that lines give, each with its first line.
abbrev pub firsts : List Line → FirstMap
firsts said = fin.from_entries (numbered 1 said)

-- The pairs with one more, unless it stands already.
abbrev pub with_first : FirstMap → ℕ × ℕ → First → FirstMap
with_first before pair given = if is_some (fin.get before pair) then before else fin.insert before pair given

-- The pairs after a line of this number.
abbrev pub with_said : FirstMap → ℕ → Line → FirstMap
with_said before line (Link lo hi rel) = with_first before (lo, hi) (record { rel = rel; line = line })
with_said before line said = before

-- The line has no fault, and these are the pairs after it; or it has this fault; or memory ran out.
abbrev pub Judges : FirstMap → FirstMap → ℕ → Line → Result (Unit {0}) RelError → Type 0
Judges old new line said (Ok _) = (fault_at old line said ≡ None) × (new ≡ with_said old line said)
Judges old new line said (Err fault.Memory) = Unit {0}
Judges old new line said (Err e) = fault_at old line said ≡ Some e

-- A pair with its relation, without the line.
abbrev pub link_at : (ℕ × ℕ) × First → (ℕ × ℕ) × Rel
link_at entry = (entry.0, entry.1.rel)

-- The links of the pairs, without their lines.
abbrev pub relations : FirstMap → LinkMap
relations pairs = fin.from_entries (map link_at (fin.entries pairs))

-- Each pair begins with the lower AS, so many pairs stand, and they are 1,500,000 at most.
pub record ArePairs (pairs : FirstMap) (count : ℕ) : Type 0 where
  pub lower : (pair : ℕ × ℕ) → IsSome (fin.get pairs pair) → pair.0 < pair.1
  pub counted : count ≡ fin.len pairs
  pub few : count ≤ MOST_LINKS
