-- A reader of a relationship file that comes in pieces: where it stands, and what the file comes to.
use Rattle.std.specs.Prelude.{◌≡◌, ℕ, ◌+◌, List, [], ◌∷◌, ◌++◌, Option, Some, Result, Ok, Err, Vec}
use Rattle.std.specs.Global.{Global}
use Rattle.std.specs.List.{flat_map}
use Rattle.net_names.specs.Steps.{unless}
use Rattle.net_names.specs.Links.{LinkMap}
use Rattle.caida_reader.specs.Value.{said_in, fault_at}
use Rattle.caida_reader.specs.Firsts.{FirstMap, with_said, relations}
use Rattle.caida_reader.specs.declared.line.Line.{Line}
use Rattle.caida_reader.specs.declared.errors.RelError.{RelError}
use Rattle.caida_reader.specs.declared.errors.RelError.TheVariants as fault

-- Where a reader stands: the pairs of the lines that are judged, the number of the next line, what has come of that line, and the fault that was found.
pub record Progress : Type 0 where
  pub table : FirstMap
  pub line : ℕ
  pub rest : List ℕ
  pub failed : Option RelError

-- What lines from this number on come to, where the lines before them give these pairs.
abbrev pub value_from : FirstMap → ℕ → List Line → Result LinkMap RelError
value_from before line [] = Ok (relations before)
value_from before line (said ∷ more) = unless (fault_at before line said) (value_from (with_said before line said) (line + 1) more)

-- What the whole file comes to, if these bytes are all that is still to come.
abbrev pub outcome : Progress → List ℕ → Result LinkMap RelError
outcome p more = unless p.failed (value_from p.table p.line (said_in (p.rest ++ more)))

-- The fact holds, unless memory ran out.
abbrev pub UnlessMemory : Option RelError → Type 0 → Type 0
UnlessMemory (Some fault.Memory) fact = Unit {0}
UnlessMemory _ fact = fact

-- The first line of the text is judged, and this stands behind its line feed: whatever follows, the file goes on from here.
pub record EndsLine (old new : Progress) (text rest : List ℕ) : Type 0 where
  pub line : List ℕ
  pub whole : text ≡ line ++ 10 ∷ rest
  pub goes_on : UnlessMemory new.failed ((more : List ℕ) → outcome new more ≡ outcome old (line ++ 10 ∷ more))
  pub number : new.line ≡ old.line + 1

-- The file comes to this fault, unless it is want of memory.
abbrev pub Fails : RelError → Result LinkMap RelError → Type 0
Fails fault.Memory value = Unit {0}
Fails e value = value ≡ Err e

-- What a call answered is what the file comes to, unless memory ran out.
abbrev pub Gives : {T : Type 0} → (T → LinkMap) → Result T RelError → Result LinkMap RelError → Type 0
Gives view (Ok x) value = value ≡ Ok (view x)
Gives view (Err e) value = Fails e value

-- The bytes of pieces, one after the other.
abbrev pub joined : List (Vec ℕ Global) → List ℕ
joined pieces = flat_map (λ (piece : Vec ℕ Global). piece.items) pieces
