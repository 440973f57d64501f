-- Where a reader of records stands: which records are still to come.
use Rattle.std.specs.Prelude.{◌≡◌, ℕ, ◌+◌, Bool, true, false, List, [], ◌∷◌, length, Some}
use Rattle.std.specs.Borrow.{Bor}
use Rattle.csv.specs.Machine.{ends_at_end}
use Rattle.csv.specs.Reading.{records_from, default_config, source_of, reader_trim, reader_config, reader_state, is_flexible, Ready}
use Rattle.csv.specs.declared.parser.State.{State}
use Rattle.csv.specs.declared.reader.Reader.{Reader}
use Rattle.csv.specs.declared.reader.Trim.TheVariants as trim

-- a record is the list of its fields
abbrev pub Record : Type 0
Record = List (List ℕ)

-- a reader of bytes
abbrev pub ByteReader : Type 0
ByteReader = Reader (Bor (List ℕ))

-- the records that a text has from a state on
abbrev pub records_left : State → List ℕ → List Record
records_left s xs = records_from default_config (length xs + 1) s xs

-- these records are still to come, of whatever lengths
pub record Stands (reader : ByteReader) (rest : List Record) : Type 0 where
  pub untrimmed : reader_trim reader ≡ trim.None
  pub flexible : is_flexible reader ≡ true
  pub ready : Ready reader
  pub config : reader_config reader ≡ default_config
  pub text : List ℕ
  pub source : source_of (λ (s : Bor (List ℕ)). Some s.now) reader ≡ Some text
  pub start : ends_at_end (reader_state reader) ≡ false
  pub is : rest ≡ records_left (reader_state reader) text

-- the first of these records was read, or there was none
abbrev pub GoesOn : ByteReader → List Record → Bool → Record → Type 0
GoesOn reader [] found fields = found ≡ false
GoesOn reader (first ∷ rest) found fields = (found ≡ true) × (fields ≡ first) × Stands reader rest
