-- How a case is run, and what it wants.
use Rattle.std.specs.Prelude.{◌≡◌, ℕ, ◌-◌, ◌*◌, ◌<◌, Bool, true, ◌&&◌, nat_eq, if◌then◌else◌, List, [], ◌∷◌, length, map, max, take, string_bytes, IsSome}
use Rattle.std.specs.List.{AllZip, list_all}
use Rattle.std.specs.Str.{bytes_eq}
use Rattle.clap.specs.Walk.{Text}
use Rattle.io_edge.specs.Calls.{IsPast}
use Rattle.io_edge.specs.Files.{NamedFile, held}
use Rattle.io_edge.specs.Mem.{MemBytes, MemFiles}
use Rattle.io_edge.specs.Room.{told}
use Rattle.task_reading.specs.Sources.{Source, source_of}
use Rattle.task_reading.specs.Texts.{number_of}
use Rattle.task_reading.specs.declared.types.Status.{Status}
use Rattle.asprop_run.specs.Runs.{IsRun}
use Rattle.asprop_run.specs.Streams.{Stream, stream_of}
use Rattle.cases.specs.declared.case.Case.{Case}
use Rattle.cases.specs.declared.case.CaseFile.{CaseFile}
use Rattle.cases.specs.declared.case.Way.{Way}
use Rattle.cases.specs.declared.judge.Left.{Left}

-- the files of a case, of which the last one of a name counts (own format)
abbrev pub files_from : List NamedFile → List CaseFile → List NamedFile
files_from held [] = held
files_from held (file ∷ files) = files_from (record { name = string_bytes file.name; bytes = file.bytes.items } ∷ held) files

-- the files of a case in memory, read in this way (own format)
abbrev pub inputs_of : List CaseFile → Way → MemFiles
inputs_of files way = record {
  files = files_from [] files;
  left = [];
  calls = record { fails = way.read ∷ []; made = 0; faults = 0 };
  most = max way.most 1;
}

-- a sink in memory with this room, of which a call takes so many bytes and this call fails (own format)
abbrev pub sink_of : ℕ → ℕ → ℕ → MemBytes
sink_of room most call = record {
  kept = record { room = room; kept = []; whole = true };
  calls = record { fails = call ∷ []; made = 0; faults = 0 };
  most = max most 1;
}

-- inputs in memory from one time to another
abbrev pub source : MemFiles → MemFiles → Source
source = source_of (λ (s : MemFiles) name. held s.files name) (λ s name. IsSome (held s.files name) × IsPast s.calls) (λ s. s.calls.faults)

-- a sink in memory from one time to another
abbrev pub stream : MemBytes → MemBytes → Stream
stream = stream_of (λ (s : MemBytes). told s.kept) (λ s. s.calls.faults)

-- a run of the program over the words and the files of a case in one way, and what it left
pub record Ran (c : Case) (way : Way) (left : Left) : Type 0 where
  pub inputs : MemFiles
  pub out_room : ℕ
  pub err_room : ℕ
  pub out_fits : length c.out.items < out_room
  pub err_fits : length c.err.items < err_room
  pub status : Status
  pub number : left.status ≡ number_of status
  pub ran : IsRun (source (inputs_of c.files.items way) inputs) (map string_bytes c.words.items) status
      (stream (sink_of out_room way.most way.write) left.out) (stream (sink_of err_room way.most way.tell) left.err)

-- what is wanted of a stream: all of these bytes, or those of the calls before the one that fails (own format)
abbrev pub wanted : Text → ℕ → ℕ → Text
wanted bytes most call = if nat_eq call 0 then bytes else take ((call - 1) * max most 1) bytes

-- whether a run left what the case wants (own format)
abbrev pub is_as_wanted : Case → Way → Left → Bool
is_as_wanted c way left = nat_eq left.status c.status
    && bytes_eq left.out.kept.kept (wanted c.out.items way.most way.write)
    && bytes_eq left.err.kept.kept (wanted c.err.items way.most way.tell)

-- the program was run on the case in this way, and this says whether it left what the case wants (own format)
abbrev pub IsTried : Case → Way → Bool → Type 0
IsTried c way passed = (left : Left) × Ran c way left × (passed ≡ is_as_wanted c way left)

-- a way in which no call fails, with at most so many bytes a call (own format)
abbrev pub whole_way : ℕ → Way
whole_way most = record { most = most; read = 0; write = 0; tell = 0 }

-- the ways to run a case: those that it names, or with at most 1, 2, 3 and 1,000,000 bytes a call (own format)
abbrev pub ways_of : Case → List Way
ways_of c = elim c.ways.items [ [] ↦ map whole_way (1 ∷ 2 ∷ 3 ∷ 1000000 ∷ []) | _ ∷ _ ↦ c.ways.items ]

-- the program was run on the case in each of its ways, and this says whether it left what the case wants each time (own format)
abbrev pub IsJudged : Case → Bool → Type 0
IsJudged c passed = (each : List Bool) × AllZip (IsTried c) (ways_of c) each × (passed ≡ list_all (λ b. b) each)
