-- Which status comes when.
use Rattle.std.specs.Prelude.{◌≡◌, ◌⊎◌, List, [], Option, Some, Ok, IsSomeAnd}
use Rattle.std.specs.Option.{option_map_or}
use Rattle.clap.specs.Walk.{Text}
use Rattle.asprop_run.specs.Streams.{Stream}
use Rattle.task_reading.specs.Sources.{Source}
use Rattle.task_reading.specs.Words.{Form, form_of, name_by}
use Rattle.asprop_run.specs.Task.{HasAnswers, Task, task_of}
use Rattle.asprop_run.specs.Runs.{Run}
use Rattle.task_reading.specs.declared.types.File.{File}
use Rattle.task_reading.specs.declared.types.Status.{Status}
use Rattle.task_reading.specs.declared.types.Status.TheVariants as status

-- These bytes are told of each file that the form names, and no read of it fails; one that isn't named has none.
abbrev pub AreTold : Source → Option Form → (File → Text) → Type 0
AreTold from form files = (file : File) → (option_map_or from.holds (name_by form file) (Some []) ≡ Some (files file)) × (IsSomeAnd (name_by form file) from.fails → ⊥)

-- Where the bytes of the files are told and no read fails, the run is one over those bytes.
abbrev pub RunsAsTold : Source → List Text → Status → Stream → Stream → Type 0
RunsAsTold from words s out err = (files : File → Text) → AreTold from (form_of words) files → Run (form_of words) (λ file. Some (files file)) s out err

-- A task with answers gives Done or SomeRefused, or want of memory, where neither a read nor a write fails.
abbrev pub IsComplete : Source → List Text → Status → Stream → Stream → Type 0
IsComplete from words s out err = (files : File → Text) (task : Task)
    → AreTold from (form_of words) files → ((text : Text) → out.failed text → ⊥)
    → task_of (form_of words) (λ file. Some (files file)) ≡ Ok task → HasAnswers task
    → (s ≡ status.Done) ⊎ ((s ≡ status.SomeRefused) ⊎ (s ≡ status.NoMemory))
