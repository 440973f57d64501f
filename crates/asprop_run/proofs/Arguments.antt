-- How the program starts by what its arguments give.
use Rattle.std.proofs.Common.{inl, inr, [], Ok, Err, None, String, Vec, Global, map, string_bytes, subst}
use Rattle.asprop_run.specs.Streams.{Stream}
use Rattle.task_reading.specs.Sources.{Source}
use Rattle.asprop_run.specs.Runs.{Explained, IsRun}
use Rattle.asprop_run.specs.Started.{Args, IsWordsOf, Starts}
use Rattle.task_reading.specs.declared.types.Status.{Status}
use Rattle.asprop_run.specs.declared.types.Failure.{Failure}

-- the run went over the words that the arguments give
pub over_words : {from : Source} {out err : Stream} (args : Args) (words : Vec (String Global) Global) (s : Status) → IsWordsOf args (Ok words)
    → IsRun from (map string_bytes words.items) s out err → Starts from args s out err
over_words (Ok args) words s given ran = inl (words.items, given, ran)
over_words (Err error) words s given ran = absurd given

-- there are no words, and the reason was told
pub without_words : (from : Source) (out err : Stream) (args : Args) (reason : Failure) (s : Status) → IsWordsOf args (Err reason) → Explained None reason s err → out.wrote [] → Starts from args s out err
without_words from out err (Ok args) reason s is told nil = inr (subst (λ (r : Failure). Explained None r s err) is told, nil)
without_words from out err (Err error) reason s is told nil = (subst (λ (r : Failure). Explained None r s err) is told, nil)
