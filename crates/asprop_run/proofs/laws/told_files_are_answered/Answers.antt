use Rattle.asprop_run.proofs.StatusLemmas.{as_told, complete}
use Rattle.asprop_run.proofs.laws.told_files_are_answered.Goals as goal

pub returns : goal.returns
returns g c = record {
  told = λ old new out after err told words s ran. as_told ran;
  complete = λ old new out after err told words s ran. complete ran;
}
