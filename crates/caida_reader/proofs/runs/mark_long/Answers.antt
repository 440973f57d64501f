use Rattle.std.proofs.Common.{◌≡◌, ℕ, List, All, OnOk, Result, Ok, Err, subst, map}
use Rattle.std.specs.FinMap as fin
use Rattle.caida_reader.specs.Firsts.{FirstMap}
use Rattle.caida_reader.specs.Entries.{entry_of}
use Rattle.caida_reader.specs.Marks.{IsMarked}
use Rattle.caida_reader.specs.declared.entry.Entry.{Entry}
use Rattle.caida_reader.specs.declared.firsts.First.{First}
use Rattle.caida_reader.proofs.RunLemmas.{marked_anew}
use Rattle.caida_reader.proofs.EntryLemmas.{marked_pairs}
use Rattle.caida_reader.proofs.runs.mark_long.Goals as goal

all_pairs : {T E : Type 0} (m : FirstMap) (marks : List ℕ) (es : List Entry) (r : Result T E) → map entry_of es ≡ fin.entries m → OnOk r (All (λ (e : Entry). IsMarked marks (e.a, e.b)) es) → OnOk r (All (λ e. IsMarked marks e.0) (fin.entries m))
all_pairs m marks es (Ok x) is all = subst (λ (fs : List ((ℕ × ℕ) × First)). All (λ e. IsMarked marks e.0) fs) is (marked_pairs marks es all)
all_pairs m marks es (Err e) is all = tt

pub returns : goal.returns
returns c =
    marked_anew c.args.run.now c.args.marks.now c.mark_only.new.self c.mark_only.result
    (all_pairs c.args.run.now c.mark_only.new.self c.as_slice.result.now c.mark_only.result c.as_slice.ensures c.mark_only.ensures.marked) c.mark_only.ensures.err c.requires
