use Rattle.std.proofs.Common.{◌≡◌, ◌++◌, take, flat_map}
use Rattle.std.specs.FinMap as fin
use Rattle.stability_laws.specs.EntryTexts.{entry_row}
use Rattle.asprop_run.proofs.activating.put_rows.Given as goal

abbrev pub invariant-loop-asn : goal.invariant-loop-asn
invariant-loop-asn l = l.text.items ≡ l.fn.text.items ++ flat_map (λ a. entry_row a (fin.get l.routing a)) (take l.asn-index l.ases)
