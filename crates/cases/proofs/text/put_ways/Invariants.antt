use Rattle.std.proofs.Common.{◌≡◌, ◌++◌, take}
use Rattle.std.specs.List.{flat_map}
use Rattle.cases.specs.Texts.{way_text}
use Rattle.cases.proofs.text.put_ways.Given as goal

abbrev pub invariant-loop-way : goal.invariant-loop-way
invariant-loop-way l = l.out.items ≡ l.fn.out.items ++ flat_map way_text (take l.way-index l.ways)
