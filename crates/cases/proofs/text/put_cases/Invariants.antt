use Rattle.std.proofs.Common.{◌≡◌, ◌++◌, take}
use Rattle.std.specs.List.{flat_map}
use Rattle.cases.specs.Texts.{case_text}
use Rattle.cases.proofs.text.put_cases.Given as goal

abbrev pub invariant-loop-case : goal.invariant-loop-case
invariant-loop-case l = l.out.items ≡ l.fn.out.items ++ flat_map case_text (take l.case-index l.cases)
