use Rattle.std.proofs.Common.{◌≡◌, ◌++◌, take}
use Rattle.cases.specs.Texts.{lines}
use Rattle.cases.proofs.text.put_lines.Given as goal

abbrev pub invariant-loop-text : goal.invariant-loop-text
invariant-loop-text l = l.out.items ≡ l.fn.out.items ++ lines l.word (take l.text-index l.texts)
