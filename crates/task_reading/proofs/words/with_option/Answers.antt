use Rattle.std.proofs.Common.{List, [], ◌∷◌, ap}
use Rattle.clap.specs.Walk.{Text}
use Rattle.task_reading.specs.declared.words.FileOption.{FileOption}
use Rattle.task_reading.proofs.words.with_option.Goals as goal

pub returns-in-Some-One : goal.returns-in-Some-One
returns-in-Some-One c files stand =
    let first : FileOption × Text = (c.args.option, c.in-Some-One.field-0-0.now) in
    rw c.in-Some-One.is-0 (first, (c.in-Some-One.field-0-1, c.in-Some-One.field-1-1.now), [], ap (λ (rest : List (FileOption × Text)). first ∷ rest) (rw c.in-Some-One.is-1 at stand))

pub returns-in-Some-More : goal.returns-in-Some-More
returns-in-Some-More c files stand =
    let first : FileOption × Text = (c.args.option, c.in-Some-More.field-0-0.now) in
    let more = rw c.in-Some-More.is-1 at stand in
    rw c.in-Some-More.is-0 (first, more.0, more.1 ∷ more.2, ap (λ (rest : List (FileOption × Text)). first ∷ rest) more.3)
