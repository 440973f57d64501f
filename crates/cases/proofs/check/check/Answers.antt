use Rattle.std.proofs.Common.{rules, OnOk, refl, inr, subst, ◌∙◌}
use Rattle.io_edge.specs.Bytes.{Appends, AppendsFront}
use Rattle.cases.specs.Reports.{IsFaultyFrom}
use Rattle.cases.proofs.Writing.{all_or_front}
use Rattle.cases.proofs.check.check.Goals as goal

pub returns-in_ok-said-in-Err : goal.returns-in_ok-said-in-Err
returns-in_ok-said-in-Err g c =
    let told = c.as_bytes.ensures.value ∙ c.in_ok-said-in-Err.ensures.ok in
    let old = g.O.Sink.written c.args.out.now in
    let new = g.O.Sink.written c.write_all.new.sink in
    let faulty : IsFaultyFrom c.args.text.now c.in-Err.field-0.0 = search rules in
    inr (
      refl,
      c.in-Err.field-0.0,
      faulty,
      all_or_front c.write_all.result (subst (λ t. OnOk c.write_all.result (Appends old new t)) told c.write_all.ensures.whole) c.write_all.ensures.cause.failed
          (subst (AppendsFront old new) told c.write_all.ensures.front),
    )
