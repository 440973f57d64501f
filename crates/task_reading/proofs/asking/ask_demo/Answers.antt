use Rattle.std.proofs.Common.{Ok, Err, refl}
use Rattle.std.proofs.lemmas.Result.{err_from_is_err_and}
use Rattle.task_reading.specs.declared.types.AskError.TheVariants as error
use Rattle.task_reading.proofs.Preparing.{demo_found}
use Rattle.task_reading.proofs.asking.ask_demo.Goals as goal

pub returns-in_err-links : goal.returns-in_err-links
returns-in_err-links g c =
    let p = err_from_is_err_and c.from_residual.result c.from_residual.ensures.1 in
    rw (p.1, p.2) (demo_found _ (Err error.Memory) tt)

pub returns : goal.returns
returns g c = demo_found _ (Ok _) (rw (c.of_asks.ensures, c.in_ok-links.ensures.links, c.in_ok-links.ensures.vrps, c.in_ok-links.ensures.scenario, c.in_ok-links.ensures.lines) refl)
