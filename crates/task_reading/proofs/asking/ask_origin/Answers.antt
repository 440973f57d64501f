use Rattle.std.proofs.Common.{Ok, Err, refl}
use Rattle.std.proofs.lemmas.Result.{err_from_is_err_and}
use Rattle.net_names.specs.Links.{LinkMap}
use Rattle.task_reading.specs.declared.types.AskError.TheVariants as error
use Rattle.task_reading.proofs.Preparing.{origin_stopped, origin_found}
use Rattle.task_reading.proofs.asking.ask_origin.Goals as goal

pub returns-in_err-links : goal.returns-in_err-links
returns-in_err-links g c =
    let p = err_from_is_err_and c.from_residual.result c.from_residual.ensures.1 in
    rw (p.1, p.2) (origin_stopped _ _ (λ (links : LinkMap). links) c.in_err-links.field-0.0 c.in_err-links.ensures.found)

pub returns-in_err-scenario : goal.returns-in_err-scenario
returns-in_err-scenario g c =
    let p = err_from_is_err_and c.from_residual-in_err-scenario.result c.from_residual-in_err-scenario.ensures.1 in
    rw (p.1, p.2) (origin_found _ _ (λ (links : LinkMap). links) c.in_ok-links.links (Err error.Memory) c.in_ok-links.ensures.found tt)

pub returns-in_err-lines : goal.returns-in_err-lines
returns-in_err-lines g c =
    let p = err_from_is_err_and c.from_residual-in_err-lines.result c.from_residual-in_err-lines.ensures.1 in
    rw (p.1, p.2) (origin_found _ _ (λ (links : LinkMap). links) c.in_ok-links.links (Err error.Memory) c.in_ok-links.ensures.found tt)

pub returns : goal.returns
returns g c = origin_found _ _ (λ (links : LinkMap). links) c.in_ok-links.links (Ok _) c.in_ok-links.ensures.found (rw (c.of_asks.ensures, c.new.ensures, c.in_ok-scenario.ensures, c.in_ok-lines.ensures) refl)
