use Rattle.std.proofs.Common.{◌∙◌, ap}
use Rattle.net_names.specs.Numbers.{occurs}
use Rattle.trial_world.specs.Fixed.{world_of}
use Rattle.trial_world.specs.Trials.{plain_in}
use Rattle.trial_world.proofs.TrialWorlds.{copied_kinds}
use Rattle.trial_world.proofs.trial.trial_of.Goals as goal

pub returns-clause-right : goal.returns-clause-right
returns-clause-right c = record {
  fixed = c.requires;
  kept = c.in_ok-kept.ensures;
  gone = c.plain_count-gone.ensures ∙ ap (λ xs. plain_in xs c.in_ok-book.book) c.as_slice-2.ensures.value;
}

pub returns-clause-kinds : goal.returns-clause-kinds
returns-clause-kinds c = λ a.
    c.in_ok-book.ensures a
    ∙ copied_kinds (world_of c.args.fixed) c.args.fixed.graph.now c.book.result.now c.as_slice.result.now c.requires.graph c.book.ensures (λ b. ap (occurs b) c.as_slice.ensures.value ∙ c.in_ok-order.ensures.order.complete b) a
