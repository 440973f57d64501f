-- A command that gets one more argument.
use Rattle.std.proofs.Common.{◌≡◌, ◌∙◌, ap₂, false}
use Rattle.clap.specs.Walk.{Rule}
use Rattle.clap.specs.Words.{AddsArg, App, app_of, rule_of, with_rule}
use Rattle.clap.specs.declared.builder.arg.Arg.{Arg}
use Rattle.clap.specs.declared.builder.command.Command.{Command}

-- the command has the argument's rule besides its own
pub added : {old new : Command} {a : Arg} {app : App} {rule : Rule} → AddsArg old a new → a.global ≡ false
    → app_of old ≡ app → rule_of a ≡ rule → app_of new ≡ with_rule app rule
added adds local was is = adds.shape local ∙ ap₂ with_rule was is
