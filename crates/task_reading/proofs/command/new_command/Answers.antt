use Rattle.std.proofs.Common.{◌≡◌, ◌∙◌, ap, codes, true}
use Rattle.std.proofs.lemmas.Result.{IfOk-weaker}
use Rattle.clap.specs.Simple.{app_of, app_of_fields, new_app, on_top}
use Rattle.task_reading.specs.Command.{asprop_command}
use Rattle.task_reading.proofs.Adding.{added}
use Rattle.task_reading.proofs.command.new_command.Goals as goal

pub returns : goal.returns
unfolding asprop_command
returns c =
    let no_help : app_of c.disable_help_flag.result ≡ on_top (λ s. record s { disable_help_flag = true }) (app_of c.new.result) = ap app_of_fields c.disable_help_flag.ensures in
    let no_version : app_of c.disable_version_flag-bare.result ≡ on_top (λ s. record s { disable_version_flag = true }) (app_of c.disable_help_flag.result) = ap app_of_fields c.disable_version_flag-bare.ensures in
    let bare : app_of c.disable_version_flag-bare.result ≡ on_top (λ s. record s { disable_help_flag = true; disable_version_flag = true }) (new_app (codes "asprop")) =
    no_version ∙ ap (on_top (λ s. record s { disable_version_flag = true })) (no_help ∙ ap (on_top (λ s. record s { disable_help_flag = true })) c.new.ensures.app) in
    let vrps = added c.in_ok-arg.ensures c.option.ensures.local bare c.option.ensures.rule in
    let scenario = added c.in_ok-arg-2.ensures c.option-2.ensures.local vrps c.option-2.ensures.rule in
    let origin = added c.in_ok-arg-3.ensures c.option-3.ensures.local scenario c.option-3.ensures.rule in
    let demo = added c.in_ok-arg-4.ensures c.option-4.ensures.local origin c.option-4.ensures.rule in
    let script = added c.in_ok-arg-5.ensures c.option-5.ensures.local demo c.option-5.ensures.rule in
    let activations = added c.in_ok-arg-6.ensures c.option-6.ensures.local script c.option-6.ensures.rule in
    let messages = added c.in_ok-arg-7.ensures c.option-7.ensures.local activations c.option-7.ensures.rule in
    let sweep = added c.in_ok-arg-8.ensures c.option-8.ensures.local messages c.option-8.ensures.rule in
    let check = added c.in_ok-arg-9.ensures c.option-9.ensures.local sweep c.option-9.ensures.rule in
    IfOk-weaker c.arg-10.result _ _ (λ command adds. added adds c.word.ensures.local check c.word.ensures.rule) c.arg-10.ensures
