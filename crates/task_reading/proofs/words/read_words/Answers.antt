use Rattle.std.proofs.Common.{◌≡◌, ◌∙◌, [], map, refl, string_bytes}
use Rattle.clap.specs.Words.{kind_of}
use Rattle.clap.specs.declared.error.kind.ErrorKind.TheVariants.{OutOfMemory}
use Rattle.task_reading.proofs.Parsing.{accepted, failed, found, refused, stands, taken}
use Rattle.task_reading.proofs.words.read_words.Goals as goal

pub returns-in-Err : goal.returns-in-Err
returns-in-Err c =
    let other : kind_of c.in-Err.error ≡ OutOfMemory → ⊥ =
    λ h. let same : c.kind.result ≡ OutOfMemory = c.kind.ensures ∙ h in let is = rw same at c.eq.ensures in cc in
    record {
      form = refused (map string_bytes c.args.words.now) c.in-Err.error (failed _ _ c.in-Err.error c.in_ok-command.ensures c.in-Err.ensures.kinds) other;
      sized = tt;
    }

pub returns : goal.returns
returns c =
    let words = map string_bytes c.args.words.now in
    let rows = found _ words _ c.in_ok-command.ensures c.in-Ok.ensures.matches in
    record {
      form = accepted words _ _ _ _ _ _ _ _ _ _ _ (taken _ words c.in_ok-command.ensures c.in-Ok.ensures.kinds)
          (c.get_str-6.ensures ∙ stands _ _ _ rows) (c.get_str-7.ensures ∙ stands _ _ _ rows) (c.get_str-8.ensures ∙ stands _ _ _ rows)
          (c.get_str-5.ensures ∙ stands _ _ _ rows) (c.get_str-4.ensures ∙ stands _ _ _ rows) (c.get_str-3.ensures ∙ stands _ _ _ rows) (c.get_str-2.ensures ∙ stands _ _ _ rows) (c.get_str.ensures ∙ stands _ _ _ rows)
          (c.get_str-9.ensures ∙ stands _ _ _ rows) (c.get_str-10.ensures ∙ stands _ _ _ rows)
          (c.form_by.ensures.form _ (c.with_option-files-5.ensures _ (c.with_option-files-4.ensures _ (c.with_option-files-3.ensures _ (c.with_option-files-2.ensures _ (c.with_option-files.ensures [] refl))))));
      sized = c.form_by.ensures.sized;
    }
