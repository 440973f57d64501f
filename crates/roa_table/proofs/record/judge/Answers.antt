use Rattle.std.proofs.Common.{◌∙◌, ap, sym}
use Rattle.std.specs.Result.{result_map_both}
use Rattle.csv.specs.Records.{fields_of}
use Rattle.roa_table.proofs.Judged.{same_texts, fewer, fewer_than_two, none_at_all}
use Rattle.roa_table.proofs.record.judge.Goals as goal

pub returns-in-Some-get-2 : goal.returns-in-Some-get-2
returns-in-Some-get-2 c = c.judge_texts.ensures ∙ sym (ap (result_map_both (λ v. v) (λ e. e c.args.row)) (same_texts (fields_of c.args.fields.now) _ _ _ (sym c.in-Some.ensures.value) (sym c.in-Some-get.ensures.value) (sym c.in-Some-get-2.ensures.value)))

pub returns-in-None-get-2 : goal.returns-in-None-get-2
returns-in-None-get-2 c = sym (ap (result_map_both (λ v. v) (λ e. e c.args.row)) (fewer (fields_of c.args.fields.now) (sym c.in-None-get-2.ensures.value)))

pub returns-in-None-get : goal.returns-in-None-get
returns-in-None-get c = sym (ap (result_map_both (λ v. v) (λ e. e c.args.row)) (fewer_than_two (fields_of c.args.fields.now) (sym c.in-None-get.ensures.value)))

pub returns-in-None : goal.returns-in-None
returns-in-None c = sym (ap (result_map_both (λ v. v) (λ e. e c.args.row)) (none_at_all (fields_of c.args.fields.now) (sym c.in-None.ensures.value)))
