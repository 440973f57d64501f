use Rattle.std.proofs.Common.{◌≡◌, ap, ◌∙◌, rules, suc, ◌&&◌}
use Rattle.std.specs.List.{list_any}
use Rattle.roa_table.specs.Cover.{of_prefix}
use Rattle.net_names.specs.Coverage.{shortened}
use Rattle.origin_validation.specs.Judging.{matches, state_of}
use Rattle.origin_validation.specs.Leaving.{is_left, less}
use Rattle.origin_validation.proofs.Judgement.{ended, row_step}
use Rattle.origin_validation.proofs.judging.judge.Goals as goal

pub loop-len-preserved : goal.loop-len-preserved
loop-len-preserved c =
    let short : of_prefix c.args.vrps.now c.shortened-outer.result ≡ of_prefix c.args.vrps.now (shortened c.args.prefix c.loop-len.len) = ap (of_prefix c.args.vrps.now) c.shortened-outer.ensures in
    record {
      found = row_step c.args.vrps.now c.args.but.now c.args.prefix c.get-number.result (is_left c.args.but.now) c.loop-len.len _ _ c.loop-len.invariant.found (c.has_left-left.ensures ∙ ap (list_any (is_left c.args.but.now)) (c.of_prefix-row.ensures ∙ short));
      valid = row_step c.args.vrps.now c.args.but.now c.args.prefix c.get-number.result (λ v. is_left c.args.but.now v && matches c.args.prefix c.get-number.result v) c.loop-len.len _ _ c.loop-len.invariant.valid
          (c.has_match-matched.ensures ∙ ap (list_any (λ v. is_left c.args.but.now v && matches c.args.prefix c.get-number.result v)) short);
    }

pub returns-then-len-le-FEW : goal.returns-then-len-le-FEW
returns-then-len-le-FEW c = c.judge_few.ensures ∙ ap (λ o. state_of (less c.args.vrps.now c.args.but.now) c.args.prefix o) c.get-number.ensures.value

pub returns : goal.returns
returns c =
    let e : c.loop-len.len ≡ suc c.args.prefix.len = search rules in
    c.state_by.ensures
    ∙ ended c.args.vrps.now c.args.but.now c.args.prefix c.get-number.result c.loop-len.found c.loop-len.valid c.loop-len.len c.loop-len.invariant.found c.loop-len.invariant.valid e c.rows_cover.ensures.rows
    ∙ ap (λ o. state_of (less c.args.vrps.now c.args.but.now) c.args.prefix o) c.get-number.ensures.value
