use Rattle.std.proofs.Common.{◌≡◌, ◌≤◌, ◌||◌, ◌∙◌, ap, subst, length, take}
use Rattle.std.specs.List.{list_any}
use Rattle.std.proofs.lemmas.List.{take_all}
use Rattle.roa_table.specs.Sets.{items}
use Rattle.roa_table.proofs.Placed.{count_items}
use Rattle.origin_validation.proofs.Judgement.{counts, counts_and_matches, place_step, all_ended}
use Rattle.origin_validation.proofs.judging.judge_few.Goals as goal

pub loop-place-preserved : goal.loop-place-preserved
loop-place-preserved c =
    let row = c.payloads_from-row.result.now in
    let test = counts c.args.but.now c.args.prefix in
    let both = counts_and_matches c.args.but.now c.args.prefix c.args.origin in
    let all : take c.loop-vrp.vrp-index row ≡ row = take_all c.loop-vrp.vrp-index row c.loop-vrp-test.false in
    record {
      found = place_step test (items c.args.vrps.now) c.loop-place.place row _ _ c.payloads_from-row.ensures.next c.loop-place.invariant.found (c.loop-vrp.invariant.found ∙ ap (λ l. c.loop-place.found || list_any test l) all);
      valid = place_step both (items c.args.vrps.now) c.loop-place.place row _ _ c.payloads_from-row.ensures.next c.loop-place.invariant.valid (c.loop-vrp.invariant.valid ∙ ap (λ l. c.loop-place.valid || list_any both l) all);
    }

pub returns : goal.returns
returns c =
    let end : length (items c.args.vrps.now) ≤ c.loop-place.place = subst (λ n. n ≤ c.loop-place.place) (c.len.ensures.value ∙ count_items c.args.vrps.now) c.loop-place-test.false in
    c.state_by.ensures ∙ all_ended c.args.vrps.now c.args.but.now c.args.prefix c.args.origin c.loop-place.found c.loop-place.valid c.loop-place.place c.loop-place.invariant.found c.loop-place.invariant.valid end
