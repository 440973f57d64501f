use Rattle.std.proofs.Common.{rules, arith, refl, ap, ◌∙◌}
use Rattle.std.proofs.lemmas.List.{get_or_read}
use Rattle.route_choice.specs.declared.row.Row.{Row}
use Rattle.route_choice.specs.Rows.{entries_of}
use Rattle.route_choice.specs.Slots.{uses_in}
use Rattle.route_choice.proofs.Filling.{kept_more, none_more, others_more, pairs_more, row_uses}
use Rattle.route_choice.proofs.slots.take_rows.Goals as goal

pub loop-index-preserved : goal.loop-index-preserved
loop-index-preserved c =
    let first = c.args.from.now in
    let old = c.loop-index.from in
    let new = c.take_near-slot.new.self in
    let ases = c.args.ases.now in
    let i = c.loop-index.index in
    let x = c.index-ases-index.result in
    let inside = c.loop-index-test.true in
    let is = get_or_read ases i x inside c.index-ases-index.is 0 in
    let taken = c.take_near-slot.ensures in
    let kept = c.loop-index.invariant in
    let row : Row = record { asn = x; slot = c.take_near-slot.result } in
    record {
      entries = ap entries_of c.push_reserved.ensures.items
          ∙ pairs_more first old new ases i x inside is taken.others c.requires.apart kept.others c.loop-index.rows.items row refl taken.taken kept.entries;
      none = none_more first old new ases i x inside is taken.others taken.none kept.none;
      others = others_more first old new ases i x inside is taken.others kept.others;
      kept = kept_more first old new ases i x inside is taken.others taken.kept kept.kept;
      uses = λ k. omega (arith, ap (λ rows. uses_in (entries_of rows) k) c.push_reserved.ensures.items, row_uses c.loop-index.rows.items row k, taken.uses k, kept.uses k);
      spare = taken.spare ∙ kept.spare;
      len = search rules;
      room = search rules;
    }
