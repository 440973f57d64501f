use Rattle.std.proofs.Common.{◌≡◌, get_or, refl, ◌∙◌}
use Rattle.std.proofs.lemmas.List.{get_or_default}
use Rattle.rank_order.proofs.Putting.{putting_more, all_put}
use Rattle.rank_order.proofs.commit.put_all.Goals as goal

pub loop-at-preserved : goal.loop-at-preserved
loop-at-preserved c =
    let ases = c.args.ases.now in
    let i = c.loop-at.at in
    let x = c.index-ases-at.result in
    let here : x ≡ get_or ases i 0 = c.index-ases-at.is ∙ get_or_default ases i x 0 c.loop-at-test.true in
    putting_more ases c.args.given.now c.args.ranks.now.by_as c.requires.rising i x (get_or c.args.given.now i 0) c.loop-at.ranks c.put.new.self c.loop-at-test.true here refl c.put.ensures.entries c.put.ensures.spare c.put.ensures.kept
    c.loop-at.invariant

pub returns : goal.returns
returns c = λ a. all_put c.args.ases.now c.args.given.now c.args.ranks.now.by_as c.loop-at.at c.loop-at.ranks c.loop-at-test.false c.loop-at.invariant a
