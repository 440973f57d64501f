use Rattle.std.proofs.Common.{◌≡◌, ◌∙◌, ◌<◌, List, Some, length, ap, arith}
use Rattle.std.specs.Prelude.{slice_get}
use Rattle.std.proofs.lemmas.Option.{slice_get_within}
use Rattle.net_names.specs.Prefixes.{PrefixValue}
use Rattle.sim_core.proofs.Renewals.{read_at}
use Rattle.trial_world.proofs.TouchedAround.{prefix_more}
use Rattle.trial_world.proofs.touching.touched_by.Goals as goal

pub loop-prefix-preserved : goal.loop-prefix-preserved
loop-prefix-preserved c =
    let xs = c.prefixes-prefix-items.result.now in
    let i = c.loop-prefix.prefix-index in
    let p = c.prefix-item.result in
    prefix_more c.args.graph.now c.args.book.now c.args.before.now xs i p c.loop-prefix.touched c.touch_all.new.touched (read_at xs i p c.loop-prefix-test.true c.prefix-item.is) c.loop-prefix.invariant c.touch_all.ensures.more c.in_ok-touch_all.ensures.these

pub returns : goal.returns
returns c = λ prefix known.
    let xs = c.prefixes-prefix-items.result.now in
    let (place, at) = c.prefix_at-first.ensures.listed.whole prefix known in
    let here : slice_get xs place ≡ Some prefix = ap (λ (l : List PrefixValue). slice_get l place) c.prefixes-prefix-items.ensures ∙ at in
    let within : place < length xs = slice_get_within xs place prefix here in
    c.loop-prefix.invariant place prefix (omega (arith, within, c.loop-prefix-test.false)) here
