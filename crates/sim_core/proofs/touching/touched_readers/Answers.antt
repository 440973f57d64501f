use Rattle.std.proofs.Common.{◌≡◌, ◌∙◌, ◌<◌, List, Some, length, ap, arith}
use Rattle.std.specs.Prelude.{slice_get}
use Rattle.std.proofs.lemmas.Option.{slice_get_within}
use Rattle.net_names.specs.Prefixes.{PrefixValue}
use Rattle.sim_core.proofs.Listed.{more_covered, more_read}
use Rattle.sim_core.proofs.Renewals.{read_at}
use Rattle.sim_core.proofs.touching.touched_readers.Goals as goal

pub loop-prefix-preserved : goal.loop-prefix-preserved
loop-prefix-preserved c =
    let xs = c.prefixes-prefix-items.result.now in
    let i = c.loop-prefix.prefix-index in
    let p = c.prefix-item.result in
    let inv = c.loop-prefix.invariant in
    record {
      only = more_read c.loop-prefix.touched c.touch_covered.new.touched c.args.vrp.prefix c.args.book.now inv.only c.touch_covered.ensures.only;
      these = more_covered c.args.readers.now c.args.book.now c.args.vrps.now c.args.vrp c.args.plan.now xs i p c.loop-prefix.touched c.touch_covered.new.touched (read_at xs i p c.loop-prefix-test.true c.prefix-item.is) inv.these c.touch_covered.ensures.more c.in_ok-touch_covered.ensures.these;
    }

pub returns-clause-these : goal.returns-clause-these
returns-clause-these c prefix known =
    let xs = c.prefixes-prefix-items.result.now in
    let (place, at) = c.prefix_at-first.ensures.listed.whole prefix known in
    let here : slice_get xs place ≡ Some prefix = ap (λ (l : List PrefixValue). slice_get l place) c.prefixes-prefix-items.ensures ∙ at in
    let within : place < length xs = slice_get_within xs place prefix here in
    c.loop-prefix.invariant.these place prefix (omega (arith, within, c.loop-prefix-test.false)) here
