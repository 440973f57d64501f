use Rattle.std.proofs.Common.{◌≡◌, ◌∙◌, false, sym, ap}
use Rattle.net_names.specs.Coverage.{covers}
use Rattle.net_names.specs.Prefixes.{PrefixValue}
use Rattle.sim_core.proofs.PayloadEdits.{taken_elsewhere}
use Rattle.sim_core.proofs.touching.touch_covered.Goals as goal

pub returns-then-not-covers-clause-these : goal.returns-then-not-covers-clause-these
returns-then-not-covers-clause-these c a there reads free origin is =
    let off : covers c.args.vrp.prefix c.args.prefix ≡ false = ap (λ (p : PrefixValue). covers p c.args.prefix) (sym c.prefix.ensures) ∙ sym c.if-not-covers.ensures in
    taken_elsewhere c.args.vrps.now c.args.vrp c.args.prefix origin off
