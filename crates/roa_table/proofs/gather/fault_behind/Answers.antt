use Rattle.std.proofs.Common.{◌≡◌, arith, length, refl}
use Rattle.roa_table.specs.Sets.{count, set_of}
use Rattle.roa_table.proofs.Gathered.{count_same}
use Rattle.roa_table.proofs.gather.fault_behind.Goals as goal

pub returns-then-len-gt-MOST_PAYLOADS : goal.returns-then-len-gt-MOST_PAYLOADS
returns-then-len-gt-MOST_PAYLOADS c =
    let all : count (set_of c.args.vrps.now.items) ≡ length c.tidy.new.vrps.items = count_same c.args.vrps.now.items c.tidy.new.vrps.items c.tidy.ensures.rising c.tidy.ensures.members in
    omega (arith, all)

pub returns : goal.returns
returns c =
    let all : count (set_of c.args.vrps.now.items) ≡ length c.tidy.new.vrps.items = count_same c.args.vrps.now.items c.tidy.new.vrps.items c.tidy.ensures.rising c.tidy.ensures.members in
    (refl, omega (arith, all))
