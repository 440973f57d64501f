use Rattle.std.proofs.Common.{◌≡◌, arith, length, refl}
use Rattle.roa_table.specs.Sets.{count, set_of}
use Rattle.roa_table.proofs.Gathered.{count_same}
use Rattle.roa_table.proofs.gather.finish.Goals as goal

pub returns-then-len-gt-MOST_PAYLOADS-clause-err : goal.returns-then-len-gt-MOST_PAYLOADS-clause-err
returns-then-len-gt-MOST_PAYLOADS-clause-err c =
    let all : count (set_of c.args.vrps.items) ≡ length c.tidy.new.vrps.items = count_same c.args.vrps.items c.tidy.new.vrps.items c.tidy.ensures.rising c.tidy.ensures.members in
    (refl, omega (arith, all))
