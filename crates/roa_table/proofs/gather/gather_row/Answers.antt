use Rattle.std.proofs.Common.{◌≡◌, ◌∙◌, ap, subst, sym, arith, rules, length, ◌++◌, ◌∷◌, []}
use Rattle.std.specs.declared.vec.Vec.{Vec}
use Rattle.std.specs.declared.alloc.Global.{Global}
use Rattle.net_names.specs.Payloads.{VrpValue}
use Rattle.roa_table.specs.Sets.{count, set_of}
use Rattle.roa_table.specs.Lists.{stands_in}
use Rattle.roa_table.specs.Gathering.{Gathers}
use Rattle.roa_table.proofs.Gathered.{count_same, joins}
use Rattle.roa_table.proofs.gather.gather_row.Goals as goal
use Rattle.roa_table.proofs.gather.gather_row.Goals.{then-len-ge-MANY+else-len-gt-MOST_PAYLOADS, else-len-ge-MANY}

pub returns-then-len-gt-MOST_PAYLOADS-clause-err : goal.returns-then-len-gt-MOST_PAYLOADS-clause-err
returns-then-len-gt-MOST_PAYLOADS-clause-err c =
    let all : count (set_of c.args.vrps.now.items) ≡ length c.tidy.new.vrps.items = count_same c.args.vrps.now.items c.tidy.new.vrps.items c.tidy.ensures.rising c.tidy.ensures.members in
    omega (arith, all)

pub returns-clause-ok : goal.returns-clause-ok
returns-clause-ok c =
    let same : (q : VrpValue) → stands_in c.if-len-ge-MANY.vrps.items q ≡ stands_in c.args.vrps.now.items q =
    elim c.if-len-ge-MANY.branch [ then-len-ge-MANY+else-len-gt-MOST_PAYLOADS w ↦ λ q. ap (λ (v : Vec VrpValue Global). stands_in v.items q) w.vrps-is ∙ w.tidy.ensures.members q | else-len-ge-MANY w ↦ λ q. ap (λ (v : Vec VrpValue Global). stands_in v.items q) w.vrps-is ] in
    let new : c.push.new.self.items ≡ c.if-len-ge-MANY.vrps.items ++ (c.in-Ok.vrp ∷ []) = search rules in
    subst (λ r. Gathers r c.args.vrps.now.items c.push.new.self.items) (sym c.in-Ok.is) (joins c.in-Ok.vrp c.args.vrps.now.items c.if-len-ge-MANY.vrps.items c.push.new.self.items c.max.ensures.sound same new)
