use Rattle.std.proofs.Common.{◌≡◌, ◌<◌, ◌≤◌, true, false, is_some, sym, subst, ◌∙◌}
use Rattle.std.specs.FinMap as map
use Rattle.rank_order.specs.Lists.{spare_in}
use Rattle.rank_order.specs.Ranks.{KeptRanks}
use Rattle.rank_order.proofs.Kept.{is_kept}
use Rattle.rank_order.proofs.ranks.Ranks.put.Goals as goal

pub put_in-requires-clause-room : goal.put_in-requires-clause-room
put_in-requires-clause-room c = λ away.
    let inside = c.self.inside in
    subst (λ (r : KeptRanks). is_some (map.get r.by_as c.args.asn) ≡ false → 0 < r.spare) (sym c.self.view_is) c.requires (is_kept inside.ases.items inside.ranks.items inside.each c.args.asn ∙ away)

pub returns-clause-kept : goal.returns-clause-kept
returns-clause-kept c = λ there.
    let inside = c.self.inside in
    let had = subst (λ (r : KeptRanks). is_some (map.get r.by_as c.args.asn) ≡ true) (sym c.self.view_is) there in
    subst (λ (r : KeptRanks). r.spare ≤ spare_in c.put_in.new.ases c.put_in.new.ranks) c.self.view_is
    (c.put_in.ensures.kept (sym (is_kept inside.ases.items inside.ranks.items inside.each c.args.asn) ∙ had))
