use Rattle.std.proofs.Common.{◌≡◌, ◌-◌, Bor, List, arith, ap, ◌∙◌}
use Rattle.std.specs.Prelude.{IfSome, is_some, slice_get}
use Rattle.std.specs.Option.{option_copied}
use Rattle.net_names.specs.Prefixes.{PrefixValue}
use Rattle.stability_laws.specs.Plans.{has_prefix}
use Rattle.stability_laws.proofs.KeyLists.{copied_at}
use Rattle.route_choice.specs.declared.round_tables.RoundTables.{RoundTables}
use Rattle.route_choice.specs.RoundTables.{table_at, AreAllLive, AreByPrefix}
use Rattle.leak_round.specs.Tables.{AreFull}
use Rattle.leak_round.proofs.Built.{of_found, if_some}
use Rattle.leak_round.proofs.rounds.Rounds.round.Goals as goal

found : (c : goal.After-get) → IfSome c.get.result (λ t. AreFull c.args.self.now.pool c.args.self.now.plan t.now)
found c =
    let r = c.args.self.now in
    let at : option_copied c.get.result ≡ slice_get c.deref.result.now (c.args.round - 1) = copied_at c.deref.result.now (c.args.round - 1) c.get.result c.get.ensures.lookup.1 c.get.ensures.lookup.3 in
    of_found r.pool r.plan r.tables.items c.args.round (omega arith) r.full c.get.result (at ∙ ap (λ (xs : List RoundTables). slice_get xs (c.args.round - 1)) c.deref.ensures.value)

pub returns-clause-prefixes : goal.returns-clause-prefixes
returns-clause-prefixes c =
    let r = c.args.self.now in
    if_some (λ (t : Bor RoundTables). AreFull r.pool r.plan t.now) (λ (t : Bor RoundTables). (p : PrefixValue) → is_some (table_at t.now p) ≡ has_prefix r.plan p) (λ t h. h.there) c.get.result (found c)

pub returns-clause-by_prefix : goal.returns-clause-by_prefix
returns-clause-by_prefix c =
    let r = c.args.self.now in
    if_some (λ (t : Bor RoundTables). AreFull r.pool r.plan t.now) (λ (t : Bor RoundTables). AreByPrefix t.now) (λ t h. h.by_prefix) c.get.result (found c)

pub returns-clause-live : goal.returns-clause-live
returns-clause-live c =
    let r = c.args.self.now in
    if_some (λ (t : Bor RoundTables). AreFull r.pool r.plan t.now) (λ (t : Bor RoundTables). AreAllLive r.pool t.now) (λ t h. h.live) c.get.result (found c)
