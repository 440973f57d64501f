use Rattle.std.proofs.Common.{◌≡◌, true, ap, sym, option_map}
use Rattle.net_names.specs.Links.{converse}
use Rattle.stability_laws.specs.Book.{policy_at}
use Rattle.route_choice.specs.Choices.{is_looked_at}
use Rattle.route_choice.specs.Routings.{entry_of}
use Rattle.route_choice.proofs.best.look_at.Goals as goal

pub weigh-requires-clause-no_loops : goal.weigh-requires-clause-no_loops
weigh-requires-clause-no_loops g c = λ never.
    let n = c.args.neighbour.now.asn in
    let r = c.args.neighbour.now.rel in
    let looked : is_looked_at c.args.chooser.now.part r ≡ true = cc in
    let exported : (g.P.RoutePolicy.meaning (policy_at c.args.at.now.book.now n)).exports c.in-Some.held.class c.in-Some.held.otc (converse r) ≡ true = cc in
    c.requires.no_loops never n r (entry_of c.args.pool.now c.in-Some.held) c.requires.linked looked (ap (option_map (entry_of c.args.pool.now)) (sym c.in-Some.ensures)) exported
