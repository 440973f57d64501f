use Rattle.std.specs.Prelude.{◌≡◌, ℕ, true, Some}
use Rattle.net_names.specs.Prefixes.{PrefixValue}
use Rattle.net_names.specs.declared.routes.Rel.{Rel}
use Rattle.as_graph.specs.Topology.{relation, has}
use Rattle.as_graph.proofs.EditsLemmas.{links_are_sound_lem}
use Rattle.stability_laws.specs.Offers.{Setting}
use Rattle.stability_laws.specs.World.{setting}
use Rattle.stability_laws.proofs.PathEnds.{path_starts, path_goes_on}
use Rattle.stability_laws.proofs.laws.paths_go_on.Goals as goal

pub returns : goal.returns
returns t c = λ w book state plan rounds g sound is before prefix within there a e held.
    let here : PrefixValue → Setting = λ p. setting t.P.RoutePolicy.meaning w book (state p) in
    let ends : (p : PrefixValue) (a b : ℕ) (r : Rel) → relation w a b ≡ Some r → has w b ≡ true = λ p. links_are_sound_lem.ends w in
    (path_starts here ends plan sound rounds g is before prefix within there a e held, path_goes_on here ends plan sound rounds g is before prefix within there a e held)
