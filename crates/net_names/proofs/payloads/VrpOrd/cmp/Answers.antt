use Rattle.std.proofs.Common.{◌≡◌, ◌∙◌, ap, rules}
use Rattle.std.specs.Ordering.{nat_cmp, ordering_then}
use Rattle.net_names.specs.contracts.addresses.FamilyOrd.TheImpl as family_impl
use Rattle.net_names.specs.Payloads.{vrp_cmp}
use Rattle.net_names.proofs.DerivedOrders.{family_order}
use Rattle.net_names.proofs.payloads.VrpOrd.cmp.Goals as goal

pub returns : goal.returns
returns c =
    let here = c.self.inside in
    let there = c.other.inside in
    let places = ordering_then (nat_cmp here.addr there.addr) (nat_cmp here.len there.len) in
    let rest = ordering_then (nat_cmp here.max there.max) (nat_cmp here.asn there.asn) in
    let e : c.then-3.result ≡ ordering_then (ordering_then ((family_impl.ghosts).cmp here.family there.family) places) rest = search rules in
    e ∙ ap (λ r. ordering_then (ordering_then r places) rest) (family_order here.family there.family) ∙ (λ i. vrp_cmp (c.self.view_is i) (c.other.view_is i))
