use Rattle.std.proofs.Common.{◌≡◌, subst}
use Rattle.std.specs.Prelude.{position}
use Rattle.std.specs.Ordering.{eq_by_cmp}
use Rattle.std.specs.declared.cmp.Ordering.{Ordering}
use Rattle.net_names.specs.Addresses.{AddrValue}
use Rattle.net_names.proofs.DerivedOrders.{addr_orders}
use Rattle.sim_core.proofs.Watches.{place_told}
use Rattle.sim_core.proofs.watching.place_of_addr.Goals as goal

pub returns : goal.returns
returns c =
    let P : (AddrValue → AddrValue → Ordering) → Type 0 = λ cmp. c.place_of.result ≡ position (eq_by_cmp cmp c.args.addr) c.args.addrs.now in
    place_told c.args.addrs.now c.args.addr c.place_of.result (subst P addr_orders c.place_of.ensures)
