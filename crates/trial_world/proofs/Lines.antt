-- Lines that are in a world.
use Rattle.std.proofs.Common.{◌≡◌, ◌≤◌, ◌&&◌, ℕ, true, get_or, refl, sym, subst}
use Rattle.std.specs.FinMap as fin
use Rattle.std.specs.FinSet as set
use Rattle.std.specs.Prelude.{nat_le}
use Rattle.std.specs.List.{All, list_all}
use Rattle.std.proofs.lemmas.Bool.{and_parts, eq-eqb, leb-true}
use Rattle.std.proofs.lemmas.List.Sums.{AllPass-from_list_all}
use Rattle.net_names.specs.Addresses.{AddrValue}
use Rattle.net_names.specs.Orders.{addr_total, exact_addr}
use Rattle.as_graph.specs.Topology.{as_count}
use Rattle.stability_laws.proofs.KeyLists.{eq_same}
use Rattle.sim_core.specs.World.{World, has_round, topology}
use Rattle.sweep.specs.declared.sweeps.Sweep.{Sweep}
use Rattle.trial_world.specs.Sweeps.{is_inside}
use Rattle.trial_world.specs.Trials.{as_set}
use Rattle.trial_world.specs.Trials.{is_of_line}
use Rattle.trial_world.proofs.Following.{as_many}

pub own_line : (w : World) (round : ℕ) (addr : AddrValue) → is_of_line (w, (round, addr)) round addr ≡ true
own_line w round addr = λ i. (eq-eqb round round refl i) && (eq_same addr_total exact_addr addr addr refl i)

-- no number of a line that is in a world is above that of its ASes
pub few_numbers : (w : World) (line : Sweep) → is_inside w line ≡ true → All (λ k. k ≤ fin.len (as_set w)) line.ks
few_numbers w line inside =
    let few : list_all (λ k. nat_le k (as_count (topology w))) line.ks ≡ true = (and_parts (set.contains w.watched line.addr) _ (and_parts (has_round w line.round) _ inside).1).1 in
    λ k d less. subst (λ n. get_or line.ks k d ≤ n) (sym (as_many w)) (leb-true (get_or line.ks k d) (as_count (topology w)) (AllPass-from_list_all (λ n. nat_le n (as_count (topology w))) line.ks few k d less))
