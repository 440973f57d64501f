use Rattle.std.proofs.Common.{◌↔◌, ◌∙◌, ℕ, IsTrue, Option, ap, refl, sym, subst}
use Rattle.net_names.specs.Addresses.{AddrValue}
use Rattle.net_names.specs.Prefixes.{PrefixValue}
use Rattle.as_graph.specs.Topology.{has, relation}
use Rattle.policy_kinds.specs.Kinds.{label}
use Rattle.stability_laws.specs.Plans.{Plan}
use Rattle.stability_laws.specs.declared.entry.Entry.{Entry}
use Rattle.route_choice.specs.RoundTables.{round_routing}
use Rattle.data_trace.specs.Hops.{next_hop}
use Rattle.data_trace.specs.Views.{addr_of, rows_of}
use Rattle.data_trace.specs.Watches.{AreRows, IsStub}
use Rattle.leak_round.specs.Rounds.{kept}
use Rattle.trial_world.specs.Fixed.{label_in, world_of}
use Rattle.trial_world.proofs.TrialTables.{kept_hop}
use Rattle.trial_world.proofs.Watched.{seen_inside}
use Rattle.trial_world.proofs.tables.renew.Goals as goal

pub update-requires-clause-inside : goal.update-requires-clause-inside
update-requires-clause-inside c = seen_inside c.args.fixed.now c.requires.fixed c.args.rounds.now c.seen_in-seen.result c.seen_in-seen.ensures (has c.args.fixed.now.graph.now) (λ b. refl) c.requires.inside

pub update-requires-clause-hops : goal.update-requires-clause-hops
update-requires-clause-hops c =
    let f = c.args.fixed.now in
    let s = c.seen_in-seen.result in
    let is = c.seen_in-seen.ensures in
    λ a r there free apart row.
    kept_hop f.graph.now (world_of f).plan s.plan.now c.requires.rows.held (kept c.args.rounds.now f.round) (round_routing s.pool.now s.tables.now) f.addr (addr_of c.args.watch.now) (label_in f) (rows_of c.args.watch.now)
    c.requires.rows.right is.plan is.routing c.requires.addr a r (c.requires.rows.same a free) row

pub update-requires-clause-groups : goal.update-requires-clause-groups
update-requires-clause-groups c =
    let f = c.args.fixed.now in
    let are = c.requires.rows.right in
    record {
      presence = λ a apart. are.listed a;
      stub = λ a r apart row. subst (λ (x : ℕ). IsTrue r.stub ↔ IsStub (relation f.graph.now) x) row.asn (are.right row.place r row.there).stub;
      group = λ a r apart row. (are.right row.place r row.there).group ∙ ap (label_in f) row.asn ∙ sym (ap label (c.book-book.ensures a));
    }

pub returns-clause-rows : goal.returns-clause-rows
returns-clause-rows c =
    let is = c.seen_in-seen.ensures in
    subst (λ (s : (Plan × (PrefixValue → ℕ → Option Entry)) × (AddrValue × (ℕ → ℕ))). AreRows c.args.fixed.now.graph.now (next_hop s.0.0 s.0.1 s.1.0) s.1.1 (rows_of c.update.new.self))
    (λ i. ((is.plan i, λ p a. is.routing p a i), (c.requires.addr i, λ a. label (c.book-book.ensures a i)))) c.update.ensures.rows
