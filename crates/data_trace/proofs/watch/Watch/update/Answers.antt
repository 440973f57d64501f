use Rattle.std.proofs.Common.{◌≡◌, ℕ, ◌+◌, true, List, length, sym, ◌∙◌, ap, subst, arith}
use Rattle.net_names.specs.Addresses.{AddrValue}
use Rattle.stability_laws.specs.Book.{policy_at}
use Rattle.route_choice.specs.RoundTables.{round_routing}
use Rattle.data_trace.specs.declared.kinds.Hop.{Hop}
use Rattle.data_trace.specs.declared.places.PlaceHop.{PlaceHop}
use Rattle.data_trace.specs.declared.places.Group.{Group}
use Rattle.data_trace.specs.Hops.{next_hop}
use Rattle.data_trace.specs.Marks.{hop_at}
use Rattle.data_trace.specs.Keeping.{AreKept}
use Rattle.data_trace.specs.Watches.{AreRows}
use Rattle.data_trace.specs.Columns.{name_at, named, fresh, group_at, is_here, rows, AreHops}
use Rattle.data_trace.proofs.Inside.{next_inside}
use Rattle.data_trace.proofs.Updating.{IsUpdate, none_there, no_rows, all_there, hops_right, gone_has_none, updated_rows}
use Rattle.data_trace.proofs.Staying.{kept_less}
use Rattle.data_trace.proofs.watch.Watch.update.Given as given
use Rattle.data_trace.proofs.watch.Watch.update.Goals as goal
use Rattle.data_trace.proofs.watch.Watch.update.Goals.{After-regroup, After-renew}

-- what the update makes of the watch, once the groups are regrouped
update_is : (g : given.Over) (c : After-regroup g) → IsUpdate c.args.graph.now (next_hop c.args.plan.now (round_routing c.args.pool.now c.args.tables.now) c.args.self.now.addr) (λ a. g.P.Labelled.label_of (policy_at c.args.book.now a))
    c.args.differing.now.hops.now c.args.differing.now.groups.now c.args.self.now.ases.ases c.come.new.self.ases.ases
    c.args.self.now.columns.hops.items c.come.new.self.columns.hops.items c.args.self.now.columns.marks.items c.args.self.now.columns.groups.items c.come.new.self.columns.groups.items
update_is g c =
    let w = c.args.self.now in
    record {
      inside = next_inside c.args.graph.now c.args.plan.now (round_routing c.args.pool.now c.args.tables.now) w.addr c.requires.inside;
      comes = c.come.ensures.comes;
      apart = w.apart;
      hops_len = w.hops_len;
      within = w.within;
      absent = w.absent;
      keeps_hops = c.requires.hops;
      keeps_groups = c.requires.groups;
      hops_same = c.come.ensures.hops;
      groups_same = c.come.ensures.groups;
    }

-- the next hops after it, by the address of the watch
hops_are : (g : given.Over) (c : After-renew g) → AreHops (fresh c.args.graph.now (next_hop c.args.plan.now (round_routing c.args.pool.now c.args.tables.now) c.args.self.now.addr)) c.come.new.self.ases.ases c.renew.new.columns.hops.items
hops_are g c = subst (λ (d : AddrValue). AreHops (fresh c.args.graph.now (next_hop c.args.plan.now (round_routing c.args.pool.now c.args.tables.now) d)) c.come.new.self.ases.ases c.renew.new.columns.hops.items) c.come.ensures.addr c.renew.ensures.hops

pub renew-requires-clause-listed : goal.renew-requires-clause-listed
renew-requires-clause-listed g c = all_there (update_is g (goal.at.renew-requires-clause-listed g c).After-regroup)

pub renew-requires-clause-lists : goal.renew-requires-clause-lists
renew-requires-clause-lists g c =
    let s = c.come.new.self in
    let there : s.has_lists ≡ true = c.come.ensures.lists ∙ c.args.self.now.ready (omega (arith, c.requires.spare, c.as_count.ensures.value, c.if-as_count-eq0.false)) in
    let hops : c.regroup.new.columns.hops.items ≡ s.columns.hops.items = ap (λ v. v.items) c.regroup.ensures.hops in
    subst (λ (t : List PlaceHop). AreKept t (length s.ases.ases) s.lists) (sym hops) (kept_less s.columns.hops.items (length s.ases.ases + s.spare) (length s.ases.ases) s.lists (s.kept there) (omega arith))

pub renew-requires-clause-others : goal.renew-requires-clause-others
renew-requires-clause-others g c =
    let s = c.come.new.self in
    let hops : c.regroup.new.columns.hops.items ≡ s.columns.hops.items = ap (λ v. v.items) c.regroup.ensures.hops in
    λ x l o r. ap (λ (t : List PlaceHop). named s.ases.ases (hop_at t x)) hops
    ∙ hops_right (update_is g (goal.at.renew-requires-clause-others g c).After-regroup) x l o r
    ∙ ap (λ (d : AddrValue). fresh c.args.graph.now (next_hop c.args.plan.now (round_routing c.args.pool.now c.args.tables.now) d) (name_at s.ases.ases x)) (sym c.come.ensures.addr)

pub invariant_of-self-clause-absent : goal.invariant_of-self-clause-absent
invariant_of-self-clause-absent g c = λ x f.
    let at = goal.at.invariant_of-self-clause-absent g c in
    let gs : c.renew.new.columns.groups.items ≡ c.regroup.new.columns.groups.items = ap (λ v. v.items) c.renew.ensures.groups in
    gone_has_none (update_is g at.After-regroup) c.regroup.new.columns.groups.items c.regroup.ensures.counted.groups_len c.regroup.ensures.regrouped c.regroup.ensures.others c.renew.new.columns.hops.items (hops_are g at.After-renew) x
    (ap (λ (t : List Group). is_here (group_at t x).standing) (sym gs) ∙ f)

pub invariant_of-self-clause-hops_len : goal.invariant_of-self-clause-hops_len
invariant_of-self-clause-hops_len g c = c.renew.ensures.hops.len

pub invariant_of-self-clause-within : goal.invariant_of-self-clause-within
invariant_of-self-clause-within g c = c.renew.ensures.within

pub invariant_of-self-clause-kept : goal.invariant_of-self-clause-kept
invariant_of-self-clause-kept g c = λ e. let s = c.come.new.self in c.renew.ensures.lists (length s.ases.ases + s.spare) (s.kept e).room

pub invariant_of-self-clause-ends : goal.invariant_of-self-clause-ends
invariant_of-self-clause-ends g c = c.renew.ensures.ends

pub invariant_of-self-clause-counted : goal.invariant_of-self-clause-counted
invariant_of-self-clause-counted g c = c.renew.ensures.counted

pub returns-then-as_count-eq0-clause-rows : goal.returns-then-as_count-eq0-clause-rows
returns-then-as_count-eq0-clause-rows g c =
    let graph = c.args.graph.now in
    let n : length c.ases-all.result.now ≡ 0 = c.ases-all.ensures.counted ∙ sym c.as_count.ensures.value ∙ c.if-as_count-eq0.true in
    let w = c.of_none.result in
    no_rows graph (next_hop c.args.plan.now (round_routing c.args.pool.now c.args.tables.now) c.args.self.now.addr) (λ a. g.P.Labelled.label_of (policy_at c.args.book.now a)) w.ases.ases w.columns.hops.items w.columns.marks.items w.columns.groups.items
    c.of_none.ensures.ases (none_there graph c.ases-all.result.now n c.ases-all.ensures.listed)

pub returns-clause-rows : goal.returns-clause-rows
returns-clause-rows g c =
    let at = goal.at.returns-clause-rows g c in
    let s = c.come.new.self in
    let next : ℕ → Hop = next_hop c.args.plan.now (round_routing c.args.pool.now c.args.tables.now) c.args.self.now.addr in
    let label : ℕ → ℕ = λ a. g.P.Labelled.label_of (policy_at c.args.book.now a) in
    let gs : c.renew.new.columns.groups.items ≡ c.regroup.new.columns.groups.items = ap (λ v. v.items) c.renew.ensures.groups in
    subst (λ (t : List Group). AreRows c.args.graph.now next label (rows s.ases.ases c.renew.new.columns.hops.items c.renew.new.columns.marks.items t)) (sym gs)
    (updated_rows (update_is g at.After-regroup) c.regroup.new.columns.groups.items c.regroup.ensures.counted.groups_len c.regroup.ensures.regrouped c.regroup.ensures.others c.renew.new.columns.hops.items c.renew.new.columns.marks.items s.apart (hops_are g at.After-renew) c.renew.ensures.ends)
