use Rattle.std.proofs.Common.{◌≡◌, ◌++◌, ◌==◌, ℕ, List, ap, refl, subst, sym, ◌∙◌}
use Rattle.std.proofs.lemmas.Result.{on_ok_weaker}
use Rattle.as_graph.specs.Topology.{Topology, relation}
use Rattle.message_sim.specs.Messages.{IsStart, MessageNet}
use Rattle.message_sim.specs.Nets.{NetWorld, net_of, net_setting, queued_in, seeds_in}
use Rattle.message_sim.specs.Turns.{AreTurns, first_foreign_in, turns_of}
use Rattle.origin_validation.specs.Judging.{state_of}
use Rattle.origin_validation.specs.Known.{Known}
use Rattle.policy_kinds.specs.Kinds.{kind_policy}
use Rattle.policy_kinds.specs.declared.kind.Kind.{Kind}
use Rattle.reports.specs.Rows.{table}
use Rattle.stability_laws.specs.EntryTexts.{entry_row}
use Rattle.sim_core.specs.Sims.{kept, world_seen}
use Rattle.sim_core.specs.Lent.{seeds_kept}
use Rattle.sim_core.specs.World.{topology}
use Rattle.asprop_run.specs.Delivering.{message_rows}
use Rattle.asprop_run.proofs.Acting.{same_table}
use Rattle.asprop_run.proofs.Delivered.{delivered_in, quiet_is_none}
use Rattle.asprop_run.proofs.Named.{accepted_routes, deliveries_named}
use Rattle.asprop_run.proofs.delivering.answer_deliveries.Goals as goal

pub seeds_at-requires : goal.seeds_at-requires
seeds_at-requires c =
    let d = c.args.deliveries.now in
    let there = (deliveries_named (world_seen c.args.sim.now) d c.requires.inside.0).0 in
    accepted_routes (world_seen c.args.sim.now) d.round d.prefix there.0 there.1

pub run-requires : goal.run-requires
run-requires c =
    let d = c.args.deliveries.now in
    record {
      linked = ap (λ (u : NetWorld Kind Known). first_foreign_in (relation u.graph) d.steps) c.in_ok-net.ensures.world
          ∙ ap (λ (g : Topology). first_foreign_in (relation g) d.steps) c.graph-graph.ensures
          ∙ (deliveries_named (world_seen c.args.sim.now) d c.requires.inside.0).1;
    }

pub put_messages-requires : goal.put_messages-requires
put_messages-requires c =
    let w = world_seen c.args.sim.now in
    let g = c.graph-graph.result.now in
    let d = c.args.deliveries.now in
    let made = c.in_ok-delivered.delivered in
    let x : MessageNet = net_of c.in_ok-net.net in
    let y : MessageNet = net_of c.run.new.self in
    let start = subst (λ (u : NetWorld Kind Known). IsStart (net_setting kind_policy (λ (s : Known). state_of s.payloads) u) (seeds_in u) x) c.in_ok-net.ensures.world c.in_ok-net.ensures.start in
    let run = subst (λ (u : NetWorld Kind Known). AreTurns (net_setting kind_policy (λ (s : Known). state_of s.payloads) u) (seeds_in u) (turns_of d.steps) x made y) c.in_ok-net.ensures.world c.in_ok-delivered.ensures.run in
    let ends = delivered_in c.kept_are_stable.ensures.setting w (kept c.args.sim.now) d g c.book.result.now c.in_ok-states.states.payloads c.in_ok-seeds.seeds x y made
    c.graph-graph.ensures c.book.ensures (c.in_ok-states.ensures ∙ c.vrps.ensures) c.in_ok-seeds.ensures.seeds start run in
    let queued : c.queued.result ≡ queued_in (topology w) y =
    c.queued.ensures ∙ ap (λ (u : NetWorld Kind Known). queued_in u.graph y) (c.in_ok-delivered.ensures.world ∙ c.in_ok-net.ensures.world) ∙ ap (λ (t : Topology). queued_in t y) c.graph-graph.ensures in
    quiet_is_none w d (seeds_kept w (kept c.args.sim.now) d.round d.prefix) x y made c.quiet.result ends.0 ends.1 c.quiet.ensures.quiet ∙ ap (λ (n : ℕ). n == 0) (sym queued)

pub returns : goal.returns
returns c =
    let w = world_seen c.args.sim.now in
    let g = c.graph-graph.result.now in
    let d = c.args.deliveries.now in
    let made = c.in_ok-delivered.delivered in
    let x : MessageNet = net_of c.in_ok-net.net in
    let y : MessageNet = net_of c.run.new.self in
    let start = subst (λ (u : NetWorld Kind Known). IsStart (net_setting kind_policy (λ (s : Known). state_of s.payloads) u) (seeds_in u) x) c.in_ok-net.ensures.world c.in_ok-net.ensures.start in
    let run = subst (λ (u : NetWorld Kind Known). AreTurns (net_setting kind_policy (λ (s : Known). state_of s.payloads) u) (seeds_in u) (turns_of d.steps) x made y) c.in_ok-net.ensures.world c.in_ok-delivered.ensures.run in
    let ends = delivered_in c.kept_are_stable.ensures.setting w (kept c.args.sim.now) d g c.book.result.now c.in_ok-states.states.payloads c.in_ok-seeds.seeds x y made
    c.graph-graph.ensures c.book.ensures (c.in_ok-states.ensures ∙ c.vrps.ensures) c.in_ok-seeds.ensures.seeds start run in
    let rows : c.put_choices.new.text.items ≡ table (topology w) (λ a. entry_row a (y.choice a)) =
    c.in_ok-put_choices.ensures ∙ ap (λ (l : List ℕ). l ++ table g (λ a. entry_row a (y.choice a))) c.clear.ensures.items ∙ same_table w g c.graph-graph.ensures (λ a. entry_row a (y.choice a)) in
    let queued : c.queued.result ≡ queued_in (topology w) y =
    c.queued.ensures ∙ ap (λ (u : NetWorld Kind Known). queued_in u.graph y) (c.in_ok-delivered.ensures.world ∙ c.in_ok-net.ensures.world) ∙ ap (λ (t : Topology). queued_in t y) c.graph-graph.ensures in
    on_ok_weaker c.put_messages.result
    (λ is. (
      refl,
      refl,
      (
        kept c.args.sim.now,
        c.requires.kept,
        x,
        y,
        made,
        (ends.0, ends.1, is ∙ (λ i. rows i ++ message_rows made (queued i))),
      ),
    ))
    c.put_messages.ensures
