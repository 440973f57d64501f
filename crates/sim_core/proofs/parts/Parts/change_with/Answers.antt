use Rattle.std.proofs.Common.{◌≡◌, ℕ, true, inl, sym}
use Rattle.std.proofs.Common.{None, Some, refl}
use Rattle.as_graph.specs.Topology.{relation}
use Rattle.net_names.specs.Coverage.{covers}
use Rattle.net_names.specs.Prefixes.{PrefixValue}
use Rattle.policy_kinds.specs.Kinds.{kind_policy}
use Rattle.stability_laws.specs.Book.{policy_at}
use Rattle.leak_round.specs.Rounds.{kept, plan_of, round_count}
use Rattle.leak_round.specs.Touched.{touches}
use Rattle.sim_core.specs.Editing.{ground_less}
use Rattle.sim_core.proofs.Grounds.{on_map, steps_map}
use Rattle.sim_core.proofs.PayloadEdits.{payload_differs}
use Rattle.sim_core.proofs.parts.Parts.change_with.Goals as goal

pub change_at-requires-clause-from : goal.change_at-requires-clause-from
change_at-requires-clause-from g c =
    let s = c.args.self.now in (
      ground_less s (Some c.args.vrp),
      c.requires.from,
      payload_differs (ground_less s (Some c.args.vrp)) (ground_less s None) s.rounds (touches c.in_ok-touched.touched) refl refl
          (λ p known a there reads free origin is. sym (c.in_ok-touched.ensures.these p known a (s.reading a reads) reads free origin is)),
    )

pub change_at-requires-clause-stay : goal.change_at-requires-clause-stay
change_at-requires-clause-stay g c = λ _. c.requires.from.ranks_are

pub returns-clause-quick : goal.returns-clause-quick
returns-clause-quick g c =
    let s = c.args.self.now in
    let now = c.change_at.new.self in
    on_map c.change_at.result
    (steps_map (relation s.graph) (plan_of s.rounds) (plan_of now.rounds) (kept s.rounds) (kept now.rounds) (λ p a. touches c.in_ok-touched.touched p a ≡ true) (λ (p : PrefixValue) (a : ℕ). (covers c.args.vrp.prefix p ≡ true) × ((kind_policy (policy_at s.book a)).reads_state ≡ true)) (round_count s.rounds) c.args.steps.now c.change_at.new.steps
    (λ x n there. record { from = n.from; to = n.to; known = n.known; counts = inl (c.in_ok-touched.ensures.only x.1.0 x.1.1 there) }))
    c.change_at.ensures.quick
