use Rattle.std.proofs.Common.{◌≡◌, ◌⊎◌, ℕ, true, inl, ◌∷◌, [], sym, subst}
use Rattle.as_graph.specs.Topology.{relation}
use Rattle.net_names.specs.Prefixes.{PrefixValue}
use Rattle.roa_table.specs.Sets.{Payloads}
use Rattle.stability_laws.specs.Plans.{IsSound}
use Rattle.leak_round.specs.Rounds.{kept, plan_of, round_count}
use Rattle.leak_round.specs.Touched.{touches}
use Rattle.sim_core.specs.Ground.{DiffersAround, DiffersAtPair, Ground}
use Rattle.sim_core.proofs.Ends.{ends_differ}
use Rattle.sim_core.proofs.Grounds.{on_map, steps_map}
use Rattle.sim_core.proofs.parts.Parts.change_ends.Goals as goal

pub change_at-requires-clause-from : goal.change_at-requires-clause-from
change_at-requires-clause-from g c =
    let s = c.args.self.now in
    let (old, belong, differs) = c.requires.from in
    let on : Payloads → Ground = λ v. record { graph = s.graph; payloads = v; book = s.book } in
    let around = ends_differ old (on c.of-states.result) s.rounds c.links_are_sound.ensures c.paths_go_on.ensures (subst IsSound c.seed_plan.ensures c.plans_are_sound.ensures) c.args.a c.args.b
    (subst (λ (v : Payloads). DiffersAtPair old (on v) (plan_of s.rounds) c.args.a c.args.b) (sym c.of-states.ensures) differs) belong.rounds_are.stable c.in_ok-touched.touched c.in_ok-touched.ensures.first c.in_ok-touched.ensures.second in
    (old, belong, subst (λ (v : Payloads). DiffersAround old (on v) s.rounds (c.args.a ∷ c.args.b ∷ []) (touches c.in_ok-touched.touched)) c.of-states.ensures around)

pub returns-clause-quick : goal.returns-clause-quick
returns-clause-quick g c =
    let s = c.args.self.now in
    let now = c.change_at.new.self in
    on_map c.change_at.result
    (steps_map (relation s.graph) (plan_of s.rounds) (plan_of now.rounds) (kept s.rounds) (kept now.rounds) (λ p x. touches c.in_ok-touched.touched p x ≡ true) (λ (p : PrefixValue) (x : ℕ). (x ≡ c.args.a) ⊎ (x ≡ c.args.b)) (round_count s.rounds) c.args.steps.now c.change_at.new.steps
    (λ x n there. record { from = n.from; to = n.to; known = n.known; counts = inl (c.in_ok-touched.ensures.only x.1.0 x.1.1 there) }))
    c.change_at.ensures.quick
