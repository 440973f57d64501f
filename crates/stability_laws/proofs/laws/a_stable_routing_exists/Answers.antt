use Rattle.std.proofs.Common.{◌+◌, ◌<◌, ◌≤◌, suc, ℕ, None, length, refl, arith}
use Rattle.as_graph.specs.Topology.{ases, has, relation}
use Rattle.as_graph.proofs.Links.{relation_mutual, relation_self, topology-AreLinks}
use Rattle.as_graph.proofs.Ranks.{rank_of, rank_of-IsRank, ranks_fall}
use Rattle.stability_laws.specs.Book.{policy_at}
use Rattle.stability_laws.specs.Steps.{IsStepWhole}
use Rattle.stability_laws.specs.World.{setting}
use Rattle.stability_laws.proofs.Activations.{activated}
use Rattle.stability_laws.proofs.Turns.{turns_of, turns_only, turns_full, some_run, some_step}
use Rattle.stability_laws.proofs.laws.a_stable_routing_exists.Goals as goal

pub returns : goal.returns
returns t c = λ w book state seeds no_cycle.
    let here = setting t.P.RoutePolicy.meaning w book state in
    let links = topology-AreLinks w in
    let rank = λ (a : ℕ). rank_of (relation w) (ases w) links no_cycle a in
    let fall = ranks_fall (relation w) (ases w) links no_cycle rank (rank_of-IsRank (relation w) (ases w) links no_cycle) in
    let height = suc (length (ases w)) in
    let turns = turns_of (height + height) (ases w) in
    let (f, run) = some_run (IsStepWhole here seeds) (λ g a. let (held, right, only) = c.one_answer.ensures w book state seeds g a in some_step here seeds g a held right) turns (λ _. None) in (
      f,
      activated here
          (λ b. let p = policy_at book b in record { ranks_offers = t.met.P.RoutePolicy.ranks_offers p; prefers_customers = t.met.P.RoutePolicy.prefers_customers p; exports_down_only = t.met.P.RoutePolicy.exports_down_only p })
          (relation_mutual w) (relation_self w) seeds rank fall.falls height (λ a here. let le : rank a ≤ length (ases w) = fall.within a in let less : rank a < suc (length (ases w)) = omega (arith, le) in less)
          turns (λ _. None) f (turns_only (height + height) (ases w)) (turns_full (has w) (height + height) (ases w) (λ a there. there)) run (λ a out. refl),
    )
