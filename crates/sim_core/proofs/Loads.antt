-- What was loaded is the world, and the routings that are kept are its only ones.
use Rattle.std.proofs.Common.{◌≡◌, ℕ, List, suc, ◌+◌, ◌<◌, ◌≤◌, IsTrue, length, unwrap_or, refl, sym, ap, ◌∙◌, subst}
use Rattle.std.specs.FinMap as fin
use Rattle.std.specs.FinSet as set
use Rattle.net_names.specs.Addresses.{AddrValue}
use Rattle.net_names.specs.Links.{LinkMap}
use Rattle.net_names.specs.Prefixes.{PrefixValue}
use Rattle.as_graph.specs.Topology.{Topology, as_count, has, unmarked, relation}
use Rattle.cycle_check.specs.Cycles.{IsCycleFromLowest}
use Rattle.policy_kinds.specs.Kinds.{kind_policy}
use Rattle.policy_kinds.specs.declared.kind.Kind.{Kind}
use Rattle.policy_kinds.specs.declared.kind.Kind.TheVariants.{Plain}
use Rattle.roa_table.specs.Sets.{Payloads}
use Rattle.origin_validation.specs.Judging.{state_of}
use Rattle.stability_laws.specs.Book.{PolicyBook}
use Rattle.stability_laws.specs.Offers.{Setting}
use Rattle.stability_laws.specs.Plans.{Plan, has_prefix}
use Rattle.stability_laws.specs.Rounds.{AreRounds}
use Rattle.stability_laws.specs.World.{setting}
use Rattle.leak_round.specs.declared.rounds.Rounds.{Rounds}
use Rattle.leak_round.specs.Rounds.{kept, plan_of as plan_kept, round_count}
use Rattle.scenario_text.specs.Scenarios.{ScenarioValue}
use Rattle.sim_core.specs.World.{graph_of, setting_of, topology}
use Rattle.sim_core.specs.Families.{Family, IsOneFamily}
use Rattle.sim_core.specs.Loaded.{names_in, plan_of, world_of}
use Rattle.sim_core.specs.Loading.{IsCycleRefusal, IsLoadRefusal}
use Rattle.sim_core.specs.Marking.{IsMarksRefusal, marked}
use Rattle.sim_core.specs.Parts.{AreRoundsOf, IsNamed, world_by, world_from}
use Rattle.sim_core.specs.declared.errors.LoadError.{LoadError}
use Rattle.sim_core.specs.declared.errors.LoadError.TheVariants as load_error
use Rattle.sim_core.proofs.Topologies.{links-marked, marked_are}
use Rattle.sim_core.proofs.Plans.{kinds_of}
use Rattle.sim_core.proofs.Within.{same_names}

topology-world_of : (links : LinkMap) (payloads : Payloads) (s : ScenarioValue) → topology (world_of links payloads s) ≡ marked (unmarked links) (names_in s)
topology-world_of links payloads s = sym (marked_are links (names_in s) _ (same_names s))

-- the marks are refused, and so is the world
pub unmarked_world : (links : LinkMap) (payloads : Payloads) (s : ScenarioValue) (e : LoadError) → IsMarksRefusal (unmarked links) (names_in s) e → IsLoadRefusal (world_of links payloads s) e
unmarked_world links payloads s load_error.Memory h = tt
unmarked_world links payloads s load_error.TooManyAses h = subst (λ (g : Topology). 150000 < as_count g) (sym (topology-world_of links payloads s)) h
unmarked_world links payloads s (load_error.ProviderCycle cycle) h = absurd h

-- the graph has a cycle, and so has the world
pub cyclic_world : (links : LinkMap) (payloads : Payloads) (s : ScenarioValue) (graph : Topology) (e : LoadError) → graph ≡ marked (unmarked links) (names_in s) → as_count graph ≤ 150000 → IsCycleRefusal (relation graph) e → IsLoadRefusal (world_of links payloads s) e
cyclic_world links payloads s graph load_error.Memory is few h = tt
cyclic_world links payloads s graph load_error.TooManyAses is few h = absurd h
cyclic_world links payloads s graph (load_error.ProviderCycle cycle) is few h =
    let same : graph ≡ topology (world_of links payloads s) = is ∙ sym (topology-world_of links payloads s) in
    (subst (λ (g : Topology). as_count g ≤ 150000) same few, subst (λ (g : Topology). IsCycleFromLowest (relation g) cycle) same h)

-- marks leave the links of a graph
pub marked_links : (links : LinkMap) (s : ScenarioValue) (graph : Topology) → graph ≡ marked (unmarked links) (names_in s) → graph.links ≡ links
marked_links links s graph is = ap (λ (g : Topology). g.links) is ∙ links-marked (unmarked links) (names_in s)

module _ (links : LinkMap) (payloads : Payloads) (s : ScenarioValue) (graph : Topology) (book : PolicyBook Kind) (plan : Plan) (count : ℕ) (is : graph ≡ marked (unmarked links) (names_in s)) (named : book.named ≡ kinds_of s.policies) (planned : plan ≡ plan_of s) (counted : count ≡ length s.leaks + 1) (watched : List AddrValue) (watching : watched ≡ s.watch) where
  pub world_is : world_from graph payloads book plan count watched ≡ world_of links payloads s
  world_is =
      let same = marked_links links s graph is in
      λ i. record { links = same i; payloads = payloads; kinds = named i; plan = planned i; rounds = counted i; watched = set.from_list (watching i) }

  pub marks_are : IsNamed graph book plan
  marks_are = ap (λ (g : Topology). graph_of graph.links g.marked) (is ∙ sym (topology-world_of links payloads s) ∙ ap topology (sym world_is))

-- the settings, the plan and the number of rounds of which the routings are the only ones
abbrev Ground : Type 0
Ground = (PrefixValue → Setting) × (Plan × ℕ)

abbrev AreOnly : Family → Ground → Type 0
AreOnly g t =
    AreRounds t.0 t.1.0 t.1.1 g
    × ((other : Family) → AreRounds t.0 t.1.0 t.1.1 other → (before : ℕ) (prefix : PrefixValue) → before < t.1.1 → IsTrue (has_prefix t.1.0 prefix) → (a : ℕ) → other (suc before) prefix a ≡ g (suc before) prefix a)

-- the world by the rounds is that by their plan
pub world_kept : (graph : Topology) (payloads : Payloads) (book : PolicyBook Kind) (plan : Plan) (count : ℕ) (rounds : Rounds) (watched : List AddrValue) → AreRoundsOf graph payloads book plan count rounds → world_by graph payloads book rounds watched ≡ world_from graph payloads book plan count watched
world_kept graph payloads book plan count rounds watched are = λ i. world_from graph payloads book (are.plan_is i) (are.count_is i) watched

-- the tables that were built are stable in the rounds' own words
pub stable_rounds : (graph : Topology) (payloads : Payloads) (book : PolicyBook Kind) (plan : Plan) (count : ℕ) (rounds : Rounds) → AreRoundsOf graph payloads book plan count rounds
    → AreRounds (λ p. setting kind_policy graph book (state_of payloads p)) (plan_kept rounds) (round_count rounds) (kept rounds)
stable_rounds graph payloads book plan count rounds are =
    subst (λ (t : Plan × ℕ). AreRounds (λ p. setting kind_policy graph book (state_of payloads p)) t.0 t.1 (kept rounds)) (λ i. (sym are.plan_is i, sym are.count_is i)) are.stable

-- the routings that are kept are the only ones of the world
pub only_ones : (graph : Topology) (payloads : Payloads) (book : PolicyBook Kind) (plan : Plan) (count : ℕ) (rounds : Rounds) (watched : List AddrValue) → IsNamed graph book (plan_kept rounds) → book.rest ≡ Plain → AreRoundsOf graph payloads book plan count rounds
    → IsOneFamily (world_by graph payloads book rounds watched) (kept rounds)
only_ones graph payloads book plan count rounds watched is rest are =
    let settings : (λ (p : PrefixValue). setting kind_policy graph book (state_of payloads p)) ≡ setting_of (world_by graph payloads book rounds watched) =
    λ i p. record { has = has (is i); relation = relation graph; policy = λ a. kind_policy (unwrap_or (fin.get book.named a) (rest i)); state = state_of payloads p } in
    let ground : ◌≡◌ {A = Ground} ((λ p. setting kind_policy graph book (state_of payloads p)), (plan, count)) (setting_of (world_by graph payloads book rounds watched), (plan_kept rounds, round_count rounds)) =
    λ i. (settings i, (sym are.plan_is i, sym are.count_is i)) in
    let both : AreOnly (kept rounds) (setting_of (world_by graph payloads book rounds watched), (plan_kept rounds, round_count rounds)) = subst (AreOnly (kept rounds)) ground (are.stable, are.only) in
    record { is = both.0; only = both.1 }

-- and the only ones of the world are those of its graph, payloads and policies
pub ones_of_world : (graph : Topology) (payloads : Payloads) (book : PolicyBook Kind) (rounds : Rounds) (watched : List AddrValue) → IsNamed graph book (plan_kept rounds) → book.rest ≡ Plain → IsOneFamily (world_by graph payloads book rounds watched) (kept rounds)
    → AreRoundsOf graph payloads book (plan_kept rounds) (round_count rounds) rounds
ones_of_world graph payloads book rounds watched is rest one =
    let settings : (λ (p : PrefixValue). setting kind_policy graph book (state_of payloads p)) ≡ setting_of (world_by graph payloads book rounds watched) =
    λ i p. record { has = has (is i); relation = relation graph; policy = λ a. kind_policy (unwrap_or (fin.get book.named a) (rest i)); state = state_of payloads p } in
    let both : AreOnly (kept rounds) ((λ p. setting kind_policy graph book (state_of payloads p)), (plan_kept rounds, round_count rounds)) = subst (AreOnly (kept rounds)) (λ i. (sym settings i, (plan_kept rounds, round_count rounds))) (one.is, one.only) in
    record { plan_is = refl; count_is = refl; stable = both.0; only = both.1 }
