use Rattle.std.proofs.Common.{◌≡◌, ℕ, true≢false, Option, None, refl, sym, ◌∙◌}
use Rattle.std.specs.FinMap as map
use Rattle.stability_laws.specs.declared.entry.Entry.{Entry}
use Rattle.stability_laws.specs.declared.entry.Seed.{Seed}
use Rattle.stability_laws.specs.World.{setting}
use Rattle.table_check.specs.Rows.{RowMap, held_by}
use Rattle.table_check.specs.Walk.{IsFine, IsLowestWrong, Fits}
use Rattle.table_check.proofs.check.fault_after.Goals as goal

pub returns-then-is_right_everywhere : goal.returns-then-is_right_everywhere
returns-then-is_right_everywhere g c =
    let here = setting g.P.RoutePolicy.meaning c.args.world.now.graph.now c.args.world.now.book.now (g.V.OriginStates.state_of c.args.world.now.states.now c.args.tables.now.prefix) in
    let F : (ℕ → Option Seed) → RowMap → ℕ → Type 0 = λ s t round. (a : ℕ) → IsFine here s (held_by t round) a in
    coe 0 1 (i. F (λ a. c.in_ok-seeds.ensures a i) (c.new-placed.ensures.table i) (c.new-placed.ensures.round i)) (c.is_right_everywhere.ensures c.if-is_right_everywhere.true)

pub lowest_wrong-requires : goal.lowest_wrong-requires
lowest_wrong-requires g c = λ a. c.in_ok-routing.ensures a ∙ (λ i. held_by (sym c.new-placed.ensures.table i) (sym c.new-placed.ensures.round i) a)

pub returns-in_default : goal.returns-in_default
returns-in_default g c =
    let here = setting g.P.RoutePolicy.meaning c.args.world.now.graph.now c.args.world.now.book.now (g.V.OriginStates.state_of c.args.world.now.states.now c.args.tables.now.prefix) in
    let F : (ℕ → Option Seed) → (ℕ → Option Entry) → Type 0 = λ s f. (a : ℕ) → IsFine here s f a in
    coe 0 1 (i. F (λ a. c.in_ok-seeds.ensures a i) (λ a. c.in_ok-routing.ensures a i)) c.in_default.ensures.none

pub returns-then-not-has : goal.returns-then-not-has
returns-then-not-has g c =
    let here = setting g.P.RoutePolicy.meaning c.args.world.now.graph.now c.args.world.now.book.now (g.V.OriginStates.state_of c.args.world.now.states.now c.args.tables.now.prefix) in
    let a = c.in-Some.asn in
    let F : (ℕ → Option Seed) → (ℕ → Option Entry) → Type 0 = λ s f. IsLowestWrong here s f a × Fits here s f a None in
    let fits : Fits here (map.get c.in_ok-seeds.seeds) (map.get c.in_ok-routing.routing) a None = record { inside = λ is. absurd (true≢false (sym is ∙ sym c.has.ensures ∙ c.if-not-has.true)); outside = λ is. refl } in
    coe 0 1 (i. F (λ b. c.in_ok-seeds.ensures b i) (λ b. c.in_ok-routing.ensures b i)) (c.in-Some.ensures.found, fits)

pub returns : goal.returns
returns g c =
    let here = setting g.P.RoutePolicy.meaning c.args.world.now.graph.now c.args.world.now.book.now (g.V.OriginStates.state_of c.args.world.now.states.now c.args.tables.now.prefix) in
    let a = c.in-Some.asn in
    let F : (ℕ → Option Seed) → (ℕ → Option Entry) → Type 0 = λ s f. IsLowestWrong here s f a × Fits here s f a c.in_ok-right.right in
    let fits : Fits here (map.get c.in_ok-seeds.seeds) (map.get c.in_ok-routing.routing) a c.in_ok-right.right = record { inside = λ is. c.in_ok-right.ensures; outside = λ is. absurd (true≢false (sym c.if-not-has.false ∙ c.has.ensures ∙ is)) } in
    coe 0 1 (i. F (λ b. c.in_ok-seeds.ensures b i) (λ b. c.in_ok-routing.ensures b i)) (c.in-Some.ensures.found, fits)
