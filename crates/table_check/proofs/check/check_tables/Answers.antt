use Rattle.std.proofs.Common.{◌+◌, ◌<◌, inl, inr, sym, subst, arith}
use Rattle.std.proofs.lemmas.Bool.{cases_eq}
use Rattle.stability_laws.specs.World.{setting}
use Rattle.table_check.specs.Checked.{IsInOrder}
use Rattle.table_check.proofs.Sectioning.{Found, in_section}
use Rattle.table_check.proofs.check.check_tables.Goals as goal

pub returns-in-Some : goal.returns-in-Some
returns-in-Some g c =
    let t = c.args.tables.now in
    let plan = c.args.plan.now in
    let w = setting g.P.RoutePolicy.meaning c.args.world.now.graph.now c.args.world.now.book.now (g.V.OriginStates.state_of c.args.world.now.states.now c.args.tables.now.prefix) in
    let before = c.loop-before.before in
    let found = in_section w plan t before (before + 1) (omega arith) c.in_ok-found.found c.in_ok-found.ensures in
    let (wrong, lowest, answer) = subst (Found w plan t before) c.in-Some.is found in (
      before,
      omega arith,
      record {
        within = subst (λ n. before < n) c.len-before-end.ensures c.loop-before-test.true;
        wrong = wrong;
        first = λ k b earlier. elim earlier [ inl less ↦ c.loop-before.invariant k b less | inr at ↦ subst (λ n. IsInOrder w plan t n b) (sym at.0) (lowest b at.1) ];
        answer = answer;
      },
    )

pub loop-before-preserved : goal.loop-before-preserved
loop-before-preserved g c = λ k a less.
    let t = c.args.tables.now in
    let plan = c.args.plan.now in
    let w = setting g.P.RoutePolicy.meaning c.args.world.now.graph.now c.args.world.now.book.now (g.V.OriginStates.state_of c.args.world.now.states.now c.args.tables.now.prefix) in
    let before = c.loop-before.before in
    let here = subst (Found w plan t before) c.in_default.is (in_section w plan t before (before + 1) (omega arith) c.in_ok-found.found c.in_ok-found.ensures) in
    elim (cases_eq k before) [ inl same ↦ subst (λ n. IsInOrder w plan t n a) (sym same) (here a) | inr other ↦ c.loop-before.invariant k a (omega (arith, less, other)) ]
