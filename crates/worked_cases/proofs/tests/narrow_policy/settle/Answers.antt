use Rattle.std.proofs.Common.{◌≡◌, ℕ, Option, sym, subst, arith}
use Rattle.net_names.specs.declared.routes.State.TheVariants.{NotFound}
use Rattle.route_choice.specs.Routings.{table_routing}
use Rattle.stability_laws.specs.Stable.{IsStable}
use Rattle.stability_laws.specs.World.{setting}
use Rattle.stability_laws.specs.declared.entry.Seed.{Seed}
use Rattle.worked_cases.specs.Narrows.{narrow_policy}
use Rattle.worked_cases.proofs.Standing.{few_hold}
use Rattle.worked_cases.proofs.tests.narrow_policy.settle.Goals as goal

pub returns-clause-settled : goal.returns-clause-settled
returns-clause-settled g c =
    let cells = c.in-Ok.ensures.made.cells in
    let kept = c.propagate.ensures.kept in
    record {
      stable = subst (λ (seeds : ℕ → Option Seed). IsStable (setting (λ p. narrow_policy) c.args.graph.now c.args.book.now (λ asn. NotFound)) seeds (table_routing c.propagate.new.pool c.in-Ok.table)) (λ i a. sym (kept.same_seeds a) i) c.in-Ok.ensures.made.stable;
      only = c.announce-pool.ensures.only;
      seeds_live = λ a s e. kept.live s.path.0 (c.announce-pool.ensures.seeds a s e);
      entries_live = c.in-Ok.ensures.made.live;
      held = λ k. omega (arith, c.in-Ok.ensures.made.holds k);
      few = λ k. omega (arith, cells.counts k, c.announce-pool.ensures.counts k, few_hold c.args.graph.now _ cells.ases cells.distinct cells.entries c.in-Ok.ensures.made.stable.only_ases, c.as_count.ensures.value, c.as_count.ensures.few);
    }
