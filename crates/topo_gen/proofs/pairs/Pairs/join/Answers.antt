use Rattle.std.proofs.Common.{ℕ, List, subst, sym}
use Rattle.std.specs.FinMap as fin
use Rattle.net_names.specs.declared.routes.Rel.{Rel}
use Rattle.topo_gen.specs.Rising.{AreRising}
use Rattle.topo_gen.proofs.Entries.{joined_new, joined_stands, one_more_rises}
use Rattle.topo_gen.proofs.pairs.Pairs.join.Goals as goal

pub returns-then-contains_key : goal.returns-then-contains_key
returns-then-contains_key c = rw (← c.self.view_is) (joined_stands c.args.lo c.args.hi c.args.rel c.self.inside.entries.entries c.contains_key.result c.requires c.contains_key.ensures c.if-contains_key.true)

pub invariant_of-self : goal.invariant_of-self
invariant_of-self c = subst (λ (es : List ((ℕ × ℕ) × Rel)). AreRising (fin.from_entries es)) (sym c.in_err-insert.ensures.err) c.self.invariant

pub invariant_of-self-2 : goal.invariant_of-self-2
invariant_of-self-2 c = one_more_rises c.args.lo c.args.hi c.args.rel c.self.inside.entries.entries c.insert.new.self.entries c.self.invariant c.requires c.in_ok-insert.ensures.updates.0

pub returns : goal.returns
returns c = rw (← c.self.view_is) (joined_new c.args.lo c.args.hi c.args.rel c.self.inside.entries.entries c.insert.new.self.entries c.contains_key.result
    c.requires c.contains_key.ensures c.if-contains_key.false c.in_ok-insert.ensures.updates.0)
