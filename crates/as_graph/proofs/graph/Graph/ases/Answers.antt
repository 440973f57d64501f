use Rattle.std.proofs.Common.{nat_eq, length, ap, sym, subst, ◌∙◌}
use Rattle.std.specs.List.{IsDistinct}
use Rattle.net_names.specs.Numbers.{occurs}
use Rattle.as_graph.proofs.Kept.{listed_read, apart_read, counted_read}
use Rattle.as_graph.proofs.graph.Graph.ases.Goals as goal

pub returns-clause-listed : goal.returns-clause-listed
returns-clause-listed c = λ a. ap (occurs a) c.as_slice.ensures.value ∙ listed_read c.self.inside.rows c.self.inside.order.items c.self.inside.links c.self.invariant.0 c.args.self.now c.self.inside.room c.self.view_is a

pub returns-clause-apart : goal.returns-clause-apart
returns-clause-apart c = subst (IsDistinct nat_eq) (sym c.as_slice.ensures.value) (apart_read c.self.inside.rows c.self.inside.order.items c.self.inside.links c.self.invariant.0 c.args.self.now c.self.inside.room c.self.view_is)

pub returns-clause-counted : goal.returns-clause-counted
returns-clause-counted c = ap length c.as_slice.ensures.value ∙ counted_read c.self.inside.rows c.self.inside.order.items c.self.inside.links c.self.invariant.0 c.args.self.now c.self.inside.room c.self.view_is
