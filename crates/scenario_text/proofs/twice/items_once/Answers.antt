use Rattle.std.proofs.Common.{arith, rules, sym, ◌∙◌}
use Rattle.scenario_text.proofs.Repeats.{once_in_steps, contains_more, goes_on, stops, ends}
use Rattle.scenario_text.proofs.twice.items_once.Goals as goal

pub loop-i-init : goal.loop-i-init
loop-i-init g c = record {
  so_far = once_in_steps g.K.Ord.cmp c.args.place c.args.keys.now;
  seen = search rules;
}

pub returns-then-not-added : goal.returns-then-not-added
returns-then-not-added g c =
    rw c.item.ensures (stops g.K.Ord.cmp c.args.place c.args.keys.now c.loop-i.i c.index-keys-i.result _ c.index-keys-i.is (omega arith) (c.loop-i.invariant.seen c.index-keys-i.result) (sym c.in_ok-added.ensures.added ∙ c.if-not-added.true) c.loop-i.invariant.so_far)

pub loop-i-preserved : goal.loop-i-preserved
loop-i-preserved g c = record {
  so_far = goes_on g.K.Ord.cmp c.args.place c.args.keys.now c.loop-i.i c.index-keys-i.result _ c.index-keys-i.is (omega arith) (c.loop-i.invariant.seen c.index-keys-i.result) (sym c.in_ok-added.ensures.added ∙ c.if-not-added.false) c.loop-i.invariant.so_far;
  seen = λ q. contains_more g.K.Ord.cmp g.met.K.Ord.total c.args.keys.now c.loop-i.i c.index-keys-i.result q _ _ c.index-keys-i.is (omega arith) (c.in_ok-added.ensures.updates.0 q) (c.loop-i.invariant.seen q);
}

pub returns : goal.returns
returns g c = ends g.K.Ord.cmp c.args.place c.args.keys.now c.loop-i.i (omega arith) c.loop-i.invariant.so_far
