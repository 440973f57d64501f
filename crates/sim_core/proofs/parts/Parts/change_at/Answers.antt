use Rattle.std.proofs.Common.{◌≡◌, ◌≤◌, ◌∙◌, ℕ, Result, Ok, Err, OnOk, OnErr, sym, ap, subst}
use Rattle.std.specs.Ordering.{nat_cmp}
use Rattle.std.specs.FinSet as set
use Rattle.leak_round.specs.Limits.{IsWithinLimits}
use Rattle.leak_round.specs.Rounds.{plan_of, round_count}
use Rattle.leak_round.specs.Touched.{touches}
use Rattle.roa_table.specs.Sets.{Payloads}
use Rattle.stability_laws.specs.Plans.{Plan}
use Rattle.sim_core.specs.Ground.{DiffersAround}
use Rattle.sim_core.specs.Watching.{HasWatches}
use Rattle.sim_core.specs.World.{graph_of, named}
use Rattle.sim_core.proofs.Announcers.{announcer_there}
use Rattle.sim_core.proofs.Watches.{has_watches}
use Rattle.sim_core.proofs.parts.Parts.change_at.Goals as goal

pub change-requires-clause-seeds : goal.change-requires-clause-seeds
change-requires-clause-seeds g c = record {
  known = λ e is. cc;
  within = λ e is. cc;
  limits = λ e is. cc;
  by_end = λ e is. cc;
  announcers = λ p a h. announcer_there c.args.self.now.graph (plan_of c.args.self.now.rounds) c.args.self.now.book.named c.args.self.now.named p a h;
}

pub change-requires-clause-from : goal.change-requires-clause-from
change-requires-clause-from g c =
    let s = c.args.self.now in
    let (old, belong, differs) = c.requires.from in
    (old, belong, subst (λ (v : Payloads). DiffersAround old (record { graph = s.graph; payloads = v; book = s.book }) s.rounds c.args.ends.now (touches c.args.touched.now)) (sym c.states_but-states.ensures) differs)

either : {T E P Q : Type 0} (r : Result T E) → OnOk r P → OnErr r Q → (Q → P) → P
either (Ok x) ok err from = ok
either (Err e) ok err from = from err

pub invariant_of-self : goal.invariant_of-self
invariant_of-self g c =
    let s = c.args.self.now in
    let plan : plan_of c.change.new.rounds ≡ plan_of s.rounds = either c.change.result c.change.ensures.plan c.change.ensures.err (λ alike. alike.plan) in
    record {
      named = s.named ∙ ap (λ (p : Plan). graph_of s.graph.links (set.from_list {R = nat_cmp} (named p s.book.named))) (sym plan);
      plain = s.plain;
      other = s.other;
      small = subst IsWithinLimits (sym plan) s.small;
      few = subst (λ (n : ℕ). n ≤ 4) (sym c.change.ensures.count) s.few;
      closed = c.change.ensures.closed;
      reading = s.reading;
      once = s.once;
      watching = subst (λ (n : ℕ). HasWatches n s.watched.items c.change.new.watches.items) (sym c.change.ensures.count) (has_watches (round_count s.rounds) s.watched.items s.watches.items c.change.new.watches.items c.change.ensures.addrs s.watching);
    }
