use Rattle.std.proofs.Common.{◌≡◌, ◌∙◌, ◌||◌, ℕ, Bool, true, false, cond, unwrap_or, refl, sym, ap, subst}
use Rattle.std.specs.Ordering.{nat_cmp}
use Rattle.std.specs.FinMap as fin
use Rattle.std.specs.FinSet as set
use Rattle.net_names.specs.Links.{LinkMap}
use Rattle.net_names.specs.Numbers.{occurs}
use Rattle.as_graph.specs.Edits.{without_mark}
use Rattle.as_graph.specs.Topology.{Topology}
use Rattle.leak_round.specs.Rounds.{plan_of}
use Rattle.policy_kinds.specs.Kinds.{kind_policy}
use Rattle.policy_kinds.specs.declared.kind.Kind.{Kind}
use Rattle.stability_laws.specs.Book.{PolicyBook}
use Rattle.stability_laws.specs.Plans.{Plan, announcers_of}
use Rattle.sim_core.specs.World.{graph_of, named}
use Rattle.sim_core.proofs.Listed.{reading_without}
use Rattle.sim_core.proofs.PolicyEdits.{AreOther, leakers, named_plain, taken_other}
use Rattle.sim_core.proofs.parts.Parts.give_plain.Goals as goal

links_still : (t : Bool) (g : Topology) (a : ℕ) → (cond t g (without_mark g a)).links ≡ g.links
links_still true g a = refl
links_still false g a = refl

marks_by : (t : Bool) (g : Topology) (a : ℕ) → (cond t g (without_mark g a)).marked ≡ cond t g.marked (set.remove g.marked a)
marks_by true g a = refl
marks_by false g a = refl

pub invariant_of-self : goal.invariant_of-self
invariant_of-self c =
    let s = c.args.self.now in
    let a = c.args.asn in
    let t = c.names-named.result in
    let cleared : c.clear.new.self.named ≡ fin.remove s.book.named a = ap (λ (b : PolicyBook Kind). b.named) c.clear.ensures in
    let names : t ≡ (occurs a (announcers_of (plan_of s.rounds)) || occurs a (leakers (plan_of s.rounds))) =
    c.names-named.ensures ∙ ap (λ (p : Plan). occurs a (announcers_of p) || occurs a (leakers p)) c.seed_plan.ensures in
    let links : c.unmark_unless.new.graph.links ≡ s.graph.links = ap (λ (g : Topology). g.links) c.unmark_unless.ensures ∙ links_still t s.graph a in
    let marks : c.unmark_unless.new.graph.marked ≡ cond t s.graph.marked (set.remove s.graph.marked a) = ap (λ (g : Topology). g.marked) c.unmark_unless.ensures ∙ marks_by t s.graph a in
    record {
      named = subst (λ (x : (LinkMap × set.FinSet nat_cmp) × fin.FinMap nat_cmp Kind). graph_of x.0.0 x.0.1 ≡ graph_of x.0.0 (set.from_list (named (plan_of s.rounds) x.1)))
          (λ i. ((sym links i, sym marks i), sym cleared i))
          (named_plain s.graph.links s.graph.marked (plan_of s.rounds) s.book.named a t names s.named);
      plain = ap (λ (b : PolicyBook Kind). b.rest) c.clear.ensures ∙ s.plain;
      other = subst AreOther (sym cleared) (taken_other s.book.named a s.other);
      small = s.small;
      few = s.few;
      closed = s.closed;
      reading = λ x reads. reading_without s.book.named c.clear.new.self.named s.book.rest a s.readers.ases cleared s.plain s.reading x (ap (λ (r : Kind). (kind_policy (unwrap_or (fin.get c.clear.new.self.named x) r)).reads_state) (sym (ap (λ (b : PolicyBook Kind). b.rest) c.clear.ensures)) ∙ reads);
      once = s.once;
      watching = s.watching;
    }
