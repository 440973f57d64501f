use Rattle.std.proofs.Common.{◌≡◌, ◌∙◌, cond, unwrap_or, sym, ap, subst}
use Rattle.std.specs.Ordering.{nat_cmp}
use Rattle.std.specs.FinMap as fin
use Rattle.std.specs.FinSet as set
use Rattle.net_names.specs.Links.{LinkMap}
use Rattle.as_graph.specs.Refusals.{IsMarkRefusal}
use Rattle.as_graph.specs.Topology.{Topology, as_count}
use Rattle.as_graph.specs.declared.error.GraphError.{GraphError}
use Rattle.leak_round.specs.Rounds.{plan_of}
use Rattle.policy_kinds.specs.Kinds.{kind_policy}
use Rattle.policy_kinds.specs.declared.kind.Kind.{Kind}
use Rattle.stability_laws.specs.Book.{PolicyBook}
use Rattle.sim_core.specs.World.{graph_of, named}
use Rattle.sim_core.proofs.Given.{too_many_named}
use Rattle.sim_core.proofs.Marks.{one_too_many}
use Rattle.sim_core.proofs.Listed.{reading_with}
use Rattle.sim_core.proofs.PolicyEdits.{AreOther, given_other, named_other}
use Rattle.sim_core.proofs.parts.Parts.give_other.Goals as goal

pub invariant_of-self : goal.invariant_of-self
invariant_of-self c =
    let s = c.args.self.now in
    let set_is : c.set.new.self.named ≡ fin.insert s.book.named c.args.asn c.args.kind = ap (λ (b : PolicyBook Kind). b.named) c.set.ensures in
    record {
      named = subst (λ (t : (LinkMap × set.FinSet nat_cmp) × fin.FinMap nat_cmp Kind). graph_of t.0.0 t.0.1 ≡ graph_of t.0.0 (set.from_list (named (plan_of s.rounds) t.1)))
          (λ i. ((sym (ap (λ (t : Topology). t.links) c.in-Ok.ensures.ok) i, sym (ap (λ (t : Topology). t.marked) c.in-Ok.ensures.ok) i), sym set_is i))
          (named_other s.graph.links s.graph.marked (plan_of s.rounds) s.book.named c.args.asn c.args.kind s.named);
      plain = ap (λ (b : PolicyBook Kind). b.rest) c.set.ensures ∙ s.plain;
      other = subst AreOther (sym set_is) (given_other s.book.named c.args.asn c.args.kind s.other c.requires.other);
      small = s.small;
      few = s.few;
      closed = s.closed;
      reading = λ a reads. reading_with s.book.named c.set.new.self.named s.book.rest c.args.asn c.args.kind s.readers.ases set_is s.reading c.requires.room.listed a (ap (λ (r : Kind). (kind_policy (unwrap_or (fin.get c.set.new.self.named a) r)).reads_state) (sym (ap (λ (b : PolicyBook Kind). b.rest) c.set.ensures)) ∙ reads);
      once = s.once;
      watching = s.watching;
    }

pub returns-in-Err-TooManyAses-clause-refused : goal.returns-in-Err-TooManyAses-clause-refused
returns-in-Err-TooManyAses-clause-refused c =
    let s = c.args.self.now in
    let why = subst (λ (e : GraphError). IsMarkRefusal s.graph c.args.asn e) c.in-Err-TooManyAses.field-0-is c.in-Err-TooManyAses.ensures.refused in
    too_many_named s c.args.asn c.args.kind c.is_small.ensures.links
    (ap (λ t. as_count (graph_of s.graph.links (set.from_list (named (plan_of s.rounds) (cond t (fin.insert s.book.named c.args.asn c.args.kind) (fin.remove s.book.named c.args.asn)))))) c.requires.other
    ∙ ap as_count (sym (named_other s.graph.links s.graph.marked (plan_of s.rounds) s.book.named c.args.asn c.args.kind s.named)))
    (one_too_many s.graph c.args.asn why.0 why.1)
