use Rattle.std.proofs.Common.{inl, inr, sym, ap, ◌∙◌, ◌==◌, ◌%◌}
use Rattle.std.proofs.lemmas.Bool.{ne_eqb, eq-eqb, cases_eq, or_parts, true≢false}
use Rattle.route_choice.specs.Marks.{is_marked}
use Rattle.route_choice.proofs.seeds.SeedIds.put.Goals as goal

pub returns-clause-others : goal.returns-clause-others
returns-clause-others c = λ a ne. c.in_ok-insert.ensures.updates.2 a (ne_eqb c.args.asn a (λ e. ne (sym e)))

pub invariant_of-self-2 : goal.invariant_of-self-2
invariant_of-self-2 c = record {
  marked = λ a free.
      let apart = or_parts (is_marked c.args.self.now.marks a) (a % 512 == c.args.asn % 512) (sym (c.add.ensures a) ∙ free) in
      elim (cases_eq c.args.asn a) [
        | inl is ↦ absurd (true≢false (sym (eq-eqb (a % 512) (c.args.asn % 512) (ap (λ n. n % 512) (sym is))) ∙ apart.1))
        | inr other ↦ c.in_ok-insert.ensures.updates.2 a (ne_eqb c.args.asn a other) ∙ c.args.self.now.marked a apart.0
      ];
}
