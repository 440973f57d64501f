use Rattle.std.proofs.Common.{rules, ◌≡◌, ◌<◌, ◌≤◌, Some, None, inl, inr, sym, ◌∙◌, arith}
use Rattle.as_graph.specs.Ends.{at_of}
use Rattle.as_graph.proofs.EndLemmas.{least_from, past_at, past_least}
use Rattle.as_graph.proofs.ends.next_end.Goals as goal

pub returns-then-lt-clause-found : goal.returns-then-lt-clause-found
returns-then-lt-clause-found c =
    let h : at_of c.args.higher.now c.args.j ≡ Some c.in-Some-Some.h = sym c.at.ensures ∙ c.in-Some-Some.is-0 in
    let l : at_of c.args.lower.now c.args.i ≡ Some c.in-Some-Some.l = sym c.at-2.ensures ∙ c.in-Some-Some.is-1 in
    let less : c.in-Some-Some.h < c.in-Some-Some.l = search rules in
    record {
      among = inl h;
      higher = least_from c.args.higher.now c.requires.higher_by_as c.args.j c.in-Some-Some.h c.in-Some-Some.h h (omega arith);
      lower = least_from c.args.lower.now c.requires.lower_by_as c.args.i c.in-Some-Some.l c.in-Some-Some.h l (omega (arith, less));
    }

pub returns-else-lt-clause-found : goal.returns-else-lt-clause-found
returns-else-lt-clause-found c =
    let h : at_of c.args.higher.now c.args.j ≡ Some c.in-Some-Some.h = sym c.at.ensures ∙ c.in-Some-Some.is-0 in
    let l : at_of c.args.lower.now c.args.i ≡ Some c.in-Some-Some.l = sym c.at-2.ensures ∙ c.in-Some-Some.is-1 in
    let more : c.in-Some-Some.l ≤ c.in-Some-Some.h = search rules in
    record {
      among = inr l;
      higher = least_from c.args.higher.now c.requires.higher_by_as c.args.j c.in-Some-Some.h c.in-Some-Some.l h more;
      lower = least_from c.args.lower.now c.requires.lower_by_as c.args.i c.in-Some-Some.l c.in-Some-Some.l l (omega arith);
    }

pub returns-in-Some-None-clause-found : goal.returns-in-Some-None-clause-found
returns-in-Some-None-clause-found c =
    let h : at_of c.args.higher.now c.args.j ≡ Some c.in-Some-None.h = sym c.at.ensures ∙ c.in-Some-None.is-0 in
    let l : at_of c.args.lower.now c.args.i ≡ None = sym c.at-2.ensures ∙ c.in-Some-None.is-1 in
    record {
      among = inl h;
      higher = least_from c.args.higher.now c.requires.higher_by_as c.args.j c.in-Some-None.h c.in-Some-None.h h (omega arith);
      lower = past_least c.args.lower.now c.args.i c.in-Some-None.h l;
    }

pub returns-in-None-Some-clause-found : goal.returns-in-None-Some-clause-found
returns-in-None-Some-clause-found c =
    let h : at_of c.args.higher.now c.args.j ≡ None = sym c.at.ensures ∙ c.in-None-Some.is-0 in
    let l : at_of c.args.lower.now c.args.i ≡ Some c.in-None-Some.l = sym c.at-2.ensures ∙ c.in-None-Some.is-1 in
    record {
      among = inr l;
      higher = past_least c.args.higher.now c.args.j c.in-None-Some.l h;
      lower = least_from c.args.lower.now c.requires.lower_by_as c.args.i c.in-None-Some.l c.in-None-Some.l l (omega arith);
    }

pub returns-in-None-None-clause-none_higher : goal.returns-in-None-None-clause-none_higher
returns-in-None-None-clause-none_higher c = past_at c.args.higher.now c.args.j (sym c.at.ensures ∙ c.in-None-None.is-0)

pub returns-in-None-None-clause-none_lower : goal.returns-in-None-None-clause-none_lower
returns-in-None-None-clause-none_lower c = past_at c.args.lower.now c.args.i (sym c.at-2.ensures ∙ c.in-None-None.is-1)
