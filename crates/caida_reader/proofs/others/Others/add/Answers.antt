use Rattle.std.proofs.Common.{◌≡◌, ℕ, sym, ap, ◌∙◌, None, Some}
use Rattle.std.specs.FinMap as fin
use Rattle.net_names.specs.Links.{pair_cmp}
use Rattle.caida_reader.specs.Firsts.{FirstMap}
use Rattle.caida_reader.proofs.PairLemmas.{get_pair, one_put, put_back, ok_part, stands_put}
use Rattle.caida_reader.proofs.others.Others.add.Goals as goal

pub returns-in-None-clause-value : goal.returns-in-None-clause-value
returns-in-None-clause-value c =
    let absent = get_pair c.self.inside.entries.entries (c.args.lo, c.args.hi) ∙ sym (rw c.in-None.is at c.in_ok-insert.ensures.old) in
    rw (← c.self.view_is) (sym absent)

pub returns-in-None-clause-after : goal.returns-in-None-clause-after
returns-in-None-clause-after c =
    let es = c.self.inside.entries.entries in
    let put = one_put es c.insert.new.self.entries (c.args.lo, c.args.hi) c.args.given c.in_ok-insert.ensures.updates.0 in
    let absent = get_pair es (c.args.lo, c.args.hi) ∙ sym (rw c.in-None.is at c.in_ok-insert.ensures.old) in
    rw (← c.self.view_is) (rw absent put)

pub returns-in-Some-clause-value : goal.returns-in-Some-clause-value
returns-in-Some-clause-value c =
    let stands = get_pair c.self.inside.entries.entries (c.args.lo, c.args.hi) ∙ sym (rw c.in-Some.is at c.in_ok-insert.ensures.old) in
    rw (← c.self.view_is) (sym stands)

pub returns-in-Some-clause-after : goal.returns-in-Some-clause-after
returns-in-Some-clause-after c =
    let pair : ℕ × ℕ = (c.args.lo, c.args.hi) in
    let es = c.self.inside.entries.entries in
    let map : FirstMap = fin.from_entries {R = pair_cmp} es in
    let stands = get_pair es pair ∙ sym (rw c.in-Some.is at c.in_ok-insert.ensures.old) in
    let once = one_put es c.insert.new.self.entries pair c.args.given c.in_ok-insert.ensures.updates.0 in
    let there = sym (get_pair c.insert.new.self.entries pair) ∙ ap (λ m. fin.get m pair) once ∙ stands_put map pair c.args.given in
    let updates = ok_part c.insert-in-Some.result _ _ c.insert-in-Some.ensures.updates c.insert-in-Some.ensures.absent (λ none. let both : Some c.args.given ≡ None = sym there ∙ none in cc) in
    let twice = one_put c.insert.new.self.entries c.insert-in-Some.new.self.entries pair c.in-Some.first updates.0 in
    rw (← c.self.view_is) (rw stands (twice ∙ ap (λ m. fin.insert m pair c.in-Some.first) once ∙ put_back map pair c.args.given c.in-Some.first stands))
