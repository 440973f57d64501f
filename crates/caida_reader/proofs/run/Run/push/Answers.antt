use Rattle.std.proofs.Common.{◌≡◌, ◌∙◌, ℕ, List, sym, ap, subst, T, map}
use Rattle.std.specs.FinMap as fin
use Rattle.net_names.specs.Links.{pair_cmp}
use Rattle.caida_reader.specs.Entries.{entry_of}
use Rattle.caida_reader.specs.Runs.{IsPast}
use Rattle.caida_reader.specs.Firsts.{FirstMap}
use Rattle.caida_reader.specs.declared.entry.Entry.{Entry}
use Rattle.caida_reader.specs.declared.firsts.First.{First}
use Rattle.caida_reader.proofs.EntryLemmas.{map_of, sorted-push, map_of-push}
use Rattle.caida_reader.proofs.run.Run.push.Goals as goal

-- a pair above all is so as an entry's pair too
is_past : (m n : FirstMap) (k : ℕ × ℕ) (first : First) (e : Entry) → m ≡ n → entry_of e ≡ (k, first) → IsPast n k → IsPast m (entry_of e).0
is_past m n k first e same is past = subst (λ (p : ℕ × ℕ). IsPast m p) (sym (ap (λ (f : (ℕ × ℕ) × First). f.0) is)) (subst (λ (l : FirstMap). IsPast l k) (sym same) past)

pub invariant_of-self-2 : goal.invariant_of-self-2
invariant_of-self-2 c =
    let es = c.self.inside.entries.items in
    let past = is_past (map_of es) c.args.self.now (c.args.a, c.args.b) c.args.first c.new-entry.result c.self.view_is c.new-entry.ensures c.requires.past in
    subst (λ (fs : List Entry). T (fin.is_sorted pair_cmp (map entry_of fs))) (sym c.in_ok-push.ensures.items) (sorted-push es c.self.invariant c.new-entry.result past)

pub returns-clause-ok : goal.returns-clause-ok
returns-clause-ok c =
    let es = c.self.inside.entries.items in
    let past = is_past (map_of es) c.args.self.now (c.args.a, c.args.b) c.args.first c.new-entry.result c.self.view_is c.new-entry.ensures c.requires.past in
    ap map_of c.in_ok-push.ensures.items ∙ map_of-push es c.self.invariant c.new-entry.result past
    ∙ ap (λ (m : FirstMap). fin.insert m (entry_of c.new-entry.result).0 (entry_of c.new-entry.result).1) c.self.view_is
    ∙ ap (λ (f : (ℕ × ℕ) × First). fin.insert c.args.self.now f.0 f.1) c.new-entry.ensures
