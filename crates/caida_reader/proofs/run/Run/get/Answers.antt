use Rattle.std.proofs.Common.{◌∙◌, sym, ap, Some, List, ℕ, Result, Ok, Err, subst, length, refl}
use Rattle.std.specs.List.Sorted.{IsSearchInRange, IsBinarySearchResult}
use Rattle.net_names.specs.Links.{pair_cmp}
use Rattle.caida_reader.specs.Entries.{first_in}
use Rattle.caida_reader.specs.declared.entry.Entry.{Entry}
use Rattle.caida_reader.proofs.RunLemmas.{get-past}
use Rattle.caida_reader.proofs.EntryLemmas.{found, missed}
use Rattle.caida_reader.proofs.run.Run.get.Goals as goal

pub returns-then-is_past : goal.returns-then-is_past
returns-then-is_past c = sym (get-past c.args.self.now (c.args.a, c.args.b) (c.if-is_past.ensures refl))

abbrev Searched : ℕ × ℕ → Result ℕ ℕ → List Entry → Type 0
Searched k r es = IsSearchInRange r (length es) × IsBinarySearchResult (λ (e : Entry). pair_cmp (e.a, e.b) k) es r

pub returns-in-Ok : goal.returns-in-Ok
returns-in-Ok c =
    let searched = subst (Searched (c.args.a, c.args.b) (Ok c.in-Ok.at)) c.as_slice.ensures.value (c.in-Ok.ensures.bound, c.in-Ok.ensures.position) in
    rw (← c.self.view_is) (ap Some c.first.ensures ∙ (ap (λ (e : Entry). Some (first_in e.first)) c.index.ensures ∙ sym (found c.self.inside.entries.items c.self.invariant (c.args.a, c.args.b) c.in-Ok.at c.index.result.now searched.0 searched.1)))

pub returns-in-Err : goal.returns-in-Err
returns-in-Err c =
    let searched = subst (Searched (c.args.a, c.args.b) (Err c.in-Err.field-0)) c.as_slice.ensures.value (c.in-Err.ensures.bound, c.in-Err.ensures.position) in
    rw (← c.self.view_is) (sym (missed c.self.inside.entries.items c.self.invariant (c.args.a, c.args.b) c.in-Err.field-0 searched.0 searched.1))
