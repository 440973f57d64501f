use Rattle.std.proofs.Common.{◌≡◌, ◌<◌, ◌-◌, length, subst, List}
use Rattle.std.specs.List.{HoldsAt}
use Rattle.std.specs.declared.cmp.Ordering.TheVariants.{Less}
use Rattle.net_names.specs.Links.{pair_cmp}
use Rattle.caida_reader.specs.declared.entry.Entry.{Entry}
use Rattle.caida_reader.proofs.EntryLemmas.{past}
use Rattle.caida_reader.proofs.run.Run.is_past.Goals as goal

pub returns : goal.returns
returns c = λ is.
    let P : List Entry → Type 0 = λ es. 0 < length es → HoldsAt (λ (e : Entry). pair_cmp (e.a, e.b) (c.args.a, c.args.b) ≡ Less) es (length es - 1) in
    rw (← c.self.view_is) (past c.self.inside.entries.items c.self.invariant (c.args.a, c.args.b) (subst P c.as_slice.ensures.value (c.is_past_last.ensures is)))
