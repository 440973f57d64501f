use Rattle.std.proofs.Common.{◌≡◌, ◌<◌, ◌+◌, ◌++◌, ◌∷◌, [], ℕ, List, All, length, take, get_or, sym, ap, subst, ◌∙◌}
use Rattle.std.proofs.lemmas.List.{take_more, take_all}
use Rattle.std.proofs.lemmas.List.Elements.{All-push, All-weaker}
use Rattle.caida_reader.specs.Marks.{IsMarked}
use Rattle.caida_reader.specs.declared.entry.Entry.{Entry}
use Rattle.caida_reader.proofs.marks.PairFilter.mark_only.Goals as goal

abbrev Marked : List ℕ → Entry → Type 0
Marked words e = IsMarked words (e.a, e.b)

one_more : (old new : List ℕ) (es : List Entry) (i : ℕ) (e : Entry) → i < length es → e ≡ get_or es i e → All (Marked old) (take i es) → Marked new e → ((pair : ℕ × ℕ) → IsMarked old pair → IsMarked new pair) → All (Marked new) (take (i + 1) es)
one_more old new es i e lt is before here kept =
    let more : take (i + 1) es ≡ take i es ++ e ∷ [] = take_more es i e lt ∙ ap (λ (d : Entry). take i es ++ d ∷ []) (sym is) in
    subst (λ (fs : List Entry). All (Marked new) fs) (sym more) (All-push (Marked new) (take i es) e (All-weaker (Marked old) (Marked new) (λ d m. kept (d.a, d.b) m) (take i es) before) here)

pub entries-preserved : goal.entries-preserved
entries-preserved c = one_more c.entries.self c.mark.new.self c.args.entries.now c.entries.entry-index c.entry-item.result c.entries-test.true c.entry-item.is c.entries.invariant c.mark.ensures.marked c.mark.ensures.kept

pub returns-clause-marked : goal.returns-clause-marked
returns-clause-marked c = subst (λ (fs : List Entry). All (Marked c.entries.self) fs) (take_all c.entries.entry-index c.args.entries.now c.entries-test.false) c.entries.invariant
