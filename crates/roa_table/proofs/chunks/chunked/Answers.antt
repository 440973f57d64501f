use Rattle.std.proofs.Common.{◌≡◌, ◌++◌, ◌∷◌, [], ◌∙◌, ap, subst, sym, reverse}
use Rattle.std.specs.List.{AllByRecursion}
use Rattle.std.proofs.lemmas.List.{reverse-append}
use Rattle.roa_table.specs.Chunks.{IsInOrder, all_of}
use Rattle.roa_table.proofs.Cutting.{IsBehind, put_order, put_behind, put_all, put_rising}
use Rattle.roa_table.proofs.chunks.chunked.Goals as goal

pub rest-preserved : goal.rest-preserved
rest-preserved c =
    let old = c.rest.vrps.items in
    let left = c.take_last.new.vrps.items in
    let t = c.in_ok-chunk.chunk in
    let G = reverse c.rest.chunks.items in
    let takes = c.in_ok-chunk.ensures in
    let i = c.rest.invariant in
    let new : reverse c.push.new.self.items ≡ t ∷ G = ap reverse c.in_ok-push.ensures.items ∙ reverse-append c.rest.chunks.items (t ∷ []) in
    record {
      order = subst IsInOrder (sym new) (put_order old left t G takes i.rising i.order i.behind);
      all = ap (λ l. left ++ all_of l) new ∙ put_all old left t G takes i.rising i.order i.behind ∙ i.all;
      rising = put_rising old left t G takes i.rising i.order i.behind;
      behind = subst (AllByRecursion (IsBehind left)) (sym new) (put_behind old left t G takes i.rising i.order i.behind);
    }
