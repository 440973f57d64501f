use Rattle.std.proofs.Common.{◌≡◌, ◌+◌, ◌<◌, ◌≤◌, ◌∙◌, ap, subst, sym, rules, arith, take, drop, set, get_or, length}
use Rattle.std.specs.List.{insert}
use Rattle.std.proofs.lemmas.List.{get_or_read, take_rest}
use Rattle.std.proofs.lemmas.List.Edits.{get_or-insert_below}
use Rattle.net_names.specs.Payloads.{VrpValue}
use Rattle.roa_table.specs.declared.chunk.Chunk.{Chunk}
use Rattle.roa_table.specs.Lists.{IsRising, IsPart}
use Rattle.roa_table.proofs.Chunking.{rising_at_place}
use Rattle.roa_table.proofs.Cutting.{AreParts, IsCut, cut_at}
use Rattle.roa_table.proofs.chunks.cut.Goals as goal

pub middle-at-requires-clause-rising : goal.middle-at-requires-clause-rising
middle-at-requires-clause-rising c = subst IsRising (sym c.as_slice-vrps.ensures.value) (rising_at_place c.args.chunks.now.items c.args.k c.index.result.now c.requires.order c.requires.inside c.index.ensures)

is_cut : (c : goal.After-chunks-1) → IsCut c.args.chunks.now.items (set c.insert.new.self.items c.args.k (record { low = c.prefix-low.result; vrps = c.truncate.new.self }))
is_cut c =
    let ss = c.args.chunks.now.items in
    let k = c.args.k in
    let s = c.index.result.now in
    let t : Chunk = record { low = c.prefix-low.result; vrps = c.truncate.new.self } in
    let u : Chunk = record { low = c.prefix-next.result; vrps = c.in-Ok.tail } in
    let new : c.insert.new.self.items ≡ insert ss (k + 1) u = search rules in
    let items : c.as_slice-vrps.result.now ≡ s.vrps.items = c.as_slice-vrps.ensures.value in
    let d = c.index_mut-chunk.result.now in
    let below : k < k + 1 = omega arith in
    let within : k + 1 ≤ length ss = omega (arith, c.requires.inside) in
    let same : c.index_mut-chunk.result.now ≡ s =
    c.index_mut-chunk.ensures.value ∙ ap (λ l. get_or l k d) new ∙ get_or-insert_below ss (k + 1) u d k below within ∙ sym (get_or_read ss k s c.requires.inside c.index.ensures d) in
    let lt : c.middle-at.result < length c.as_slice-vrps.result.now = omega arith in
    let some : 0 < length c.as_slice-vrps.result.now = omega (arith, lt) in
    let parts : AreParts s t u c.middle-at.result = record {
      part = subst (λ l. IsPart l c.middle-at.result) items c.middle-at.ensures;
      inside = subst (λ l. c.middle-at.result < length l) items lt;
      front = c.truncate.ensures.items ∙ ap (λ (x : Chunk). take c.middle-at.result x.vrps.items) same;
      back = c.in-Ok.ensures.items ∙ take_rest c.as_slice-vrps.result.now c.middle-at.result ∙ ap (drop c.middle-at.result) items;
      low = λ d. c.prefix-low.ensures ∙ ap (λ (v : VrpValue). v.prefix) (get_or_read c.as_slice-vrps.result.now 0 c.index-vrps-0.result some c.index-vrps-0.is d ∙ ap (λ l. get_or l 0 d) items);
      next = λ d. c.prefix-next.ensures ∙ ap (λ (v : VrpValue). v.prefix) (get_or_read c.as_slice-vrps.result.now c.middle-at.result c.index-vrps-at.result lt c.index-vrps-at.is d ∙ ap (λ l. get_or l c.middle-at.result d) items);
    } in
    subst (λ l. IsCut ss (set l k t)) (sym new) (cut_at ss k s t u c.middle-at.result c.requires.order c.requires.inside c.index.ensures parts)

pub returns-then-is_ok-clause-order : goal.returns-then-is_ok-clause-order
returns-then-is_ok-clause-order c = (is_cut c).order

pub returns-then-is_ok-clause-same : goal.returns-then-is_ok-clause-same
returns-then-is_ok-clause-same c = (is_cut c).same
