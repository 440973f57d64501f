use Rattle.std.proofs.Common.{◌≡◌, ◌≤◌, ◌<◌, ◌-◌, ◌+◌, List, ◌++◌, [], ◌∷◌, ℕ, length, get_or, take, drop, sym, ap, subst, ◌∙◌, arith}
use Rattle.std.proofs.lemmas.List.{take_rest, drop_more, drop_all, drop-append-le, length-drop}
use Rattle.std.proofs.Math.Seq.{drop-append-add, take-append_seam}
use Rattle.net_names.specs.Payloads.{VrpValue}
use Rattle.roa_table.specs.declared.chunk.Chunk.{Chunk}
use Rattle.roa_table.specs.Chunks.{all_of}
use Rattle.roa_table.proofs.chunks.payloads_from.Goals as goal

-- what stands in this chunk and in those behind it
split : (ss : List Chunk) (i : ℕ) (s : Chunk) → i < length ss → s ≡ get_or ss i s → all_of (drop i ss) ≡ s.vrps.items ++ all_of (drop (i + 1) ss)
split ss i s lt is = ap all_of (drop_more ss i s lt ∙ ap (λ t. t ∷ drop (i + 1) ss) (sym is))

-- a place behind a list is one in the list behind
past : (xs ys : List VrpValue) (n : ℕ) → length xs ≤ n → drop (n - length xs) ys ≡ drop n (xs ++ ys)
past xs ys n h =
    let sum : length xs + (n - length xs) ≡ n = omega (arith, h) in
    sym (drop-append-add xs ys (n - length xs)) ∙ ap (λ k. drop k (xs ++ ys)) sum

-- the rest of a list begins what is left of it and of the list behind
front : (xs ys : List VrpValue) (n : ℕ) → n ≤ length xs → drop n xs ≡ take (length (drop n xs)) (drop n (xs ++ ys))
front xs ys n h = sym (ap (take (length (drop n xs))) (drop-append-le n xs ys h) ∙ take-append_seam (drop n xs) ys)

pub returns-then-left-vrps-clause-next : goal.returns-then-left-vrps-clause-next
returns-then-left-vrps-clause-next c =
    let ss = c.args.chunks.now in
    let i = c.loop-chunk.chunk-index in
    let s = c.chunk-item.result in
    let n = c.loop-chunk.left in
    let own = c.as_slice-vrps.ensures.value in
    let is : take (length c.as_slice-vrps.result.now - n) (drop n c.as_slice-vrps.result.now) ≡ drop n s.vrps.items = take_rest c.as_slice-vrps.result.now n ∙ ap (drop n) own in
    let inside : n ≤ length s.vrps.items = subst (λ l. n ≤ length l) own (omega (arith, c.if-left-vrps.true)) in
    let place : drop n (s.vrps.items ++ all_of (drop (i + 1) ss)) ≡ drop c.args.place (all_of ss) = ap (drop n) (sym (split ss i s c.loop-chunk-test.true c.chunk-item.is)) ∙ c.loop-chunk.invariant in
    is ∙ front s.vrps.items (all_of (drop (i + 1) ss)) n inside ∙ (λ j. take (length (sym is j)) (place j))

pub loop-chunk-preserved : goal.loop-chunk-preserved
loop-chunk-preserved c =
    let ss = c.args.chunks.now in
    let i = c.loop-chunk.chunk-index in
    let s = c.chunk-item.result in
    let n = c.loop-chunk.left in
    let own = c.as_slice-vrps.ensures.value in
    ap (λ l. drop (n - length l) (all_of (drop (i + 1) ss))) own
    ∙ past s.vrps.items (all_of (drop (i + 1) ss)) n (subst (λ l. length l ≤ n) own c.if-left-vrps.false)
    ∙ ap (drop n) (sym (split ss i s c.loop-chunk-test.true c.chunk-item.is)) ∙ c.loop-chunk.invariant

pub returns-clause-some : goal.returns-clause-some
returns-clause-some c = λ lt.
    let ss = c.args.chunks.now in
    let none : drop c.args.place (all_of ss) ≡ [] = sym c.loop-chunk.invariant ∙ ap (λ l. drop c.loop-chunk.left (all_of l)) (drop_all c.loop-chunk.chunk-index ss c.loop-chunk-test.false) ∙ drop_all c.loop-chunk.left [] (omega arith) in
    let left : length (all_of ss) - c.args.place ≡ 0 = sym (length-drop c.args.place (all_of ss)) ∙ ap length none in
    absurd (omega (arith, lt, left))
