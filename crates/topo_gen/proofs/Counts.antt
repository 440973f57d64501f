-- How many links are drawn at most: a word adds one at most.
use Rattle.std.proofs.Common.{ℕ, zero, suc, ◌≡◌, ◌∙◌, ◌+◌, ◌*◌, ◌%◌, ◌-◌, ◌≤◌, ◌==◌, Bool, true, false, cond, List, [], ◌∷◌, length, min, nat_lt, is_some, arith, if◌then◌else◌}
use Rattle.std.specs.FinMap as fin
use Rattle.std.specs.Fn.{iterate}
use Rattle.std.specs.List.{flat_map, fold, range_with_len}
use Rattle.std.proofs.lemmas.List.{length-append, length-map}
use Rattle.std.proofs.lemmas.List.FromFn.{length-range_with_len}
use Rattle.rand_xoshiro.specs.SplitMix64.{mix_u64}
use Rattle.net_names.specs.Links.{between, converse, pair_cmp, with_relation, LinkMap}
use Rattle.net_names.specs.declared.links.TheConstants.{MOST_LINKS}
use Rattle.net_names.specs.declared.routes.Rel.{Rel}
use Rattle.net_names.specs.declared.routes.Rel.TheVariants.{Customer, Peer}
use Rattle.net_names.proofs.Pairs.{pairs_total}
use Rattle.topo_gen.specs.declared.demo.TheConstants.{MOST_DRAWN}
use Rattle.topo_gen.specs.Drawn.{drawn_links, first_peers, joined, picked, with_as}
use Rattle.topo_gen.proofs.Entries.{Entry, map_with}
use Rattle.topo_gen.proofs.Drawing.{peers_of}

one_at_most : (b : Bool) (n : ℕ) → cond b n (n + 1) ≤ n + 1
one_at_most true n = omega arith
one_at_most false n = omega arith

len-insert : (m : LinkMap) (pair : ℕ × ℕ) (rel : Rel) → fin.len (fin.insert m pair rel) ≤ fin.len m + 1
len-insert m pair rel = rw (fin.len-insert pairs_total m pair rel) (one_at_most (fin.contains_key m pair) (fin.len m))

either : (b : Bool) (m n : LinkMap) (most : ℕ) → fin.len m ≤ most → fin.len n ≤ most → fin.len (if b then m else n) ≤ most
either true m n most one other = one
either false m n most one other = other

len-joined : (a b : ℕ) (rel : Rel) (m : LinkMap) → fin.len (joined a b rel m) ≤ fin.len m + 1
len-joined a b rel m = either (is_some (between m a b)) m (with_relation m a b rel) (fin.len m + 1) (omega arith)
    (either (nat_lt a b) (fin.insert m (a, b) rel) (fin.insert m (b, a) (converse rel)) (fin.len m + 1) (len-insert m (a, b) rel) (len-insert m (b, a) (converse rel)))

len-map_with : (es : List Entry) → fin.len (map_with es) ≤ length es
len-map_with [] = omega (arith, fin.len-empty pair_cmp Rel)
len-map_with (e ∷ es) = omega (arith, len-insert (map_with es) e.0 e.1, len-map_with es)

pairs_at_most : (k a : ℕ) → a + k ≤ 9 → length (flat_map (λ b. peers_of b (b - 1)) (range_with_len a k)) ≤ 8 * k
pairs_at_most zero a few = omega arith
pairs_at_most (suc k) a few =
    let here : length (peers_of a (a - 1)) ≡ a - 1 = length-map (range_with_len 1 (a - 1)) (λ b. ((b, a), Peer)) ∙ length-range_with_len 1 (a - 1) in
    let all = length-append (peers_of a (a - 1)) (flat_map (λ b. peers_of b (b - 1)) (range_with_len (a + 1) k)) in
    let more = pairs_at_most k (a + 1) (omega (arith, few)) in
    omega (arith, few, here, all, more)

len-first_peers : (k : ℕ) → k ≤ 8 → fin.len (first_peers k) ≤ 8 * k
unfolding first_peers
len-first_peers k few =
    let listed = len-map_with (flat_map (λ b. peers_of b (b - 1)) (range_with_len 1 k)) in
    let pairs = pairs_at_most k 1 (omega (arith, few)) in
    omega (arith, listed, pairs)

len-picked : (a : ℕ) (rel : Rel) (d : LinkMap × ℕ) → fin.len (picked a rel d).0 ≤ fin.len d.0 + 1
unfolding picked
len-picked a rel d = len-joined (1 + (mix_u64 d.1).0 % (a - 1)) a rel d.0

len-iterate : (a k : ℕ) (rel : Rel) (d : LinkMap × ℕ) → fin.len (iterate (picked a rel) k d).0 ≤ fin.len d.0 + k
len-iterate a zero rel d = omega arith
len-iterate a (suc k) rel d = omega (arith, len-picked a rel d, len-iterate a k rel (picked a rel d))

len-with_as : (d : LinkMap × ℕ) (a : ℕ) → fin.len (with_as d a).0 ≤ fin.len d.0 + 4
unfolding with_as
len-with_as d a =
    let e = iterate (picked a Customer) (1 + (mix_u64 d.1).0 % 3) (d.0, (mix_u64 d.1).1) in
    let customers = len-iterate a (1 + (mix_u64 d.1).0 % 3) Customer (d.0, (mix_u64 d.1).1) in
    peers ((mix_u64 e.1).0 % 4 == 0) e (mix_u64 e.1).1 (omega (arith, customers))
  where
    peers : (b : Bool) (e : LinkMap × ℕ) (last : ℕ) → fin.len e.0 ≤ fin.len d.0 + 3 → fin.len (iterate (picked a Peer) (if b then 1 else 0) (e.0, last)).0 ≤ fin.len d.0 + 4
    peers true e last few = omega (arith, few, len-picked a Peer (e.0, last))
    peers false e last few = omega (arith, few)

len-fold : (xs : List ℕ) (d : LinkMap × ℕ) → fin.len (fold with_as d xs).0 ≤ fin.len d.0 + 4 * length xs
len-fold [] d = omega arith
len-fold (a ∷ xs) d = omega (arith, len-with_as d a, len-fold xs (with_as d a))

pub len-drawn_links : (n : ℕ) → n ≤ MOST_DRAWN → fin.len (drawn_links n) ≤ MOST_LINKS
unfolding drawn_links first_peers
len-drawn_links n most =
    let first = len-first_peers (min n 8) (omega arith) in
    let others = len-fold (range_with_len 9 (n - 8)) (first_peers (min n 8), n) in
    let count = length-range_with_len 9 (n - 8) in
    omega (arith, most, first, others, count)
