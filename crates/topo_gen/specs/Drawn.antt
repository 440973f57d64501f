-- The links of a generated input, which are drawn by the words of SplitMix64 (own format; Steele, Lea and Flood, "Fast splittable pseudorandom number generators", 2014).
use Rattle.std.specs.Prelude.{ℕ, ◌+◌, ◌-◌, ◌%◌, ◌==◌, is_some, if◌then◌else◌, map, min}
use Rattle.std.specs.FinMap.{from_entries}
use Rattle.std.specs.Fn.{iterate}
use Rattle.std.specs.List.{flat_map, fold, range_with_len}
use Rattle.rand_xoshiro.specs.SplitMix64.{mix_u64}
use Rattle.net_names.specs.Links.{LinkMap, between, with_relation}
use Rattle.net_names.specs.declared.routes.Rel.{Rel}
use Rattle.net_names.specs.declared.routes.Rel.TheVariants.{Customer, Peer}

-- after the links so far and the state of SplitMix64: a word w is drawn, and a becomes this to the AS 1 + w mod (a - 1), unless the two have a link (own format)
unfoldable pub picked : ℕ → Rel → LinkMap × ℕ → LinkMap × ℕ
picked a rel d = let (w, next) = mix_u64 d.1 in let b = 1 + w % (a - 1) in
    (if is_some (between d.0 b a) then d.0 else with_relation d.0 b a rel, next)

-- a word w is drawn, and a becomes a customer 1 + w mod 3 times; then a word v is drawn, and where 4 divides it, a becomes a peer (own format)
unfoldable pub with_as : LinkMap × ℕ → ℕ → LinkMap × ℕ
with_as d a = let (w, s) = mix_u64 d.1 in let e = iterate (picked a Customer) (1 + w % 3) (d.0, s)
    in let (v, t) = mix_u64 e.1 in iterate (picked a Peer) (if v % 4 == 0 then 1 else 0) (e.0, t)

-- the links of a generated input of n ASes: the first eight are peers of one another, and those from 9 to n get theirs one after the other, with the seed n as the first state (own format)
unfoldable pub drawn_links : ℕ → LinkMap
drawn_links n = let es = flat_map (λ b. map (λ a. ((a, b), Peer)) (range_with_len 1 (b - 1)))
    (range_with_len 1 (min n 8)) in (fold with_as (from_entries es, n) (range_with_len 9 (n - 8))).0

-- each two of the ASes 1 to k are peers (own format)
unfoldable pub first_peers : ℕ → LinkMap
first_peers k = from_entries
    (flat_map (λ b. map (λ a. ((a, b), Peer)) (range_with_len 1 (b - 1))) (range_with_len 1 k))

-- b becomes this to a, unless the two have a link (own format)
abbrev pub joined : ℕ → ℕ → Rel → LinkMap → LinkMap
joined a b rel links = if is_some (between links a b) then links else with_relation links a b rel
