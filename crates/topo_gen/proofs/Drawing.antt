-- What one more step draws.
use Rattle.std.proofs.Common.{◌≡◌, ◌∙◌, ◌+◌, ◌%◌, ◌-◌, ◌<◌, ◌==◌, min, ℕ, zero, suc, arith, Bool, true, false, cond, List, [], ◌∷◌, ◌++◌, map, Option, Some, None, is_some, if◌then◌else◌, add-one, ap, refl, sym}
use Rattle.std.specs.Ordering.{eq_by_cmp}
use Rattle.std.specs.Option.{option_or}
use Rattle.std.specs.FinMap as fin
use Rattle.std.specs.Fn.{iterate}
use Rattle.std.specs.List.{flat_map, fold, range_with_len}
use Rattle.std.proofs.lemmas.Bool.{lt-ltb}
use Rattle.std.proofs.lemmas.Grind.{flat_map-append}
use Rattle.std.proofs.lemmas.List.{append_assoc, append-nil, map-append}
use Rattle.std.proofs.lemmas.List.Sums.{fold-append}
use Rattle.rand_xoshiro.specs.SplitMix64.{mix_u64}
use Rattle.net_names.specs.Links.{LinkMap, pair_cmp}
use Rattle.net_names.specs.declared.routes.Rel.{Rel}
use Rattle.net_names.specs.declared.routes.Rel.TheVariants.{Customer, Peer}
use Rattle.net_names.proofs.Pairs.{exact_pair, pairs_total}
use Rattle.topo_gen.specs.Drawn.{joined, first_peers, picked, with_as, drawn_links}
use Rattle.topo_gen.proofs.Entries.{Entry, equal, map_with}
use Rattle.topo_gen.proofs.UpTo.{range_with_len-more, range_with_len-push}

-- ---- one pair more in a list of pairs, of which the first of two counts
find-append : (es : List Entry) (k : ℕ × ℕ) (v : Rel) (q : ℕ × ℕ) → fin.find pair_cmp q (es ++ (k, v) ∷ []) ≡ option_or (fin.find pair_cmp q es) (cond (eq_by_cmp pair_cmp q k) (Some v) None)
find-append [] k v q = refl
find-append (e ∷ es) k v q = ap (cond (eq_by_cmp pair_cmp q e.0) (Some e.1)) (find-append es k v q) ∙ behind (eq_by_cmp pair_cmp q e.0) (fin.find pair_cmp q es)
  where
    behind : (b : Bool) (o : Option Rel) → cond b (Some e.1) (option_or o (cond (eq_by_cmp pair_cmp q k) (Some v) None)) ≡ option_or (cond b (Some e.1) o) (cond (eq_by_cmp pair_cmp q k) (Some v) None)
    behind true o = refl
    behind false o = refl

stays : (b : Bool) (o : Option Rel) (x v : Rel) → (b ≡ true → o ≡ Some x) → option_or o (cond b (Some v) None) ≡ o
stays true o x v h = rw (h refl) refl
stays false None x v h = refl
stays false (Some y) x v h = refl

from_entries-push : (es : List Entry) (a b : ℕ) (rel : Rel) → a < b → map_with (es ++ ((a, b), rel) ∷ []) ≡ joined a b rel (map_with es)
from_entries-push es a b rel rises = by (fin.find pair_cmp (a, b) es) refl ∙ sym (rw (lt-ltb a b rises, fin.get-from_entries pairs_total es (a, b)) refl)
  where
    by : (o : Option Rel) → fin.find pair_cmp (a, b) es ≡ o → map_with (es ++ ((a, b), rel) ∷ []) ≡ (if is_some (fin.find pair_cmp (a, b) es) then map_with es else fin.insert (map_with es) (a, b) rel)
    by None none = fin.from_entries_push pairs_total exact_pair es (a, b) rel none ∙ rw none refl
    by (Some x) there = fin.same_map pairs_total exact_pair _ _ (λ q.
        fin.get-from_entries pairs_total (es ++ ((a, b), rel) ∷ []) q ∙ find-append es (a, b) rel q
        ∙ stays (eq_by_cmp pair_cmp q (a, b)) (fin.find pair_cmp q es) x rel (λ ties. ap (λ p. fin.find pair_cmp p es) (exact_pair q (a, b) (equal (pair_cmp q (a, b)) ties)) ∙ there)
        ∙ sym (fin.get-from_entries pairs_total es q)) ∙ rw there refl

-- ---- the first ASes
abbrev pub peers_of : ℕ → ℕ → List Entry
peers_of b k = map (λ a. ((a, b), Peer)) (range_with_len 1 k)

pub no_peers : (b : ℕ) (es : List Entry) (links : LinkMap) → links ≡ map_with es → links ≡ map_with (es ++ peers_of b 0)
no_peers b es links h = h ∙ ap (λ (fs : List Entry). map_with fs) (sym (append-nil es))

pub more_peers : (b k : ℕ) (es : List Entry) (now after : LinkMap) → k + 1 < b → now ≡ map_with (es ++ peers_of b k) → after ≡ joined (k + 1) b Peer now → after ≡ map_with (es ++ peers_of b (k + 1))
more_peers b k es now after below h e =
    let more : es ++ peers_of b (k + 1) ≡ (es ++ peers_of b k) ++ ((k + 1, b), Peer) ∷ [] =
    ap (λ (xs : List ℕ). es ++ map (λ a. ((a, b), Peer)) xs) (range_with_len-more k) ∙ ap (λ fs. es ++ fs) (map-append (λ a. ((a, b), Peer)) (range_with_len 1 k) ((k + 1) ∷ [])) ∙ sym (append_assoc es (peers_of b k) _) in
    e ∙ ap (joined (k + 1) b Peer) h ∙ sym (ap (λ (fs : List Entry). map_with fs) more ∙ from_entries-push (es ++ peers_of b k) (k + 1) b Peer below)

pub no_first : (links : LinkMap) → links ≡ fin.empty → links ≡ first_peers 0
unfolding first_peers
no_first links h = h

pub more_first : (k count : ℕ) (now after : LinkMap) → now ≡ first_peers k → count ≡ k → ((es : List Entry) → now ≡ map_with es → after ≡ map_with (es ++ peers_of (k + 1) count)) → after ≡ first_peers (k + 1)
unfolding first_peers
more_first k count now after h same e =
    let peers : ℕ → List Entry = λ b. peers_of b (b - 1) in
    let count_is : count ≡ k + 1 - 1 = omega (arith, same) in
    e (flat_map peers (range_with_len 1 k)) h
    ∙ ap (λ (fs : List Entry). map_with (flat_map peers (range_with_len 1 k) ++ fs)) (ap (peers_of (k + 1)) count_is ∙ sym (append-nil (peers_of (k + 1) (k + 1 - 1))))
    ∙ ap (λ (fs : List Entry). map_with fs) (sym (ap (flat_map peers) (range_with_len-more k) ∙ flat_map-append peers (range_with_len 1 k) ((k + 1) ∷ [])))

-- ---- the ASes that words pick
pub picked_is : (a w to : ℕ) (rel : Rel) (links after : LinkMap) (state next : ℕ) → w ≡ (mix_u64 state).0 → next ≡ (mix_u64 state).1 → to ≡ 1 + w % (a - 1) → after ≡ joined to a rel links → (after, next) ≡ picked a rel (links, state)
unfolding picked
picked_is a w to rel links after state next w_is next_is to_is after_is = rw (after_is, to_is, w_is, next_is) refl

iterate-more : {X : Type 0} (f : X → X) (k : ℕ) (x : X) → iterate f (suc k) x ≡ f (iterate f k x)
iterate-more f zero x = refl
iterate-more f (suc k) x = iterate-more f k (f x)

pub more_picked : (a k : ℕ) (rel : Rel) (start now after : LinkMap × ℕ) → now ≡ iterate (picked a rel) k start → after ≡ picked a rel now → after ≡ iterate (picked a rel) (k + 1) start
more_picked a k rel start now after h e = e ∙ ap (picked a rel) h ∙ sym (iterate-more (picked a rel) k start) ∙ rw add-one refl

-- ---- the links of one more AS
pub as_made : (a w v more : ℕ) (links l : LinkMap) (state s t u : ℕ) (end : LinkMap × ℕ) → w ≡ (mix_u64 state).0 → s ≡ (mix_u64 state).1
    → (l, t) ≡ iterate (picked a Customer) (1 + w % 3) (links, s) → v ≡ (mix_u64 t).0 → u ≡ (mix_u64 t).1
    → more ≡ (if v % 4 == 0 then 1 else 0) → end ≡ iterate (picked a Peer) more (l, u) → end ≡ with_as (links, state) a
unfolding with_as
as_made a w v more links l state s t u end w_is s_is customers v_is u_is more_is end_is =
    let made : (l, t) ≡ iterate (picked a Customer) (1 + (mix_u64 state).0 % 3) (links, (mix_u64 state).1) = rw (w_is, s_is) at customers in
    end_is ∙ rw (more_is, v_is, u_is) (ap (λ (d : LinkMap × ℕ). iterate (picked a Peer) (if (mix_u64 d.1).0 % 4 == 0 then 1 else 0) (d.0, (mix_u64 d.1).1)) made)

pub no_ases : (n count state : ℕ) (links : LinkMap) → count ≡ min n 8 → links ≡ first_peers count → state ≡ n → (links, state) ≡ fold with_as (first_peers (min n 8), n) (range_with_len 9 0)
no_ases n count state links count_is links_is state_is = rw (links_is, count_is, state_is) refl

pub more_ases : (k : ℕ) (start now after : LinkMap × ℕ) → now ≡ fold with_as start (range_with_len 9 k) → after ≡ with_as now (k + 9) → after ≡ fold with_as start (range_with_len 9 (k + 1))
more_ases k start now after h e =
    e ∙ ap (λ d. with_as d (k + 9)) h
    ∙ sym (ap (fold with_as start) (range_with_len-push 9 k (k + 9) (omega arith)) ∙ fold-append with_as start (range_with_len 9 k) ((k + 9) ∷ []))

pub all_ases : (n k : ℕ) (now : LinkMap × ℕ) → k ≡ n - 8 → now ≡ fold with_as (first_peers (min n 8), n) (range_with_len 9 k) → now.0 ≡ drawn_links n
unfolding drawn_links first_peers
all_ases n k now k_is h = ap (λ (d : LinkMap × ℕ). d.0) h ∙ rw k_is refl
