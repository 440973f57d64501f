-- The watches that are kept are those of the rounds and the watched addresses.
use Rattle.std.proofs.Common.{◌≡◌, ◌≢◌, ◌⊎◌, inl, inr, ℕ, zero, suc, ◌+◌, ◌-◌, ◌<◌, ◌≤◌, ◌&&◌, ◌||◌, not, Bool, true, false, cond, nat_lt, nat_le, Option, Some, None, option_map, List, [], ◌∷◌, ◌++◌, length, map, get_or, unwrap_or, refl, sym, ap, subst, ◌∙◌, arith, length-append}
use Rattle.std.specs.Prelude.{option_and_then, position, slice_get}
use Rattle.std.specs.Cmp.{eq_by_cmp_equiv}
use Rattle.std.proofs.lemmas.List.{length-map, map-append}
use Rattle.std.specs.List.{AllPairs, list_any, position_or_len}
use Rattle.std.specs.Ordering.{eq_by_cmp, nat_cmp}
use Rattle.std.specs.FinMap as fin
use Rattle.std.specs.FinSet as set
use Rattle.std.proofs.lemmas.Bool.{leb-true, le-leb, ltb-true, or_right}
use Rattle.std.proofs.lemmas.Bool.Decides.{nat_tests}
use Rattle.std.proofs.lemmas.List.Sums.{passes_at_first}
use Rattle.std.proofs.lemmas.Map.Lookups.{CmpEqualImpliesEq, exact_pairs, exact_unsigned}
use Rattle.std.proofs.lemmas.Option.{get_or_from_slice_get, slice_get-get_or, slice_get-map, slice_get_within}
use Rattle.net_names.specs.Addresses.{AddrValue, addr_cmp, width}
use Rattle.net_names.specs.Prefixes.{PrefixValue}
use Rattle.net_names.specs.declared.addresses.Family.{Family}
use Rattle.net_names.specs.declared.addresses.Family.TheVariants.{V4, V6}
use Rattle.as_graph.specs.Topology.{Topology}
use Rattle.policy_kinds.specs.Kinds.{label}
use Rattle.policy_kinds.specs.declared.kind.Kind.{Kind}
use Rattle.policy_kinds.specs.declared.kind.Kind.TheVariants.{Plain}
use Rattle.roa_table.specs.Sets.{Payloads}
use Rattle.net_names.specs.Orders.{addr_total}
use Rattle.stability_laws.specs.Book.{PolicyBook, policy_at}
use Rattle.stability_laws.specs.Plans.{Plan}
use Rattle.stability_laws.specs.declared.entry.Entry.{Entry}
use Rattle.data_trace.specs.Hops.{next_hop}
use Rattle.data_trace.specs.Views.{addr_of, rows_of}
use Rattle.data_trace.specs.Watches.{AreRows, Row}
use Rattle.data_trace.specs.declared.kinds.Hop.{Hop}
use Rattle.data_trace.specs.declared.watch.Watch.{Watch}
use Rattle.leak_round.specs.declared.rounds.Rounds.{Rounds}
use Rattle.leak_round.specs.Rounds.{kept as kept_rounds, plan_of, round_count}
use Rattle.sim_core.specs.declared.watching.RoundWatches.{RoundWatches}
use Rattle.sim_core.specs.Watching.{AreRoundWatches, AreWatchRows, AreWatches, HasWatches, IsPlaceOrNone, addrs_in, place_in, rows_in, seen_in, seen_of, watch_at}
use Rattle.sim_core.specs.Parts.{IsNamed, world_by}
use Rattle.sim_core.specs.World.{graph_of, kind_at, topology}
use Rattle.net_names.proofs.Shared.{is_equal}

-- ---- lists

-- what holds at each place of a list, and of one item more, holds of the longer list
pub items_more : {X : Type 0} (P : ℕ → X → Type 0) (xs : List X) → ((place : ℕ) (x : X) → slice_get xs place ≡ Some x → P place x) → (y : X) → P (length xs) y
    → (place : ℕ) (x : X) → slice_get (xs ++ y ∷ []) place ≡ Some x → P place x
items_more P [] each y here zero x p = let one : y ≡ x = cc in subst (P zero) one here
items_more P [] each y here (suc place) x p = cc
items_more P (u ∷ xs) each y here zero x p = each zero x p
items_more P (u ∷ xs) each y here (suc place) x p = items_more (λ k. P (suc k)) xs (λ k. each (suc k)) y here place x p

item_at : {X : Type 0} (xs : List X) (place : ℕ) → place < length xs → (x : X) × (slice_get xs place ≡ Some x)
item_at [] place less = absurd (omega (arith, less))
item_at (x ∷ xs) zero less = (x, refl)
item_at (x ∷ xs) (suc place) less = item_at xs place (omega (arith, less))

one_further : (i n : ℕ) → nat_lt i n ≡ nat_lt (1 + i) (suc n)
one_further i n = grind (arith, nat_tests)

first_less : (n : ℕ) → nat_lt 0 (suc n) ≡ true
first_less n = grind (arith, nat_tests)

-- something in the list passes just where the first place that passes is within it
first_within : {X : Type 0} (p : X → Bool) (xs : List X) → list_any p xs ≡ nat_lt (position_or_len p xs) (length xs)
first_within p [] = refl
first_within p (x ∷ xs) = by (p x) (first_within p xs)
  where
    by : (b : Bool) → list_any p xs ≡ nat_lt (position_or_len p xs) (length xs) → (b || list_any p xs) ≡ nat_lt (cond (not b) (1 + position_or_len p xs) 0) (length (x ∷ xs))
    by true rest = sym (first_less (length xs))
    by false rest = rest ∙ one_further (position_or_len p xs) (length xs)

-- ---- addresses

same_family : (f g : Family) → width f ≡ width g → f ≡ g
same_family V4 V4 e = cc
same_family V4 V6 e = cc
same_family V6 V4 e = cc
same_family V6 V6 e = cc

exact_addr : CmpEqualImpliesEq addr_cmp
exact_addr a b e =
    let same : (width a.family, a.bits) ≡ (width b.family, b.bits) = exact_pairs nat_cmp nat_cmp exact_unsigned exact_unsigned (width a.family, a.bits) (width b.family, b.bits) e in
    let f : a.family ≡ b.family = same_family a.family b.family (ap (λ (t : ℕ × ℕ). t.0) same) in
    λ i. record { family = f i; bits = (same i).1 }

-- a watched address stands at its place
pub stands : (addrs : List AddrValue) (addr : AddrValue) → place_in addrs addr < length addrs → slice_get addrs (place_in addrs addr) ≡ Some addr
stands addrs addr less =
    let there = slice_get-get_or addrs (place_in addrs addr) addr less in
    let tied : eq_by_cmp addr_cmp addr (get_or addrs (place_in addrs addr) addr) ≡ true = passes_at_first (eq_by_cmp addr_cmp addr) addrs addr less in
    there ∙ ap (λ a. Some a) (sym (exact_addr addr (get_or addrs (place_in addrs addr) addr) (is_equal (addr_cmp addr (get_or addrs (place_in addrs addr) addr)) tied)))

pub watched_place : (addrs : List AddrValue) (addr : AddrValue) → set.contains (set.from_list {R = addr_cmp} addrs) addr ≡ true → place_in addrs addr < length addrs
watched_place addrs addr is = ltb-true _ _ (sym (first_within (eq_by_cmp addr_cmp addr) addrs) ∙ (sym (set.contains-from_list addr_total addrs addr) ∙ is))

-- ---- the watch of a round and an address

pub record IsFound (all : List RoundWatches) (addrs : List AddrValue) (round : ℕ) (addr : AddrValue) : Type 0 where
  pub one : RoundWatches
  pub watch : Watch
  pub in_round : slice_get all (round - 1) ≡ Some one
  pub here : slice_get one.watches.items (place_in addrs addr) ≡ Some watch
  pub is : watch_at all addrs round addr ≡ Some watch

both : (a b : Bool) → (a && b) ≡ true → (a ≡ true) × (b ≡ true)
both true true h = (refl, refl)
both true false h = cc
both false b h = cc

-- a round that is there is one of those from 1 on
pub round_within : (rounds round : ℕ) → (nat_le 1 round && nat_le round rounds) ≡ true → (1 ≤ round) × (round ≤ rounds)
round_within rounds round there = (let within = both (nat_le 1 round) (nat_le round rounds) there in (leb-true 1 round within.0, leb-true round rounds within.1))

-- as many watches as addresses
pub watches_len : (one : RoundWatches) (addrs : List AddrValue) → addrs_in one ≡ addrs → length one.watches.items ≡ length addrs
watches_len one addrs is = sym (length-map one.watches.items addr_of) ∙ ap length is

pub found_watch : (all : List RoundWatches) (addrs : List AddrValue) (rounds round : ℕ) (addr : AddrValue) → HasWatches rounds addrs all → 1 ≤ round → round ≤ rounds → place_in addrs addr < length addrs → IsFound all addrs round addr
found_watch all addrs rounds round addr has low high less =
    let (one, in_round) = item_at all (round - 1) (omega (arith, has.count)) in
    let len = watches_len one addrs (has.each (round - 1) one in_round) in
    let (watch, here) = item_at one.watches.items (place_in addrs addr) (omega (arith, len, less)) in
    record { one = one; watch = watch; in_round = in_round; here = here; is = rw in_round here }

-- what stands at a place of a list of values
pub got_mapped : {X Y : Type 0} (f : X → Y) (xs : List X) (i : ℕ) (y : Y) → slice_get (map f xs) i ≡ Some y → (x : X) × (slice_get xs i ≡ Some x) × (f x ≡ y)
got_mapped f [] i y h = cc
got_mapped f (x ∷ xs) zero y h = (x, refl, cc)
got_mapped f (x ∷ xs) (suc i) y h = got_mapped f xs i y h

pub map_at : {X Y : Type 0} (f : X → Y) (xs : List X) (i : ℕ) (x : X) → slice_get xs i ≡ Some x → slice_get (map f xs) i ≡ Some (f x)
map_at f xs i x h = slice_get-map f xs i ∙ ap (option_map f) h

-- what is seen of the watch of a round and an address
pub seen_at : (all : List RoundWatches) (before place : ℕ) (one : RoundWatches) (w : Watch) → slice_get all before ≡ Some one → slice_get one.watches.items place ≡ Some w → (slice_get (map seen_in all) before ≡ Some (seen_in one)) × (slice_get (seen_in one) place ≡ Some (seen_of w))
seen_at all before place one w there here = (map_at seen_in all before one there, map_at seen_of one.watches.items place w here)

-- a watch has the address at its place
pub addr_at : (one : RoundWatches) (addrs : List AddrValue) (place : ℕ) (w : Watch) → addrs_in one ≡ addrs → slice_get one.watches.items place ≡ Some w → slice_get addrs place ≡ Some (addr_of w)
addr_at one addrs place w is here = ap (λ xs. slice_get xs place) (sym is) ∙ map_at addr_of one.watches.items place w here

any_at : {X : Type 0} (p : X → Bool) (xs : List X) (i : ℕ) (x : X) → slice_get xs i ≡ Some x → p x ≡ true → list_any p xs ≡ true
any_at p [] i x at is = cc
any_at p (y ∷ ys) zero x at is = (let same : x ≡ y = cc in ap (λ b. b || list_any p ys) (ap p (sym same) ∙ is))
any_at p (y ∷ ys) (suc i) x at is = or_right (p y) (list_any p ys) (any_at p ys i x at is)

-- an address that stands at a place is watched, and where no address stands twice it is found there
pub watched_at : (addrs : List AddrValue) (place : ℕ) (addr : AddrValue) → slice_get addrs place ≡ Some addr → set.contains (set.from_list {R = addr_cmp} addrs) addr ≡ true
watched_at addrs place addr at = set.contains-from_list addr_total addrs addr ∙ any_at (eq_by_cmp addr_cmp addr) addrs place addr at ((eq_by_cmp_equiv addr_total).refl addr)

pub cases_nat : (x y : ℕ) → (x < y) ⊎ ((y < x) ⊎ (x ≡ y))
cases_nat zero zero = inr (inr refl)
cases_nat zero (suc y) = inl (omega arith)
cases_nat (suc x) zero = inr (inl (omega arith))
cases_nat (suc x) (suc y) = elim (cases_nat x y) [ inl h ↦ inl (omega (arith, h)) | inr (inl h) ↦ inr (inl (omega (arith, h))) | inr (inr h) ↦ inr (inr (ap suc h)) ]

pub place_once : (addrs : List AddrValue) → AllPairs (λ a b. a ≢ b) addrs → (place : ℕ) (addr : AddrValue) → slice_get addrs place ≡ Some addr → place_in addrs addr ≡ place
place_once addrs once place addr at =
    let found = place_in addrs addr in
    let less : found < length addrs = watched_place addrs addr (watched_at addrs place addr at) in
    let first : get_or addrs found addr ≡ addr = get_or_from_slice_get addrs found addr addr (stands addrs addr less) in
    let second : get_or addrs place addr ≡ addr = get_or_from_slice_get addrs place addr addr at in
    let within : place < length addrs = slice_get_within addrs place addr at in
    elim (cases_nat found place) [
      | inl below ↦ absurd (once found place addr below within (first ∙ sym second))
      | inr (inl above) ↦ absurd (once place found addr above less (second ∙ sym first))
      | inr (inr same) ↦ same
    ]

both_true : (a b : Bool) → a ≡ true → b ≡ true → (a && b) ≡ true
both_true true b h k = k
both_true false b h k = cc

module _ (graph : Topology) (payloads : Payloads) (book : PolicyBook Kind) (rounds : Rounds) (addrs : List AddrValue) (all : List RoundWatches) (is : IsNamed graph book (plan_of rounds)) (rest : book.rest ≡ Plain) where
  -- the same rows, over the world's graph and policies
  kinds : ◌≡◌ {A = ℕ → ℕ} (λ a. label (policy_at book a)) (λ a. label (unwrap_or (fin.get book.named a) Plain))
  kinds = λ i a. label (unwrap_or (fin.get book.named a) (rest i))

  over_world : (next : ℕ → Hop) (rows : List Row) → AreRows graph next (λ a. label (policy_at book a)) rows → AreRows (topology (world_by graph payloads book rounds addrs)) next (λ a. label (kind_at (world_by graph payloads book rounds addrs) a)) rows
  over_world next rows now =
      let plainly : AreRows (graph_of graph.links graph.marked) next (λ a. label (policy_at book a)) rows = record { listed = now.listed; apart = now.apart; right = now.right } in
      subst (λ (t : Topology × (ℕ → ℕ)). AreRows t.0 next t.1 rows) (λ i. (is i, kinds i)) plainly

  of_world : (next : ℕ → Hop) (rows : List Row) → AreRows (topology (world_by graph payloads book rounds addrs)) next (λ a. label (kind_at (world_by graph payloads book rounds addrs) a)) rows → AreRows graph next (λ a. label (policy_at book a)) rows
  of_world next rows now =
      let plainly : AreRows (graph_of graph.links graph.marked) next (λ a. label (policy_at book a)) rows = subst (λ (t : Topology × (ℕ → ℕ)). AreRows t.0 next t.1 rows) (λ i. (sym is i, sym kinds i)) now in
      record { listed = plainly.listed; apart = plainly.apart; right = plainly.right }

  -- the rows that are kept are those of the watched addresses
  pub rows_right : HasWatches (round_count rounds) addrs all → AreRoundWatches graph (plan_of rounds) (kept_rounds rounds) book (round_count rounds) (map seen_in all)
      → AreWatchRows (world_by graph payloads book rounds addrs) (kept_rounds rounds) (λ round addr. rows_in (watch_at all addrs round addr))
  rows_right has are round addr there watched =
      let (low, high) = round_within (round_count rounds) round there in
      let less = watched_place addrs addr watched in
      let f = found_watch all addrs (round_count rounds) round addr has low high less in
      let seen = seen_at all (round - 1) (place_in addrs addr) f.one f.watch f.in_round f.here in
      let stands_there : Some (addr_of f.watch) ≡ Some addr = sym (addr_at f.one addrs (place_in addrs addr) f.watch (has.each (round - 1) f.one f.in_round) f.here) ∙ stands addrs addr less in
      let same : addr_of f.watch ≡ addr = cc in
      let before : suc (round - 1) ≡ round = omega (arith, low) in
      let rows = are.each (round - 1) (seen_in f.one) seen.0 (place_in addrs addr) (seen_of f.watch) seen.1 in
      let now : AreRows graph (next_hop (plan_of rounds) (kept_rounds rounds round) addr) (λ a. label (policy_at book a)) (rows_of f.watch) =
      subst (λ (t : ℕ × AddrValue). AreRows graph (next_hop (plan_of rounds) (kept_rounds rounds t.0) t.1) (λ a. label (policy_at book a)) (rows_of f.watch)) (λ i. (before i, same i)) rows in
      rw f.is (over_world (next_hop (plan_of rounds) (kept_rounds rounds round) addr) (rows_of f.watch) now)

  -- and the watches have the rows that are kept, where no address stands twice
  pub rows_kept : AllPairs (λ a b. a ≢ b) addrs → HasWatches (round_count rounds) addrs all → AreWatchRows (world_by graph payloads book rounds addrs) (kept_rounds rounds) (λ round addr. rows_in (watch_at all addrs round addr))
      → AreRoundWatches graph (plan_of rounds) (kept_rounds rounds) book (round_count rounds) (map seen_in all)
  rows_kept once has right = record {
    count = length-map all seen_in ∙ has.count;
    each = λ before seen at place s here. one_kept before seen at place s here;
  }
    where
      one_kept : (before : ℕ) (seen : List (AddrValue × List Row)) → slice_get (map seen_in all) before ≡ Some seen → (place : ℕ) (s : AddrValue × List Row) → slice_get seen place ≡ Some s → AreRows graph (next_hop (plan_of rounds) (kept_rounds rounds (suc before)) s.0) (λ a. label (policy_at book a)) s.1
      one_kept before seen at place s here =
          let (one, in_round, seen_is) = got_mapped seen_in all before seen at in
          let (w, here_is, s_is) = got_mapped seen_of one.watches.items place s (ap (λ xs. slice_get xs place) seen_is ∙ here) in
          let addr_is = addr_at one addrs place w (has.each before one in_round) here_is in
          let found : place_in addrs (addr_of w) ≡ place = place_once addrs once place (addr_of w) addr_is in
          let back : suc before - 1 ≡ before = omega arith in
          let watch_is : watch_at all addrs (suc before) (addr_of w) ≡ Some w = ap (option_and_then (λ (x : RoundWatches). slice_get x.watches.items (place_in addrs (addr_of w)))) (ap (slice_get all) back ∙ in_round) ∙ (ap (slice_get one.watches.items) found ∙ here_is) in
          let less : before < length all = slice_get_within all before one in_round in
          let last : suc before ≤ round_count rounds = omega (arith, less, has.count) in
          let there : (nat_le 1 (suc before) && nat_le (suc before) (round_count rounds)) ≡ true = both_true (nat_le 1 (suc before)) (nat_le (suc before) (round_count rounds)) (le-leb 1 (suc before) (omega arith)) (le-leb (suc before) (round_count rounds) last) in
          let rows = subst (λ o. AreRows (topology (world_by graph payloads book rounds addrs)) (next_hop (plan_of rounds) (kept_rounds rounds (suc before)) (addr_of w)) (λ a. label (kind_at (world_by graph payloads book rounds addrs) a)) (rows_in o)) watch_is
          (right (suc before) (addr_of w) there (watched_at addrs place (addr_of w) addr_is)) in
          subst (λ (t : AddrValue × List Row). AreRows graph (next_hop (plan_of rounds) (kept_rounds rounds (suc before)) t.0) (λ a. label (policy_at book a)) t.1) s_is (of_world (next_hop (plan_of rounds) (kept_rounds rounds (suc before)) (addr_of w)) (rows_of w) rows)

-- one watch more
pub one_watch_more : (g : Topology) (plan : Plan) (held : PrefixValue → ℕ → Option Entry) (book : PolicyBook Kind) (watches : List Watch) (watch : Watch) → AreWatches g plan held book (map seen_of watches)
    → AreRows g (next_hop plan held (addr_of watch)) (λ a. label (policy_at book a)) (rows_of watch) → AreWatches g plan held book (map seen_of (watches ++ watch ∷ []))
one_watch_more g plan held book watches watch are rows place s at =
    items_more (λ k (x : AddrValue × List Row). AreRows g (next_hop plan held x.0) (λ a. label (policy_at book a)) x.1) (map seen_of watches) are (seen_of watch) rows place s (ap (λ xs. slice_get xs place) (sym (map-append seen_of watches (watch ∷ []))) ∙ at)

pub one_addr_more : (watches : List Watch) (watch : Watch) (addrs : List AddrValue) (addr : AddrValue) → map addr_of watches ≡ addrs → addr_of watch ≡ addr → map addr_of (watches ++ watch ∷ []) ≡ addrs ++ addr ∷ []
one_addr_more watches watch addrs addr are is = map-append addr_of watches (watch ∷ []) ∙ (λ i. are i ++ is i ∷ [])

-- one round more
pub one_round_more : (g : Topology) (plan : Plan) (held : ℕ → PrefixValue → ℕ → Option Entry) (book : PolicyBook Kind) (past : ℕ) (all : List RoundWatches) (one : RoundWatches) → AreRoundWatches g plan held book past (map seen_in all)
    → AreWatches g plan (held (suc past)) book (seen_in one) → AreRoundWatches g plan held book (past + 1) (map seen_in (all ++ one ∷ []))
one_round_more g plan held book past all one are here =
    let more : map seen_in (all ++ one ∷ []) ≡ map seen_in all ++ seen_in one ∷ [] = map-append seen_in all (one ∷ []) in
    subst (AreRoundWatches g plan held book (past + 1)) (sym more) (record {
      count = omega (arith, are.count, length-append (map seen_in all) (seen_in one ∷ []));
      each = λ k x p. items_more (λ place (v : List (AddrValue × List Row)). AreWatches g plan (held (suc place)) book v) (map seen_in all) are.each (seen_in one) (rw are.count here) k x p;
    })

pub one_round_longer : (addrs : List AddrValue) (past : ℕ) (all : List RoundWatches) (one : RoundWatches) → HasWatches past addrs all → addrs_in one ≡ addrs → HasWatches (past + 1) addrs (all ++ one ∷ [])
one_round_longer addrs past all one are here = record {
  count = omega (arith, are.count, length-append all (one ∷ []));
  each = λ k x p. items_more (λ place (v : RoundWatches). addrs_in v ≡ addrs) all are.each one here k x p;
}

-- where no address is watched, there is no watch whose rows could be wrong
pub none_watched : (g : Topology) (plan : Plan) (held : ℕ → PrefixValue → ℕ → Option Entry) (book : PolicyBook Kind) (rounds : ℕ) (all : List RoundWatches) → HasWatches rounds [] all → AreRoundWatches g plan held book rounds (map seen_in all)
none_watched g plan held book rounds all has = record {
  count = length-map all seen_in ∙ has.count;
  each = λ before seen at place s there.
      let (one, one_at, seen_is) = got_mapped seen_in all before seen at in
      let (watch, in_one, s_is) = got_mapped seen_of one.watches.items place s (ap (λ xs. slice_get xs place) seen_is ∙ there) in
      let none : slice_get [] place ≡ Some (addr_of watch) = ap (λ xs. slice_get xs place) (sym (has.each before one one_at)) ∙ map_at addr_of one.watches.items place watch in_one in
      cc;
}

-- watches of the same addresses
pub has_watches : (rounds : ℕ) (addrs : List AddrValue) (old new : List RoundWatches) → map addrs_in new ≡ map addrs_in old → HasWatches rounds addrs old → HasWatches rounds addrs new
has_watches rounds addrs old new same has = record {
  count = sym (length-map new addrs_in) ∙ ap length same ∙ length-map old addrs_in ∙ has.count;
  each = λ before one at.
      let (was, there, is) = got_mapped addrs_in old before (addrs_in one) (ap (λ xs. slice_get xs before) (sym same) ∙ map_at addrs_in new before one at) in
      sym is ∙ has.each before was there;
}

-- what is seen of watches alike
pub seen_rows : (old new : List RoundWatches) (addrs : List AddrValue) (round : ℕ) (addr : AddrValue) → map seen_in new ≡ map seen_in old → rows_in (watch_at new addrs round addr) ≡ rows_in (watch_at old addrs round addr)
seen_rows old new addrs round addr same = by_seen new ∙ ap (λ xs. rows_seen (option_and_then (λ ys. slice_get ys (place_in addrs addr)) (slice_get xs (round - 1)))) same ∙ sym (by_seen old)
  where
    rows_seen : Option (AddrValue × List Row) → List Row
    rows_seen None = []
    rows_seen (Some s) = s.1

    of_watch : (o : Option Watch) → rows_in o ≡ rows_seen (option_map seen_of o)
    of_watch None = refl
    of_watch (Some w) = refl

    of_round : (o : Option RoundWatches) → rows_in (option_and_then (λ (x : RoundWatches). slice_get x.watches.items (place_in addrs addr)) o) ≡ rows_seen (option_and_then (λ ys. slice_get ys (place_in addrs addr)) (option_map seen_in o))
    of_round None = refl
    of_round (Some one) = of_watch (slice_get one.watches.items (place_in addrs addr)) ∙ ap rows_seen (sym (slice_get-map seen_of one.watches.items (place_in addrs addr)))

    by_seen : (all : List RoundWatches) → rows_in (watch_at all addrs round addr) ≡ rows_seen (option_and_then (λ ys. slice_get ys (place_in addrs addr)) (slice_get (map seen_in all) (round - 1)))
    by_seen all = of_round (slice_get all (round - 1)) ∙ ap (λ o. rows_seen (option_and_then (λ ys. slice_get ys (place_in addrs addr)) o)) (sym (slice_get-map seen_in all (round - 1)))

pub seen_addrs : (old new : List RoundWatches) → map seen_in new ≡ map seen_in old → map addrs_in new ≡ map addrs_in old
seen_addrs old new same = by new ∙ ap (map (map (λ (s : AddrValue × List Row). s.0))) same ∙ sym (by old)
  where
    one : (ws : List Watch) → map addr_of ws ≡ map (λ (s : AddrValue × List Row). s.0) (map seen_of ws)
    one [] = refl
    one (w ∷ ws) = ap (λ xs. addr_of w ∷ xs) (one ws)

    by : (all : List RoundWatches) → map addrs_in all ≡ map (map (λ (s : AddrValue × List Row). s.0)) (map seen_in all)
    by [] = refl
    by (x ∷ xs) = λ i. one x.watches.items i ∷ by xs i

-- the place that was looked for
pub place_told : (addrs : List AddrValue) (addr : AddrValue) (r : Option ℕ) → r ≡ position (eq_by_cmp addr_cmp addr) addrs → IsPlaceOrNone addrs addr r
place_told addrs addr r is = by (nat_lt (place_in addrs addr) (length addrs)) refl r is
  where
    contained : set.contains (set.from_list {R = addr_cmp} addrs) addr ≡ nat_lt (place_in addrs addr) (length addrs)
    contained = set.contains-from_list addr_total addrs addr ∙ first_within (eq_by_cmp addr_cmp addr) addrs

    by : (b : Bool) → nat_lt (place_in addrs addr) (length addrs) ≡ b → (o : Option ℕ) → o ≡ cond (nat_lt (place_in addrs addr) (length addrs)) (Some (place_in addrs addr)) None → IsPlaceOrNone addrs addr o
    by true less None told = let found : None ≡ Some (place_in addrs addr) = told ∙ ap (λ b. cond b (Some (place_in addrs addr)) None) less in cc
    by true less (Some place) told =
        let found : Some place ≡ Some (place_in addrs addr) = told ∙ ap (λ b. cond b (Some (place_in addrs addr)) None) less in
        let same : place ≡ place_in addrs addr = cc in
        record { watched = contained ∙ less; is = same; within = ltb-true _ _ less }
    by false less None told = contained ∙ less
    by false less (Some place) told = let found : Some place ≡ None = told ∙ ap (λ b. cond b (Some (place_in addrs addr)) None) less in cc
