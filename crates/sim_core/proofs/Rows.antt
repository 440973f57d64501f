-- The rows of a watch count what the ASes of the world count.
use Rattle.std.proofs.Common.{◌≡◌, ◌≢◌, ◌↔◌, inl, inr, ℕ, suc, ◌+◌, ◌<◌, ◌≤◌, Bool, true, false, IsTrue, ◌==◌, ◌&&◌, ◌||◌, cond, Option, None, Some, List, [], ◌∷◌, ◌++◌, length, map, get_or, refl, sym, ap, subst, ◌∙◌, arith, true≢false}
use Rattle.std.specs.Prelude.{count_by, filter, nat_eq, slice_get}
use Rattle.std.specs.Cmp.{nat_cmp_total}
use Rattle.std.specs.FinSet as set
use Rattle.std.specs.List.{AllPairs, IsDistinct}
use Rattle.std.specs.Ordering.{nat_cmp}
use Rattle.std.proofs.lemmas.Bool.{cases_Bool, eqb-true}
use Rattle.std.proofs.lemmas.Bool.Decides.{Decides-eqb}
use Rattle.std.proofs.lemmas.List.Sums.{sum_by-cons}
use Rattle.std.proofs.lemmas.Map.Keys.{IsDistinct-head, IsDistinct-tail}
use Rattle.std.proofs.lemmas.Map.Views.{any-filter_same}
use Rattle.std.proofs.lemmas.Map.Made.{AllPairs-from_IsDistinct, IsDistinct-from_AllPairs}
use Rattle.std.proofs.lemmas.Option.{get_or_from_slice_get, slice_get_within}
use denote.Enum.Declared.{tag_of}
use Rattle.net_names.specs.Addresses.{AddrValue}
use Rattle.net_names.specs.Numbers.{occurs}
use Rattle.net_names.specs.declared.routes.Rel.{Rel}
use Rattle.net_names.specs.declared.routes.Rel.TheVariants.{Customer}
use Rattle.as_graph.specs.Hierarchy.{IsChainFrom, IsDescent, IsRank}
use Rattle.as_graph.proofs.Told.{chain_told, chain_from}
use Rattle.as_graph.specs.Topology.{Topology, ases, has, relation}
use Rattle.as_graph.proofs.RowAses.{any_none}
use Rattle.policy_kinds.specs.Kinds.{label}
use Rattle.policy_kinds.specs.contracts.kind.Kind.{the_type}
use Rattle.policy_kinds.specs.declared.kind.Kind.{Kind}
use Rattle.policy_kinds.specs.declared.kind.Kind.TheVariants.{Plain, DropInvalid, PreferValid, ProviderFirst, Otc, DropInvalidOtc}
use Rattle.data_trace.specs.Traces.{IsTrace}
use Rattle.data_trace.specs.Hops.{next_hop}
use Rattle.data_trace.specs.Views.{rows_of}
use Rattle.data_trace.specs.Watches.{AreRows, IsStub, Row, in_group as is_in, is_end}
use Rattle.data_trace.specs.contracts.kinds.EndPartialEq.TheImpl as same_end
use Rattle.data_trace.specs.declared.kinds.End.{End}
use Rattle.data_trace.specs.declared.kinds.End.TheVariants as the_end
use Rattle.data_trace.specs.declared.kinds.Hop.{Hop}
use Rattle.data_trace.specs.declared.watch.Watch.{Watch}
use Rattle.reports.specs.Counts.{report_text}
use Rattle.reports.specs.Groups.{group_count, group_size, which_of}
use Rattle.reports.specs.declared.group.Group.{Group}
use Rattle.reports.specs.declared.group.Group.TheVariants as group
use Rattle.scenario_text.specs.declared.acts.Query.TheVariants as query
use Rattle.stability_laws.specs.Plans.{Plan, announcers_of}
use Rattle.sim_core.specs.Answers.{Answers}
use Rattle.sim_core.specs.Counting.{how_many, in_group}
use Rattle.sim_core.specs.Families.{Family, IsOneFamily}
use Rattle.sim_core.specs.Kept.{IsKept, Kept}
use Rattle.sim_core.specs.World.{World, kind_at, topology}
use Rattle.sim_core.proofs.Standing.{stands}
use Rattle.sim_core.specs.Watching.{AreWatchRows, HasRows, IsWatchOf, end_at}
use Rattle.sim_core.proofs.Watches.{cases_nat, map_at}
use Rattle.net_names.proofs.Shared.{same_test}

pub and_false : (b : Bool) → (b && false) ≡ false
and_false true = refl
and_false false = refl

-- ---- counts

pub one_more : {X : Type 0} (p : X → Bool) (x : X) (xs : List X) → count_by p (x ∷ xs) ≡ cond (p x) 1 0 + count_by p xs
one_more p x xs = sum_by-cons (λ y. cond (p y) 1 0) x xs

-- two tests that say the same of each item count the same
pub count_alike : {X : Type 0} (p q : X → Bool) (xs : List X) → ((k : ℕ) (x : X) → slice_get xs k ≡ Some x → p x ≡ q x) → count_by p xs ≡ count_by q xs
count_alike p q [] each = refl
count_alike p q (x ∷ xs) each =
    one_more p x xs ∙ (λ i. cond (each 0 x refl i) 1 0 + count_alike p q xs (λ k. each (suc k)) i) ∙ sym (one_more q x xs)

pub count_named : (test : ℕ → Bool) (rows : List Row) → count_by (λ r. test r.asn) rows ≡ count_by test (map (λ r. r.asn) rows)
count_named test [] = refl
count_named test (r ∷ rows) =
    one_more (λ (s : Row). test s.asn) r rows ∙ ap (λ n. cond (test r.asn) 1 0 + n) (count_named test rows) ∙ sym (one_more test r.asn (map (λ s. s.asn) rows))

-- ---- groups

-- an AS has rank 0 where it has no customers
pub rank_of_stub : (rel : ℕ → ℕ → Option Rel) (a rank : ℕ) → IsRank rel a rank → IsStub rel a → rank ≡ 0
rank_of_stub rel a rank is none =
    let (xs, chain, long) = is.longest in
    let told = chain_told rel a xs chain in
    let (rest, starts) = told.starts in
    by rest (subst (IsDescent rel) starts told.descends) (ap length starts) long
  where
    by : (rest : List ℕ) → IsDescent rel (a ∷ rest) → length is.longest.0 ≡ length (a ∷ rest) → length is.longest.0 ≡ rank + 1 → rank ≡ 0
    by [] descends as_long long = omega (arith, as_long, long)
    by (b ∷ more) descends as_long long = absurd (none b descends.0)

-- and only there
pub stub_of_rank : (rel : ℕ → ℕ → Option Rel) (a rank : ℕ) → rel a a ≡ None → IsRank rel a rank → rank ≡ 0 → IsStub rel a
stub_of_rank rel a rank apart is none b linked =
    let differs : occurs a (b ∷ []) ≡ false = elim (cases_Bool (b == a)) [
      | inl e ↦ absurd (let some : None ≡ Some Customer = sym apart ∙ (ap (rel a) (sym (eqb-true b a e)) ∙ linked) in cc)
      | inr e ↦ ap (λ t. t || false) e
    ] in
    let chain : IsChainFrom rel a (a ∷ b ∷ []) = chain_from rel a (b ∷ []) (differs, (refl, tt)) (linked, tt) in
    let few : 2 ≤ rank + 1 = is.most (a ∷ b ∷ []) chain in
    absurd (omega (arith, few, none))

label_is : (x : Kind) → tag_of the_type x ≡ label x
label_is Plain = refl
label_is DropInvalid = refl
label_is PreferValid = refl
label_is ProviderFirst = refl
label_is Otc = refl
label_is DropInvalidOtc = refl

pub is_end_same : (e f : End) → is_end e f ≡ (same_end.ghosts).eq e f
is_end_same (the_end.At a) (the_end.At b) = refl
is_end_same (the_end.At a) the_end.NoRoute = refl
is_end_same (the_end.At a) the_end.Loop = refl
is_end_same the_end.NoRoute (the_end.At b) = refl
is_end_same the_end.NoRoute the_end.NoRoute = refl
is_end_same the_end.NoRoute the_end.Loop = refl
is_end_same the_end.Loop (the_end.At b) = refl
is_end_same the_end.Loop the_end.NoRoute = refl
is_end_same the_end.Loop the_end.Loop = refl

-- ---- rows

abbrev names : List Row → List ℕ
names rows = map (λ r. r.asn) rows

-- an AS that has a row has one with that end
row_at : (a : ℕ) (rows : List Row) → occurs a (names rows) ≡ true → (s : Row) × (k : ℕ) × (slice_get rows k ≡ Some s) × (s.asn ≡ a) × (s.end ≡ end_at rows a)
row_at a [] h = absurd (true≢false (sym h))
row_at a (x ∷ xs) h = by (x.asn == a) refl (row_at a xs) h
  where
    by : (t : Bool) → (x.asn == a) ≡ t → (occurs a (map (λ s. s.asn) xs) ≡ true → (s : Row) × (k : ℕ) × (slice_get xs k ≡ Some s) × (s.asn ≡ a) × (s.end ≡ end_at xs a))
        → (t || occurs a (map (λ s. s.asn) xs)) ≡ true → (s : Row) × (k : ℕ) × (slice_get (x ∷ xs) k ≡ Some s) × (s.asn ≡ a) × (s.end ≡ cond t x.end (end_at xs a))
    by true e later h = (x, 0, refl, eqb-true x.asn a e, refl)
    by false e later h = (let r = later h in (r.0, suc r.1, r.2, r.3, r.4))

-- an AS has one row
one_place : (rows : List Row) → AllPairs (λ a b. a ≢ b) (names rows) → (i j : ℕ) (r s : Row) → slice_get rows i ≡ Some r → slice_get rows j ≡ Some s → r.asn ≡ s.asn → r ≡ s
one_place rows apart i j r s at there same =
    let first : get_or (names rows) i 0 ≡ r.asn = get_or_from_slice_get (names rows) i r.asn 0 (map_at (λ t. t.asn) rows i r at) in
    let second : get_or (names rows) j 0 ≡ s.asn = get_or_from_slice_get (names rows) j s.asn 0 (map_at (λ t. t.asn) rows j s there) in
    let low : i < length (names rows) = slice_get_within (names rows) i r.asn (map_at (λ t. t.asn) rows i r at) in
    let high : j < length (names rows) = slice_get_within (names rows) j s.asn (map_at (λ t. t.asn) rows j s there) in
    elim (cases_nat i j) [
      | inl below ↦ absurd (apart i j 0 below high (first ∙ same ∙ sym second))
      | inr (inl above) ↦ absurd (apart j i 0 above low (second ∙ sym same ∙ sym first))
      | inr (inr is) ↦ (let one : Some r ≡ Some s = sym at ∙ ap (slice_get rows) is ∙ there in cc)
    ]

-- ---- the ASes of a world

pub in_filter : (test : ℕ → Bool) (ks : List ℕ) (a : ℕ) → occurs a (filter test ks) ≡ (test a && occurs a ks)
in_filter test ks a = any-filter_same (λ x. x == a) test (test a) (λ k e. ap test (eqb-true k a e)) ks

-- as many pass one test as another where the same numbers do
pub same_many : (p q : ℕ → Bool) (xs ys : List ℕ) → ((a : ℕ) → (p a && occurs a xs) ≡ (q a && occurs a ys)) → set.len (set.from_list {R = nat_cmp} (filter p xs)) ≡ set.len (set.from_list {R = nat_cmp} (filter q ys))
same_many p q xs ys same =
    ap set.len (set.same_set nat_cmp_total set.nat_cmp-IsAntisymmetric _ _ (λ a. set.contains-from_list_nat (filter p xs) a ∙ in_filter p xs a ∙ same a ∙ sym (in_filter q ys a) ∙ sym (set.contains-from_list_nat (filter q ys) a)))

-- numbers that differ are counted one by one
pub counted_once : (test : ℕ → Bool) (ks : List ℕ) → IsDistinct nat_eq ks → set.len (set.from_list {R = nat_cmp} (filter test ks)) ≡ count_by test ks
counted_once test [] d = set.len-empty nat_cmp
counted_once test (k ∷ ks) d = by (test k) (counted_once test ks (IsDistinct-tail nat_eq k ks d)) ∙ sym (one_more test k ks)
  where
    rest : List ℕ
    rest = filter test ks

    new : set.contains (set.from_list {R = nat_cmp} rest) k ≡ false
    new = set.contains-from_list_nat rest k ∙ in_filter test ks k ∙ ap (λ b. test k && b) (any_none ks k (IsDistinct-head nat_eq k ks d)) ∙ and_false (test k)

    by : (b : Bool) → set.len (set.from_list {R = nat_cmp} rest) ≡ count_by test ks → set.len (set.from_list {R = nat_cmp} (cond b (k ∷ rest) rest)) ≡ cond b 1 0 + count_by test ks
    by true more = set.len-insert nat_cmp_total (set.from_list rest) k ∙ ap (λ t. cond t (set.len (set.from_list {R = nat_cmp} rest)) (set.len (set.from_list {R = nat_cmp} rest) + 1)) new ∙ omega (arith, more)
    by false more = omega (arith, more)

-- two tests that say the same of each AS count the same
pub many_alike : (w : World) (p q : ℕ → Bool) → ((a : ℕ) → has (topology w) a ≡ true → p a ≡ q a) → how_many w p ≡ how_many w q
many_alike w p q each = same_many p q (ases (topology w)) (ases (topology w)) (λ a. by (has (topology w) a) (each a))
  where
    by : {b c : Bool} (t : Bool) → (t ≡ true → b ≡ c) → (b && t) ≡ (c && t)
    by {b} {c} true same = ap (λ x. x && true) (same refl)
    by {b} {c} false same = and_false b ∙ sym (and_false c)

-- who is in a group follows from the world and the ranks
pub same_members : (w : World) (k l : Kept) → ((a : ℕ) → k.ranks a ≡ l.ranks a) → (g : Group) (a : ℕ) → in_group w k g a ≡ in_group w l g a
same_members w k l same group.Total a = refl
same_members w k l same group.Stub a = ap (λ n. n == 0) (same a)
same_members w k l same (group.Of kind) a = refl

-- the row of an AS has the end that is found
end_row : (rows : List Row) → AllPairs (λ a b. a ≢ b) (names rows) → (k : ℕ) (r : Row) → slice_get rows k ≡ Some r → r.end ≡ end_at rows r.asn
end_row rows apart k r at =
    let (s, place, stands_there, named, end) = row_at r.asn rows (stands r.asn k (names rows) (map_at (λ t. t.asn) rows k r at)) in
    let same : s ≡ r = one_place rows apart place k s r stands_there at named in
    sym (ap (λ (t : Row). t.end) same) ∙ end

module _ (g : Topology) (next : ℕ → Hop) (label_of : ℕ → ℕ) (rows : List Row) where
  -- without the ends
  pub rows_alone : AreRows g next label_of rows → HasRows g next label_of rows
  rows_alone are = record {
    listed = are.listed;
    apart = AllPairs-from_IsDistinct Decides-eqb (names rows) are.apart;
    hops = λ place r at. (are.right place r at).next_hop;
    stubs = λ place r at. (are.right place r at).stub;
    labels = λ place r at. (are.right place r at).group;
  }

  -- with them
  pub ended_rows : HasRows g next label_of rows → ((a : ℕ) → has g a ≡ true → (walk : List ℕ) × IsTrace next a walk (end_at rows a)) → AreRows g next label_of rows
  ended_rows are ends = record {
    listed = are.listed;
    apart = IsDistinct-from_AllPairs Decides-eqb (names rows) are.apart;
    right = λ place r at.
        let (walk, trace) = ends r.asn (sym (are.listed r.asn) ∙ stands r.asn place (names rows) (map_at (λ t. t.asn) rows place r at)) in
        record {
          next_hop = are.hops place r at;
          trace = (walk, subst (IsTrace next r.asn walk) (sym (end_row rows are.apart place r at)) trace);
          stub = are.stubs place r at;
          group = are.labels place r at;
        };
  }

  -- each AS has a trace with the end of its row
  pub ends_at : AreRows g next label_of rows → (a : ℕ) → has g a ≡ true → (walk : List ℕ) × IsTrace next a walk (end_at rows a)
  ends_at are a there =
      let (r, at, stands_there, named, end) = row_at a rows (are.listed a ∙ there) in
      let (walk, trace) = (are.right at r stands_there).trace in
      (walk, subst (λ (t : ℕ × End). IsTrace next t.0 walk t.1) (λ i. (named i, end i)) trace)

-- what is kept of a world by the rows of all its ASes
pub kept_by_rows : (w : World) (routings : Family) (ranks : ℕ → ℕ) (rows : ℕ → AddrValue → List Row) → IsOneFamily w routings → ((a : ℕ) → IsRank (relation (topology w)) a (ranks a)) → AreWatchRows w routings rows
    → IsKept w (record { routings = routings; ranks = ranks; ends = λ round addr. end_at (rows round addr) })
kept_by_rows w routings ranks rows ones are_ranks are = record {
  routings = ones;
  ranks = are_ranks;
  ends = λ round addr a in_round watched there. ends_at (topology w) (next_hop w.plan (routings round) addr) (λ x. label (kind_at w x)) (rows round addr) (are round addr in_round watched) a there;
}

-- ---- what the rows count

module _ (w : World) (k : Kept) (next : ℕ → Hop) (rows : List Row) (stubs : (a : ℕ) → IsTrue (k.ranks a == 0) ↔ IsStub (relation (topology w)) a) (are : HasRows (topology w) next (λ a. label (kind_at w a)) rows) where
  counted : (p : Row → Bool) (test : ℕ → Bool) → ((place : ℕ) (r : Row) → slice_get rows place ≡ Some r → p r ≡ test r.asn) → count_by p rows ≡ how_many w test
  counted p test each =
      count_alike p (λ r. test r.asn) rows each
      ∙ count_named test rows
      ∙ sym (same_many test test (ases (topology w)) (names rows) (λ a. ap (λ b. test a && b) (sym (are.listed a))) ∙ counted_once test (names rows) (IsDistinct-from_AllPairs Decides-eqb (names rows) are.apart))

  member : (g : Group) (place : ℕ) (r : Row) → slice_get rows place ≡ Some r → is_in (which_of g) r.stub r.label ≡ in_group w k g r.asn
  member group.Total place r at = refl
  member group.Stub place r at = same_test r.stub (k.ranks r.asn == 0) (λ h. (stubs r.asn).1 ((are.stubs place r at).0 h)) (λ h. (are.stubs place r at).1 ((stubs r.asn).0 h))
  member (group.Of kind) place r at = λ i. ((are.labels place r at ∙ sym (label_is (kind_at w r.asn))) i) == (sym (label_is kind) i)

  -- the report over the rows is that over the ASes
  pub same_report : (ends : ℕ → End) → ((a : ℕ) → ends a ≡ end_at rows a) → (announcers : List ℕ)
      → report_text (group_size rows) (group_count rows) announcers ≡ report_text (λ g. how_many w (in_group w k g)) (λ g e. how_many w (λ a. in_group w k g a && (same_end.ghosts).eq (ends a) e)) announcers
  same_report ends is announcers = λ i. report_text (λ g. sizes g i) (λ g e. counts g e i) announcers
    where
      sizes : (g : Group) → group_size rows g ≡ how_many w (in_group w k g)
      sizes g = counted (λ r. is_in (which_of g) r.stub r.label) (in_group w k g) (member g)

      counts : (g : Group) (e : End) → group_count rows g e ≡ how_many w (λ a. in_group w k g a && (same_end.ghosts).eq (ends a) e)
      counts g e =
          counted (λ r. is_in (which_of g) r.stub r.label && is_end r.end e) (λ a. in_group w k g a && (same_end.ghosts).eq (ends a) e)
          (λ place r at i. member g place r at i && (is_end_same r.end e ∙ ap (λ f. (same_end.ghosts).eq f e) (end_row rows are.apart place r at ∙ sym (is r.asn))) i)

-- the text by a watch is an answer
pub report_answers : (w : World) (k : Kept) (round : ℕ) (addr : AddrValue) (watch : Watch) → ((a : ℕ) → IsTrue (k.ranks a == 0) ↔ IsStub (relation (topology w)) a) → IsWatchOf w k round addr watch
    → (plan : Plan) → plan ≡ w.plan → (old new : List ℕ) → new ≡ old ++ report_text (group_size (rows_of watch)) (group_count (rows_of watch)) (announcers_of plan) → Answers w k (query.Report round addr) old new
report_answers w k round addr watch stubs of plan same old new is = record {
  text = report_text (λ g. how_many w (in_group w k g)) (λ g e. how_many w (λ a. in_group w k g a && (same_end.ghosts).eq (k.ends round addr a) e)) (announcers_of w.plan);
  answer = refl;
  accepted = rw (of.round_there, of.watched) refl;
  appended =
      is ∙ ap (λ (t : List ℕ). old ++ t)
      (ap (λ (p : Plan). report_text (group_size (rows_of watch)) (group_count (rows_of watch)) (announcers_of p)) same
      ∙ same_report w k (next_hop w.plan (k.routings round) addr) (rows_of watch) stubs of.rows (k.ends round addr) of.ends (announcers_of w.plan));
}
