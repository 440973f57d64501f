-- A table that gets more room has the entries that it had.
use Rattle.std.proofs.Common.{◌≡◌, ◌≢◌, ◌⊎◌, inl, inr, ℕ, zero, suc, ◌-◌, ◌<◌, ◌≤◌, true, Option, Some, None, Result, IfOk, option_map, unwrap_or, List, [], ◌∷◌, length, get_or, set, refl, sym, ap, subst, ◌∙◌, arith}
use Rattle.std.specs.Prelude.{is_some, IsSome, IsTrue, slice_get, option_and_then}
use Rattle.std.specs.List.{sum_by}
use Rattle.std.proofs.lemmas.Bool.{cases_eq}
use Rattle.std.proofs.lemmas.List.{length-set}
use Rattle.std.proofs.lemmas.List.Sums.{sum_by-set}
use Rattle.std.proofs.lemmas.Option.{slice_get_within, get_or_from_slice_get}
use Rattle.std.proofs.lemmas.Result.{IfOk-weaker}
use Rattle.net_names.specs.Prefixes.{PrefixValue}
use Rattle.path_pool.specs.declared.pool.PathPool.{PathPool}
use Rattle.path_pool.specs.Pool.{IsLive}
use Rattle.stability_laws.specs.Plans.{Plan, has_prefix, prefixes_of}
use Rattle.route_choice.specs.declared.held.Held.{Held}
use Rattle.route_choice.specs.declared.round_tables.RoundTables.{RoundTables}
use Rattle.route_choice.specs.declared.table.Table.{Table}
use Rattle.route_choice.specs.Routings.{entry_of}
use Rattle.route_choice.specs.RoundTables.{table_at, tables_uses, uses_at}
use Rattle.route_choice.specs.Tables.{held_at, prefix_of, table_uses}
use Rattle.route_choice.proofs.Lists.{entries_same}
use Rattle.dirty_recompute.proofs.CrowdLemmas.{set_get, set_keeps}
use Rattle.leak_round.specs.Growth.{KeepsPaths}
use Rattle.leak_round.specs.Overlays.{table_in, held_of}
use Rattle.leak_round.specs.Found.{IsRoomed, AreRoomed, AreSame}
use Rattle.leak_round.specs.Tables.{tables_in, kept_in, entry_uses, AreFull, AreRoundsFull}
use Rattle.leak_round.proofs.Laying.{tables_there, round_place, place_round, uses_there, kept_is}
use Rattle.leak_round.proofs.Rounding.{same_or_not}
use Rattle.leak_round.proofs.Seeding.{held_of-live}

module _ (old : List RoundTables) (round : ℕ) (prefix : PrefixValue) (before : RoundTables) (read : before ≡ get_or old (round - 1) before) (t : Table) (there : table_in old round prefix ≡ Some t) where
  pub before_is : tables_in old round ≡ Some before
  before_is =
      let (r, is, here) = tables_there old round prefix t there in
      let place = round_place old round r is in
      is ∙ ap (λ x. Some x) (sym (get_or_from_slice_get old (round - 1) r before place.1) ∙ sym read)

  pub read_before : (x : Table) → table_in old round prefix ≡ Some x → table_at before prefix ≡ Some x
  read_before x at = sym (ap (option_and_then (λ (y : RoundTables). table_at y prefix)) before_is) ∙ at

  pub read_back : (x : Table) → table_at before prefix ≡ Some x → table_in old round prefix ≡ Some x
  read_back x at = ap (option_and_then (λ (y : RoundTables). table_at y prefix)) before_is ∙ at

  module _ (after : RoundTables) (p : IsRoomed before after prefix) where
    pub after_is : tables_in (set old (round - 1) after) round ≡ Some after
    after_is =
        let place = round_place old round before before_is in
        place_round (set old (round - 1) after) round place.0 ∙ set_get old (round - 1) before after place.1

    pub other_is : (r : ℕ) → r ≢ round → tables_in (set old (round - 1) after) r ≡ tables_in old r
    other_is zero ne = refl
    other_is (suc n) ne = set_keeps old (round - 1) n after (λ e. (let some = (round_place old round before before_is).0 in ne (omega (arith, e, some))))

    -- one table has perhaps more room
    unfoldable pub roomed : AreRoomed old (set old (round - 1) after) round prefix
    roomed = record {
      was = p.was;
      now = p.now;
      was_at = ap (option_and_then (λ (x : RoundTables). table_at x prefix)) before_is ∙ p.was_at;
      now_at = ap (option_and_then (λ (x : RoundTables). table_at x prefix)) after_is ∙ p.puts.this;
      same = p.same;
      others = other_table;
    }
      where
        other_table : (r : ℕ) (q : PrefixValue) → (r ≢ round) ⊎ (q ≢ prefix) → table_in (set old (round - 1) after) r q ≡ table_in old r q
        other_table r q apart = elim (cases_eq r round) [
          | inr ne ↦ ap (option_and_then (λ (x : RoundTables). table_at x q)) (other_is r ne)
          | inl e ↦ elim apart [
            | inl ne ↦ absurd (ne e)
            | inr ne ↦
                ap (λ n. table_in (set old (round - 1) after) n q) e ∙ ap (option_and_then (λ (x : RoundTables). table_at x q)) after_is ∙ p.puts.others q ne
                ∙ sym (ap (λ n. table_in old n q) e ∙ ap (option_and_then (λ (x : RoundTables). table_at x q)) before_is)
          ]
        ]

    pub read_after : (x : Table) → table_in (set old (round - 1) after) round prefix ≡ Some x → table_at after prefix ≡ Some x
    read_after x at = sym (ap (option_and_then (λ (y : RoundTables). table_at y prefix)) after_is) ∙ at

    uses_same : (k : ℕ) → tables_uses after k ≡ tables_uses before k
    uses_same k = omega (arith, p.puts.uses k, p.same.uses k, uses_there before prefix p.was p.was_at k)

    each_uses : (q : PrefixValue) (k : ℕ) → (q ≡ prefix) ⊎ (q ≢ prefix) → uses_at after q k ≡ uses_at before q k
    each_uses q k (inl e) = ap (λ y. uses_at after y k) e ∙ uses_there after prefix p.now p.puts.this k ∙ p.same.uses k ∙ sym (uses_there before prefix p.was p.was_at k) ∙ sym (ap (λ y. uses_at before y k) e)
    each_uses q k (inr ne) = ap (λ o. unwrap_or (option_map (λ (x : Table). table_uses x k) o) 0) (p.puts.others q ne)

    module _ (pool : PathPool) (plan : Plan) (h : AreFull pool plan before) where
      there_at : (q : PrefixValue) → (q ≡ prefix) ⊎ (q ≢ prefix) → is_some (table_at after q) ≡ has_prefix plan q
      there_at q (inl e) = ap (λ y. is_some (table_at after y)) e ∙ ap is_some p.puts.this ∙ sym (ap is_some p.was_at) ∙ ap (λ y. is_some (table_at before y)) (sym e) ∙ h.there q
      there_at q (inr ne) = ap is_some (p.puts.others q ne) ∙ h.there q

      now_is : (q : PrefixValue) (x : Table) → q ≡ prefix → table_at after q ≡ Some x → p.now ≡ x
      now_is q x e is = let both : Some p.now ≡ Some x = sym p.puts.this ∙ ap (table_at after) (sym e) ∙ is in cc

      prefix_at : (q : PrefixValue) (x : Table) → (q ≡ prefix) ⊎ (q ≢ prefix) → table_at after q ≡ Some x → prefix_of x ≡ q
      prefix_at q x (inl e) is = ap prefix_of (sym (now_is q x e is)) ∙ p.same.prefix ∙ h.by_prefix prefix p.was p.was_at ∙ sym e
      prefix_at q x (inr ne) is = h.by_prefix q x (sym (p.puts.others q ne) ∙ is)

      live_at : (q : PrefixValue) (x : Table) → (q ≡ prefix) ⊎ (q ≢ prefix) → table_at after q ≡ Some x → (a : ℕ) (d : Held) → held_at x a ≡ Some d → IsLive pool d.path.0
      live_at q x (inl e) is a d held = h.live prefix p.was p.was_at a d (sym (p.same.entries a) ∙ ap (λ y. held_at y a) (now_is q x e is) ∙ held)
      live_at q x (inr ne) is a d held = h.live q x (sym (p.puts.others q ne) ∙ is) a d held

      full_after : AreFull pool plan after
      full_after = record {
        there = λ q. there_at q (same_or_not q prefix);
        by_prefix = λ q x is. prefix_at q x (same_or_not q prefix) is;
        live = λ q x is a d held. live_at q x (same_or_not q prefix) is a d held;
        size = record {
          sums = λ k. uses_same k ∙ h.size.sums k ∙ sym (ap (λ (f : PrefixValue → ℕ). sum_by f (prefixes_of plan)) (λ i q. each_uses q k (same_or_not q prefix) i));
          small = λ q k. (let e = each_uses q k (same_or_not q prefix) in omega (arith, e, h.size.small q k));
        };
      }

    -- so all entries stay
    pub all_same : AreSame old (set old (round - 1) after)
    unfolding roomed
    all_same = record { count = length-set old (round - 1) after; entries = λ r q a. held_at_all r q a (cases_eq r round) (same_or_not q prefix); uses = uses_all; full = λ pool plan h r tables at. full_at pool plan h r tables (cases_eq r round) at }
      where
        held_at_all : (r : ℕ) (q : PrefixValue) (a : ℕ) → (r ≡ round) ⊎ (r ≢ round) → (q ≡ prefix) ⊎ (q ≢ prefix) → held_of (set old (round - 1) after) r q a ≡ held_of old r q a
        held_at_all r q a (inr ne) d = ap (option_and_then (λ (x : Table). held_at x a)) (roomed.others r q (inl ne))
        held_at_all r q a (inl e) (inr ne) = ap (option_and_then (λ (x : Table). held_at x a)) (roomed.others r q (inr ne))
        held_at_all r q a (inl e) (inl f) =
            (λ i. held_of (set old (round - 1) after) (e i) (f i) a) ∙ ap (option_and_then (λ (x : Table). held_at x a)) roomed.now_at ∙ p.same.entries a
            ∙ sym (ap (option_and_then (λ (x : Table). held_at x a)) roomed.was_at) ∙ sym (λ i. held_of old (e i) (f i) a)

        uses_all : (k : ℕ) → entry_uses (set old (round - 1) after) k ≡ entry_uses old k
        uses_all k =
            let place = round_place old round before before_is in
            let sum = sum_by-set (λ (x : RoundTables). tables_uses x k) old (round - 1) after before (slice_get_within old (round - 1) before place.1) in
            let here : tables_uses (get_or old (round - 1) before) k ≡ tables_uses before k = ap (λ x. tables_uses x k) (sym read) in
            omega (arith, sum, here, uses_same k)

        full_at : (pool : PathPool) (plan : Plan) → AreRoundsFull pool plan old → (r : ℕ) (tables : RoundTables) → (r ≡ round) ⊎ (r ≢ round) → tables_in (set old (round - 1) after) r ≡ Some tables → AreFull pool plan tables
        full_at pool plan h r tables (inr ne) at = h r tables (sym (other_is r ne) ∙ at)
        full_at pool plan h r tables (inl e) at =
            let both : Some after ≡ Some tables = sym after_is ∙ ap (tables_in (set old (round - 1) after)) (sym e) ∙ at in
            let one : after ≡ tables = cc in
            subst (AreFull pool plan) one (full_after pool plan (h round before before_is))

pub same_itself : (rounds : List RoundTables) → AreSame rounds rounds
same_itself rounds = record { count = refl; entries = λ r q a. refl; uses = λ k. refl; full = λ pool plan h. h }

pub same_on : (a b c : List RoundTables) → AreSame a b → AreSame b c → AreSame a c
same_on a b c p q = record {
  count = q.count ∙ p.count;
  entries = λ r x n. q.entries r x n ∙ p.entries r x n;
  uses = λ k. q.uses k ∙ p.uses k;
  full = λ pool plan h. q.full pool plan (p.full pool plan h);
}

-- what is kept is kept still
pub kept_same : (plan : Plan) (pool pool' : PathPool) (rounds rounds' : List RoundTables) → KeepsPaths pool pool' → AreSame rounds rounds' → AreRoundsFull pool plan rounds → (r : ℕ) (p : PrefixValue) (a : ℕ) → kept_in pool' rounds' r p a ≡ kept_in pool rounds r p a
kept_same plan pool pool' rounds rounds' keeps same full r p a =
    kept_is pool' rounds' r p a
    ∙ entries_same pool pool' (held_of rounds' r p a) (λ d e. keeps.lists d.path.0 (held_of-live pool plan rounds full r p a d (sym (same.entries r p a) ∙ e)))
    ∙ ap (option_map (entry_of pool)) (same.entries r p a) ∙ sym (kept_is pool rounds r p a)

got_within : {X : Type 0} (xs : List X) (i : ℕ) → i < length xs → (x : X) × (slice_get xs i ≡ Some x)
got_within [] i less = absurd (omega (arith, less))
got_within (x ∷ xs) zero less = (x, refl)
got_within (x ∷ xs) (suc i) less = got_within xs i (omega (arith, less))

-- each prefix has a table in each round
pub table_there : (pool : PathPool) (plan : Plan) (rounds : List RoundTables) → AreRoundsFull pool plan rounds → (round : ℕ) (prefix : PrefixValue) → 1 ≤ round → round ≤ length rounds → IsTrue (has_prefix plan prefix) → IsSome (table_in rounds round prefix)
table_there pool plan rounds full round prefix from to known =
    let (r, at) = got_within rounds (round - 1) (omega (arith, from, to)) in
    let is : tables_in rounds round ≡ Some r = place_round rounds round (omega (arith, from)) ∙ at in
    let there : is_some (table_at r prefix) ≡ true = (full round r is).there prefix ∙ known in
    subst IsSome (sym (ap (option_and_then (λ (x : RoundTables). table_at x prefix)) is)) (some_is (table_at r prefix) there)
  where
    some_is : (o : Option Table) → is_some o ≡ true → IsSome o
    some_is None e = cc
    some_is (Some x) e = refl

-- what holds of two tables holds of those that are found
pub of_both : {X T E : Type 0} (P : T → T → X → Type 0) (a b : Option T) (t u : T) → a ≡ Some t → b ≡ Some u → (r : Result X E) → IfOk r (P t u) → IfOk r (λ o. (x y : T) → a ≡ Some x → b ≡ Some y → P x y o)
of_both {X} {T} {E} P a b t u at bt r h = IfOk-weaker r (P t u) (λ o. (x y : T) → a ≡ Some x → b ≡ Some y → P x y o) (λ o p x y ax bx.
    (let one : t ≡ x = one_of (sym at ∙ ax) in
    let two : u ≡ y = one_of (sym bt ∙ bx) in
    coe 0 1 (i. P (one i) (two i) o) p)) h
  where
    one_of : {m n : T} → Some m ≡ Some n → m ≡ n
    one_of e = cc
