-- Whose turn it is, table by table and round by round.
use Rattle.std.proofs.Common.{◌≡◌, ◌⊎◌, inl, inr, ℕ, ◌+◌, ◌-◌, ◌<◌, ◌≤◌, Bool, true, false, Option, Some, None, List, [], refl, sym, ap, ◌∙◌, arith}
use Rattle.std.specs.Prelude.{IsTrue, slice_get}
use Rattle.std.proofs.lemmas.Bool.{cases_eq}
use Rattle.net_names.specs.Prefixes.{PrefixValue, prefix_cmp}
use Rattle.as_graph.specs.Topology.{Topology}
use Rattle.path_pool.specs.declared.pool.PathPool.{PathPool}
use Rattle.stability_laws.specs.declared.entry.Entry.{Entry}
use Rattle.stability_laws.specs.Offers.{Setting}
use Rattle.stability_laws.specs.Stable.{IsRight}
use Rattle.stability_laws.specs.Plans.{Plan, ListsRising, has_prefix, prefixes_of}
use Rattle.stability_laws.specs.Rounds.{seeds_of as seeds_in}
use Rattle.stability_laws.proofs.KeyLists.{apart_later, seen_before_end}
use Rattle.stability_laws.proofs.Listing.{at_next}
use Rattle.net_names.specs.Orders.{prefix_total}
use Rattle.route_choice.specs.declared.round_tables.RoundTables.{RoundTables}
use Rattle.leak_round.specs.declared.announced.Announced.{Announced}
use Rattle.leak_round.specs.declared.changes.Change.{Change}
use Rattle.leak_round.specs.Growth.{KeepsPaths}
use Rattle.leak_round.specs.Found.{CanFind, AreFound, AreFoundUpTo, AreSame, IsAdded, IsTurn, is_found}
use Rattle.leak_round.specs.Tables.{kept_in}
use Rattle.leak_round.proofs.Keeping.{announced_kept, rounds_full_kept}
use Rattle.leak_round.proofs.Roomed.{kept_same}

-- the changes of all earlier rounds are found, and of this round those of the prefixes before a place
pub record AreUpTo (plan : Plan) (xs : List Change) (round place : ℕ) : Type 0 where
  pub only : (r : ℕ) (p : PrefixValue) → is_found xs r p ≡ true → (r ≤ round - 1) ⊎ ((r ≡ round) × ((i : ℕ) × (i < place) × (slice_get (prefixes_of plan) i ≡ Some p)))
  pub whole : (r : ℕ) (p : PrefixValue) → 1 ≤ r → r ≤ round - 1 → IsTrue (has_prefix plan p) → is_found xs r p ≡ true
  pub put : (i : ℕ) (p : PrefixValue) → i < place → slice_get (prefixes_of plan) i ≡ Some p → is_found xs round p ≡ true

pub up_start : (plan : Plan) (xs : List Change) (round : ℕ) → AreFoundUpTo plan xs (round - 1) → AreUpTo plan xs round 0
up_start plan xs round h = record { only = λ r p is. inl (h.only r p is); whole = h.whole; put = λ i p less at. absurd (omega (arith, less)) }

module _ (plan : Plan) (xs : List Change) (round place : ℕ) (up : AreUpTo plan xs round place) (from : 1 ≤ round) where
  latest : (r : ℕ) (p : PrefixValue) → is_found xs r p ≡ true → r ≤ round
  latest r p is = elim (up.only r p is) [ inl less ↦ omega (arith, less) | inr now ↦ (let e = now.0 in omega (arith, e)) ]

  module _ (listed : ListsRising prefix_cmp (λ p. IsTrue (has_prefix plan p)) (prefixes_of plan)) where
    pub up_turn : (prefix : PrefixValue) (rounds : ℕ) → slice_get (prefixes_of plan) place ≡ Some prefix → round ≤ rounds → IsTurn plan rounds xs round prefix
    up_turn prefix rounds at to = record {
      from = from;
      to = to;
      known = listed.only place prefix at;
      fresh = fresh (is_found xs round prefix) refl;
      latest = latest;
      before = λ two. up.whole (round - 1) prefix (omega (arith, two)) (omega arith) (listed.only place prefix at);
    }
      where
        fresh : (b : Bool) → is_found xs round prefix ≡ b → b ≡ false
        fresh false e = refl
        fresh true e = elim (up.only round prefix e) [
          | inl less ↦ absurd (omega (arith, less, from))
          | inr now ↦ (let (same, rest) = now in let (i, less, is) = rest in absurd (apart_later prefix_cmp prefix_total (λ p. IsTrue (has_prefix plan p)) (prefixes_of plan) listed i place prefix prefix less is at refl))
        ]

    pub up_end : slice_get (prefixes_of plan) place ≡ None → AreFoundUpTo plan xs round
    up_end past = record {
      only = latest;
      whole = λ r p low high known. elim (cases_eq r round) [
        | inl e ↦ (let (i, less, is) = seen_before_end prefix_cmp (λ q. IsTrue (has_prefix plan q)) (prefixes_of plan) listed place past p known in ap (λ n. is_found xs n p) e ∙ up.put i p less is)
        | inr ne ↦ up.whole r p low (omega (arith, high, ne)) known
      ];
    }

  pub up_more : (ys : List Change) (prefix : PrefixValue) → slice_get (prefixes_of plan) place ≡ Some prefix → IsAdded xs ys round prefix → AreUpTo plan ys round (place + 1)
  up_more ys prefix at added = record {
    only = λ r p is. elim (added.only r p is) [
      | inl before ↦ elim (up.only r p before) [
        | inl less ↦ inl less
        | inr now ↦ (let (e, rest) = now in let (i, less, there) = rest in inr (e, (i, omega (arith, less), there)))
      ]
      | inr here ↦ inr (here.0, (place, omega arith, at ∙ ap (λ q. Some q) (sym here.1)))
    ];
    whole = λ r p low high known. added.kept r p (up.whole r p low high known);
    put = at_next (prefixes_of plan) place prefix (λ p. is_found ys round p ≡ true) at added.this (λ i p less is. added.kept round p (up.put i p less is));
  }

pub none_found : (plan : Plan) → AreFoundUpTo plan [] 0
none_found plan = record { only = λ r p is. cc; whole = λ r p low high known. absurd (omega (arith, low, high)) }

-- what could be found can be found after a part of it
pub can_still : (w : PrefixValue → Setting) (g : Topology) (touched : PrefixValue → ℕ → Bool) (plan after : Plan) (xs ys : List Announced) (pool pool' : PathPool) (rounds rounds' : List RoundTables) → CanFind w g touched plan after xs ys pool rounds → KeepsPaths pool pool' → AreSame rounds rounds' → CanFind w g touched plan after xs ys pool' rounds'
can_still w g touched plan after xs ys pool pool' rounds rounds' h keeps same = record {
  prefixes = h.prefixes;
  announced = announced_kept pool pool' keeps plan xs h.announced;
  announced_after = announced_kept pool pool' keeps after ys h.announced_after;
  full = same.full pool' plan (rounds_full_kept pool pool' keeps plan rounds h.full);
  announcers = h.announcers;
  entries = λ r p b from to known not out. kept r p b ∙ h.entries r p b from (omega (arith, to, same.count)) known not out;
  right = λ r p b from to known there out. (
      let F : (ℕ → Option Entry) → (ℕ → Option Entry) → Type 0 = λ k f. IsRight (w p) (seeds_in plan r p k) f b in
      coe 1 0 (i. F (λ a. kept (r - 1) p a i) (λ a. kept r p a i)) (h.right r p b from (omega (arith, to, same.count)) known there out));
  only_ases = h.only_ases;
}
  where
    kept : (r : ℕ) (p : PrefixValue) (a : ℕ) → kept_in pool' rounds' r p a ≡ kept_in pool rounds r p a
    kept = kept_same plan pool pool' rounds rounds' keeps same h.full

-- no change is found yet
pub found_none : (w : PrefixValue → Setting) (g : Topology) (touched : PrefixValue → ℕ → Bool) (plan after : Plan) (pool : PathPool) (rounds : List RoundTables) (n : ℕ) → AreFound w g touched plan after pool rounds [] n n
found_none w g touched plan after pool rounds n = record {
  changes = record { fits = λ i x at. cc; apart = λ i j x y less at at'. cc; listed = λ i x at. cc };
  done = λ r p is. cc;
  triples = [];
  apart = tt;
  of_tables = λ t s. absurd s;
  counted = λ t s. absurd s;
  enough = omega arith;
}
