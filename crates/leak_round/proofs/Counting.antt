-- Entries of a table, of a round and of all rounds are counted.
use Rattle.std.proofs.Common.{◌≡◌, ◌≢◌, ℕ, zero, suc, ◌+◌, ◌-◌, ◌<◌, ◌≤◌, true, false, ◌==◌, Option, None, Some, List, [], ◌∷◌, ◌++◌, length, get_or, map, AllPairs, Contains, refl, sym, ap, subst, ◌∙◌, arith, ◌⊎◌, inl, inr, nat_eq}
use Rattle.std.specs.Prelude.{IsSome}
use Rattle.std.specs.List.{AllByRecursion, IsDistinct as AreDistinct}
use Rattle.std.proofs.lemmas.Bool.{cases_Bool, or_parts, or_left, or_right, eq-eqb}
use Rattle.std.proofs.lemmas.Cmp.{nat_eq_equiv}
use Rattle.std.proofs.lemmas.List.{length-append, length-map}
use Rattle.net_names.specs.Numbers.{occurs, IsDistinct}
use Rattle.as_graph.specs.Topology.{Topology, has, as_count}
use Rattle.as_graph.proofs.RowAses.{length-le-as_count}
use Rattle.path_pool.specs.declared.pool.PathPool.{PathPool}
use Rattle.path_pool.specs.Pool.{live_count}
use Rattle.stability_laws.specs.declared.entry.Entry.{Entry}
use Rattle.three_pass.specs.Spending.{FewNewCells}
use Rattle.leak_round.specs.Entries.{StandsIn, AreApart, HasEntries}

pub stands_occurs : (xs : List ℕ) (a : ℕ) → StandsIn a xs → occurs a xs ≡ true
stands_occurs [] a h = absurd h
stands_occurs (x ∷ xs) a (inl e) = or_left (x == a) (occurs a xs) (eq-eqb x a (sym e))
stands_occurs (x ∷ xs) a (inr h) = or_right (x == a) (occurs a xs) (stands_occurs xs a h)

pub apart_numbers : (xs : List ℕ) → IsDistinct xs → AreApart xs
apart_numbers [] d = tt
apart_numbers (x ∷ xs) d = (λ h. (let t = stands_occurs xs x h in let f = d.0 in cc), apart_numbers xs d.1)

-- who stands in a list is an element of it
pub from_stands : {X : Type 0} (xs : List X) (x : X) → StandsIn x xs → Contains xs x
from_stands [] x s = absurd s
from_stands (y ∷ ys) x (inl e) = (0, omega arith, sym e)
from_stands (y ∷ ys) x (inr s) = let (k, l, e) = from_stands ys x s in (suc k, omega (arith, l), e)

pub to_stands : {X : Type 0} (xs : List X) (x : X) → Contains xs x → StandsIn x xs
to_stands [] x (k, l, e) = absurd (omega (arith, l))
to_stands (y ∷ ys) x (zero, l, e) = inl (sym e)
to_stands (y ∷ ys) x (suc k, l, e) = inr (to_stands ys x (k, omega (arith, l), e))

stands_at : {X : Type 0} (xs : List X) (k : ℕ) (d : X) → k < length xs → StandsIn (get_or xs k d) xs
stands_at [] k d l = absurd (omega (arith, l))
stands_at (x ∷ xs) zero d l = inl refl
stands_at (x ∷ xs) (suc k) d l = inr (stands_at xs k d (omega (arith, l)))

-- no two elements are the same where nothing stands twice
pub apart_pairs : {X : Type 0} (xs : List X) → AreApart xs → AllPairs (λ x y. x ≢ y) xs
apart_pairs [] a i j d before last = absurd (omega (arith, last))
apart_pairs (x ∷ xs) a i zero d before last = absurd (omega (arith, before))
apart_pairs (x ∷ xs) a zero (suc j) d before last = λ same. a.0 (subst (λ y. StandsIn y xs) (sym same) (stands_at xs j d (omega (arith, last))))
apart_pairs (x ∷ xs) a (suc i) (suc j) d before last = apart_pairs xs a.1 i j d (omega (arith, before)) (omega (arith, last))

-- the entries of a table
pub table_entries : (old new : PathPool) (f : ℕ → Option Entry) → FewNewCells old new f → HasEntries f (live_count new - live_count old)
table_entries old new f h = record {
  places = h.ases;
  apart = apart_numbers h.ases h.distinct;
  entries = λ a s. h.entries a (stands_occurs h.ases a s);
  enough = omega (arith, h.few);
}

module _ {X Y : Type 0} (into : Y → X) (one : (y z : Y) → into y ≡ into z → y ≡ z) where
  pub from_mapped : (ys : List Y) (x : X) → StandsIn x (map into ys) → (y : Y) × StandsIn y ys × (x ≡ into y)
  from_mapped [] x h = absurd h
  from_mapped (y ∷ ys) x (inl e) = (y, inl refl, e)
  from_mapped (y ∷ ys) x (inr h) = let (z, s, e) = from_mapped ys x h in (z, inr s, e)

  pub apart_mapped : (ys : List Y) → AreApart ys → AreApart (map into ys)
  apart_mapped [] a = tt
  apart_mapped (y ∷ ys) a = (λ h. (let (z, s, e) = from_mapped ys (into y) h in a.0 (subst (λ (t : Y). StandsIn t ys) (sym (one y z e)) s)), apart_mapped ys a.1)

pub from_appended : {X : Type 0} (xs ys : List X) (x : X) → StandsIn x (xs ++ ys) → StandsIn x xs ⊎ StandsIn x ys
from_appended [] ys x h = inr h
from_appended (z ∷ xs) ys x (inl e) = inl (inl e)
from_appended (z ∷ xs) ys x (inr h) = elim (from_appended xs ys x h) [ inl l ↦ inl (inr l) | inr r ↦ inr r ]

pub apart_appended : {X : Type 0} (xs ys : List X) → AreApart xs → AreApart ys → ((x : X) → StandsIn x xs → StandsIn x ys → ⊥) → AreApart (xs ++ ys)
apart_appended [] ys a b never = b
apart_appended (x ∷ xs) ys a b never = (
  λ h. elim (from_appended xs ys x h) [ inl l ↦ a.0 l | inr r ↦ never x (inl refl) r ],
  apart_appended xs ys a.1 b (λ y l r. never y (inr l) r),
)

pub none_some : {X : Type 0} (o : Option X) → o ≡ None → IsSome o → ⊥
none_some None e h = cc
none_some (Some x) e h = cc

-- entries at new places are more entries
pub more_entries : {X Y : Type 0} (old new : X → Option Entry) (held : Y → Option Entry) (into : Y → X) → ((y z : Y) → into y ≡ into z → y ≡ z)
    → ((y : Y) → old (into y) ≡ None) → ((x : X) → IsSome (old x) → IsSome (new x)) → ((y : Y) → IsSome (held y) → IsSome (new (into y)))
    → (m n : ℕ) → HasEntries old m → HasEntries held n → (k : ℕ) → k ≤ m + n → HasEntries new k
more_entries {X} {Y} old new held into one fresh kept put m n h j k few = record {
  places = map into j.places ++ h.places;
  apart = apart_appended (map into j.places) h.places (apart_mapped into one j.places j.apart) h.apart (λ x l r.
      (let (y, s, e) = from_mapped into one j.places x l in none_some (old x) (ap old e ∙ fresh y) (h.entries x r)));
  entries = λ x s. elim (from_appended (map into j.places) h.places x s) [
    | inl l ↦ (let (y, t, e) = from_mapped into one j.places x l in subst (λ z. IsSome (new z)) (sym e) (put y (j.entries y t)))
    | inr r ↦ kept x (h.entries x r)
  ];
  enough = omega (arith, few, h.enough, j.enough, length-append (map into j.places) h.places, length-map j.places into);
}

pub no_entries : {X : Type 0} (held : X → Option Entry) (n : ℕ) → n ≡ 0 → HasEntries held n
no_entries held n e = record { places = []; apart = tt; entries = λ x h. absurd h; enough = omega (arith, e) }

others_apart : (ys : List ℕ) (x : ℕ) → occurs x ys ≡ false → AllByRecursion (λ y. nat_eq x y ≡ false) ys
others_apart [] x o = tt
others_apart (y ∷ ys) x o = let parts = or_parts (y == x) (occurs x ys) o in (nat_eq_equiv.symm x y ∙ parts.0, others_apart ys x parts.1)

-- the numbers of a list are apart by the test of equality
apart_by_test : (xs : List ℕ) → IsDistinct xs → AreDistinct nat_eq xs
unfolding AreDistinct
apart_by_test [] d = tt
apart_by_test (x ∷ xs) d = (others_apart xs x d.0, apart_by_test xs d.1)

-- entries stand at ASes, so a table has at most as many
pub few_entries : (g : Topology) (f : ℕ → Option Entry) (xs : List ℕ) → IsDistinct xs → ((a : ℕ) → occurs a xs ≡ true → IsSome (f a)) → ((a : ℕ) → has g a ≡ false → f a ≡ None) → length xs ≤ as_count g
few_entries g f xs d held away = length-le-as_count g xs (apart_by_test xs d) (λ a o. elim (cases_Bool (has g a)) [ inl there ↦ there | inr not ↦ absurd (none_some (f a) (away a not) (held a o)) ])

pub fewer_entries : {X : Type 0} (held : X → Option Entry) (m n : ℕ) → HasEntries held n → m ≤ n → HasEntries held m
fewer_entries held m n h less = record { places = h.places; apart = h.apart; entries = h.entries; enough = omega (arith, less, h.enough) }
