-- How often a path is used by some entries.
use Rattle.std.proofs.Common.{◌≡◌, ◌≢◌, ℕ, zero, suc, ◌+◌, ◌<◌, ◌≤◌, Bool, true, false, cond, ◌||◌, List, [], ◌∷◌, length, get_or, slice_get, take, drop, Option, Some, None, nat_eq, unwrap_or, refl, ap, sym, ◌∙◌, arith, inl, inr}
use Rattle.std.specs.Prelude.{◌⊎◌, is_some, IsSome}
use Rattle.std.specs.Option.{is_none}
use Rattle.net_names.specs.Numbers.{occurs}
use Rattle.net_names.proofs.Shared.{or_false}
use Rattle.std.specs.List.{list_any, sum_by}
use Rattle.std.specs.Map.{keys_of, values_of, lookup}
use Rattle.std.proofs.lemmas.List.Sums.{sum_by_more, sum_by-cons, sum_by-drop_more, sum_by-take-le}
use Rattle.std.proofs.lemmas.Map.Entries.{sum_by-set_value}
use Rattle.std.proofs.lemmas.Bool.{cases_eq, eq-eqb, ne_eqb, or_right}
use Rattle.std.proofs.lemmas.List.{get_or-map, take_all, length-map}
use Rattle.std.proofs.lemmas.List.Folds.{list_any_more}
use Rattle.path_pool.specs.declared.pool.PathPool.{PathPool}
use Rattle.path_pool.specs.Pool.{holds_of}
use Rattle.route_choice.specs.declared.held.Held.{Held}
use Rattle.route_choice.specs.Slots.{Slots, slot_at, entry_at, keys, missing_count, over, use_of, uses_of}
use Rattle.route_choice.specs.Holds.{GivesBack}

-- an entry that stands at an AS is one of the uses
pub use_of-le : (m : Slots) (a k : ℕ) → use_of k (entry_at m a) ≤ uses_of m k
use_of-le m a k = by (slot_at m a) refl
  where
    by : (o : Option (Option Held)) → slot_at m a ≡ o → use_of k (unwrap_or o None) ≤ uses_of m k
    by None e = omega arith
    by (Some v) e = omega (arith, sum_by-set_value (use_of k) (nat_eq a) m.entries v None e)

-- an entry uses its path
pub use_of-itself : (h : Held) → use_of h.path.0 (Some h) ≡ 1
use_of-itself h = ap (λ b. cond b 1 0) (eq-eqb h.path.0 h.path.0 refl)

-- an entry that was read stands at its place
pub read_at : {X : Type 0} (es : List X) (n : ℕ) (e : X) → slice_get es n ≡ Some e → (n < length es) × (get_or es n e ≡ e)
read_at [] n e h = absurd (cc)
read_at (x ∷ xs) zero e h = (omega arith, cc)
read_at (x ∷ xs) (suc n) e h = let r = read_at xs n e h in (omega (arith, r.0), r.1)

-- how often the first n entries use the path
abbrev pub uses_before : Slots → ℕ → ℕ → ℕ
uses_before m n k = sum_by (use_of k) (take n (values_of m.entries))

-- whether an AS is among the first n
abbrev pub is_before : Slots → ℕ → ℕ → Bool
is_before m n a = list_any (nat_eq a) (take n (keys m))

pub uses_before-more : (m : Slots) (n a k : ℕ) (entry : Option Held) → slice_get m.entries n ≡ Some (a, entry) → uses_before m (n + 1) k ≡ uses_before m n k + use_of k entry
uses_before-more m n a k entry read =
    let es : List (ℕ × Option Held) = m.entries in
    let at : (n < length es) × (get_or es n (a, entry) ≡ (a, entry)) = read_at es n (a, entry) read in
    let value : get_or (values_of es) n entry ≡ entry = get_or-map (λ (e : ℕ × Option Held). e.1) es n (a, entry) entry at.0 ∙ ap (λ (e : ℕ × Option Held). e.1) at.1 in
    let inside : n < length (values_of es) = omega (arith, at.0, length-map es (λ (e : ℕ × Option Held). e.1)) in
    sum_by_more (use_of k) (values_of es) n entry inside ∙ ap (λ v. uses_before m n k + use_of k v) value

pub uses_before-le : (m : Slots) (n k : ℕ) → uses_before m n k ≤ uses_of m k
uses_before-le m n k = sum_by-take-le (use_of k) (values_of m.entries) n

pub uses_before-all : (m : Slots) (n k : ℕ) → length m.entries ≤ n → uses_before m n k ≡ uses_of m k
uses_before-all m n k l = ap (sum_by (use_of k)) (take_all n (values_of m.entries) (omega (arith, l, length-map m.entries (λ (e : ℕ × Option Held). e.1))))

-- the AS of an entry that was read is the key at its place
pub key_at : (m : Slots) (n a : ℕ) (entry : Option Held) → slice_get m.entries n ≡ Some (a, entry) → (n < length (keys m)) × (get_or (keys m) n a ≡ a)
key_at m n a entry read =
    let es : List (ℕ × Option Held) = m.entries in
    let at : (n < length es) × (get_or es n (a, entry) ≡ (a, entry)) = read_at es n (a, entry) read in
    (omega (arith, at.0, length-map es (λ (e : ℕ × Option Held). e.0)), get_or-map (λ (e : ℕ × Option Held). e.0) es n (a, entry) a at.0 ∙ ap (λ (e : ℕ × Option Held). e.0) at.1)

pub is_before-more : (m : Slots) (n a b : ℕ) (entry : Option Held) → slice_get m.entries n ≡ Some (a, entry) → is_before m (n + 1) b ≡ (is_before m n b || nat_eq b a)
is_before-more m n a b entry read =
    let key = key_at m n a entry read in
    list_any_more (nat_eq b) (keys m) n a key.0 ∙ ap (λ k. is_before m n b || nat_eq b k) key.1

-- 1 where an AS has no place, else 0
abbrev pub missing_at : Option (Option Held) → ℕ
missing_at o = cond (is_none o) 1 0

-- how many of the ASes of the changes from the n-th on have no place
abbrev pub missing_from : Slots → Slots → ℕ → ℕ
missing_from m changes n = missing_count m (drop n (keys changes))

pub missing_from-more : (m changes : Slots) (n a : ℕ) (entry : Option Held) → slice_get changes.entries n ≡ Some (a, entry) →
    missing_from m changes n ≡ missing_at (slot_at m a) + missing_from m changes (n + 1)
missing_from-more m changes n a entry read =
    let key = key_at changes n a entry read in
    sum_by-drop_more (λ b. missing_at (slot_at m b)) (keys changes) n a key.0 ∙ ap (λ b. missing_at (slot_at m b) + missing_from m changes (n + 1)) key.1

-- no more ASes miss a place where one more has one
pub missing_count-le : (m m' : Slots) (a : ℕ) (entry : Option Held) → slot_at m' a ≡ Some entry → ((b : ℕ) → b ≢ a → slot_at m' b ≡ slot_at m b) → (ases : List ℕ) → missing_count m' ases ≤ missing_count m ases
missing_count-le m m' a entry this others [] = omega arith
missing_count-le m m' a entry this others (b ∷ ases) =
    let rest = missing_count-le m m' a entry this others ases in
    let old = sum_by-cons (λ (x : ℕ). missing_at (slot_at m x)) b ases in
    let new = sum_by-cons (λ (x : ℕ). missing_at (slot_at m' x)) b ases in
    elim (cases_eq b a) [
      | inl e ↦ (let none : missing_at (slot_at m' b) ≡ 0 = ap (λ (x : ℕ). missing_at (slot_at m' x)) e ∙ ap missing_at this in omega (arith, old, new, none, rest))
      | inr ne ↦ (let same : missing_at (slot_at m' b) ≡ missing_at (slot_at m b) = ap missing_at (others b ne) in omega (arith, old, new, same, rest))
    ]

-- an AS without a place takes up room for one, and another one none
room_left : (old new missing missing' : ℕ) (o : Option (Option Held)) → missing_at o + missing ≤ old → missing' ≤ missing → old ≤ new + 1 → (IsSome o → new ≡ old) → missing' ≤ new
room_left old new missing missing' None room few spare kept = omega (arith, room, few, spare)
room_left old new missing missing' (Some v) room few spare kept = omega (arith, room, few, kept refl)

-- a change has a place, or there is room for one
pub has_place : (spare missing : ℕ) (o : Option (Option Held)) → missing_at o + missing ≤ spare → IsSome o ⊎ (0 < spare)
has_place spare missing None room = inr (omega (arith, room))
has_place spare missing (Some v) room = inl refl

-- an AS is among the keys exactly where something stands at it
found_when : (es : List (ℕ × Option Held)) (a : ℕ) (o : Option Held) →
    cond (list_any (nat_eq a) (keys_of es)) (unwrap_or (lookup (nat_eq a) es) None) o ≡ over (lookup (nat_eq a) es) o
found_when [] a o = refl
found_when (e ∷ es) a o = by (nat_eq a e.0) (found_when es a o)
  where
    by : (b : Bool) → cond (list_any (nat_eq a) (keys_of es)) (unwrap_or (lookup (nat_eq a) es) None) o ≡ over (lookup (nat_eq a) es) o →
        cond (b || list_any (nat_eq a) (keys_of es)) (unwrap_or (cond b (Some e.1) (lookup (nat_eq a) es)) None) o ≡ over (cond b (Some e.1) (lookup (nat_eq a) es)) o
    by true h = refl
    by false h = h

pub is_before-all : (m : Slots) (n a : ℕ) (o : Option Held) → length m.entries ≤ n → cond (is_before m n a) (entry_at m a) o ≡ over (slot_at m a) o
is_before-all m n a o l =
    ap (λ ks. cond (list_any (nat_eq a) ks) (entry_at m a) o) (take_all n (keys m) (omega (arith, l, length-map m.entries (λ (e : ℕ × Option Held). e.0))))
    ∙ found_when m.entries a o

pub back_itself : (p : PathPool) → GivesBack p p
back_itself p = record { was_live = λ k l. l; lists = λ k l. refl; counts = λ k. omega arith; live = omega arith; spare = omega arith; limit = refl }

pub back_more : (p q r : PathPool) → GivesBack p q → GivesBack q r → GivesBack p r
back_more p q r a b = record {
  was_live = λ k l. a.was_live k (b.was_live k l);
  lists = λ k l. b.lists k l ∙ a.lists k (b.was_live k l);
  counts = λ k. omega (arith, a.counts k, b.counts k);
  live = omega (arith, a.live, b.live);
  spare = omega (arith, a.spare, b.spare);
  limit = b.limit ∙ a.limit;
}

-- After the first n changes: those ASes have what the changes say, and the holds of what stood there are given back.
pub record IsReplacing (before now changes : Slots) (old new : PathPool) (n : ℕ) : Type 0 where
  pub entries : (a : ℕ) → entry_at now a ≡ cond (is_before changes n a) (entry_at changes a) (entry_at before a)
  pub holds : (k : ℕ) → uses_of now k + holds_of old k ≡ uses_of before k + uses_before changes n k + holds_of new k
  pub back : GivesBack old new
  pub room : missing_from now changes n ≤ now.spare

pub replacing_more : (before now after changes : Slots) (old mid new : PathPool) (n asn : ℕ) (entry : Option Held) →
    IsReplacing before now changes old mid n →
    slice_get changes.entries n ≡ Some (asn, entry) →
    slot_at changes asn ≡ Some entry →
    slot_at after asn ≡ Some entry →
    ((a : ℕ) → a ≢ asn → slot_at after a ≡ slot_at now a) →
    ((k : ℕ) → uses_of after k + holds_of mid k ≡ uses_of now k + holds_of new k + use_of k entry) →
    GivesBack mid new → now.spare ≤ after.spare + 1 → (IsSome (slot_at now asn) → after.spare ≡ now.spare) →
    IsReplacing before after changes old new (n + 1)
replacing_more before now after changes old mid new n asn entry w read here this others holds back spare kept =
    let at : (k : ℕ) → uses_before changes (n + 1) k ≡ uses_before changes n k + use_of k entry = λ k. uses_before-more changes n asn k entry read in
    record {
      entries = λ a. elim (cases_eq a asn) [
        | inl e ↦
            let all : is_before changes (n + 1) a ≡ true = is_before-more changes n asn a entry read ∙ or_right (is_before changes n a) (nat_eq a asn) (eq-eqb a asn e) in
            ap (entry_at after) e ∙ ap (λ o. unwrap_or o None) (this ∙ sym here) ∙ sym (ap (entry_at changes) e) ∙ sym (ap (λ b. cond b (entry_at changes a) (entry_at before a)) all)
        | inr o ↦
            let same : is_before changes (n + 1) a ≡ is_before changes n a = is_before-more changes n asn a entry read ∙ ap (λ b. is_before changes n a || b) (ne_eqb a asn o) ∙ or_false (is_before changes n a) in
            ap (λ x. unwrap_or x None) (others a o) ∙ w.entries a ∙ sym (ap (λ b. cond b (entry_at changes a) (entry_at before a)) same)
      ];
      holds = λ k. omega (arith, holds k, w.holds k, at k);
      back = back_more old mid new w.back back;
      room =
          let few = missing_count-le now after asn entry this others (drop (n + 1) (keys changes)) in
          let before = missing_from-more now changes n asn entry read in
          room_left now.spare after.spare (missing_from now changes (n + 1)) (missing_from after changes (n + 1)) (slot_at now asn) (omega (arith, before, w.room)) few spare kept;
    }

-- an AS is among the keys exactly where something stands at it
pub occurs-keys : {X : Type 0} (es : List (ℕ × X)) (a : ℕ) → occurs a (keys_of es) ≡ is_some (lookup (nat_eq a) es)
occurs-keys [] a = refl
occurs-keys (e ∷ es) a = elim (cases_eq e.0 a) [
  | inl same ↦ rw (eq-eqb e.0 a same, eq-eqb a e.0 (sym same)) refl
  | inr apart ↦ rw (ne_eqb e.0 a apart, ne_eqb a e.0 (λ q. apart (sym q))) (occurs-keys es a)
]

-- a change over nothing
pub over_nothing : (es : List (ℕ × Option Held)) (o : Option (Option Held)) (a : ℕ) → length es ≡ 0 → unwrap_or o None ≡ over o (unwrap_or (lookup (nat_eq a) es) None)
over_nothing [] None a e = refl
over_nothing [] (Some v) a e = refl
over_nothing (x ∷ xs) o a e = absurd (omega (arith, e))
