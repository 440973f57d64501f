-- Pairs with their first lines as a finite map, whose entries the program keeps in order.
use Rattle.std.proofs.Common.{◌≡◌, ℕ, ◌+◌, ◌<◌, Bool, true, false, cond, List, [], ◌∷◌, Option, Some, None, IsSome, Result, Ok, Err, OnOk, OnErr, refl, sym, ap, ◌∙◌, arith, if◌then◌else◌}
use Rattle.std.specs.Cmp.{eq_by_cmp_equiv, tied_itself}
use Rattle.std.specs.Ordering.{eq_by_cmp, is_eq}
use Rattle.std.specs.declared.cmp.Ordering.{Ordering}
use Rattle.std.specs.declared.cmp.Ordering.TheVariants.{Less, Equal, Greater}
use Rattle.std.specs.Result.{is_ok}
use Rattle.std.specs.Map.{lookup}
use Rattle.std.specs.BTreeMap.{is_at}
use Rattle.std.specs.FinMap.{find, get, insert, from_entries, get-from_entries, get-insert, len-insert, len-empty, get-empty, same_map, empty}
use Rattle.net_names.specs.Links.{pair_cmp}
use Rattle.net_names.proofs.Pairs.{exact_pair, pairs_total}
use Rattle.caida_reader.specs.Firsts.{FirstMap, ArePairs}
use Rattle.caida_reader.specs.declared.firsts.First.{First}
use Rattle.net_names.proofs.Shared.{is_equal as equal}
pub use Rattle.net_names.proofs.Shared.{same_pair}

-- what the entries have at a pair
abbrev pub first_at : List ((ℕ × ℕ) × First) → ℕ × ℕ → Option First
first_at es q = lookup (is_at (pair_cmp q)) es

find_pair : (es : List ((ℕ × ℕ) × First)) (q : ℕ × ℕ) → find pair_cmp q es ≡ first_at es q
find_pair [] q = refl
find_pair (e ∷ es) q = ap (cond (is_at (pair_cmp q) e.0) (Some e.1)) (find_pair es q)

pub get_pair : (es : List ((ℕ × ℕ) × First)) (q : ℕ × ℕ) → get (from_entries {R = pair_cmp} es) q ≡ first_at es q
get_pair es q = get-from_entries pairs_total es q ∙ find_pair es q

-- entries that differ at one pair make maps that differ there
pub one_put : (es fs : List ((ℕ × ℕ) × First)) (s : ℕ × ℕ) (n : First) → ((q : ℕ × ℕ) → first_at fs q ≡ cond (is_at (pair_cmp s) q) (Some n) (first_at es q)) → from_entries {R = pair_cmp} fs ≡ insert (from_entries es) s n
one_put es fs s n h = same_map pairs_total exact_pair _ _ (λ q.
    get_pair fs q ∙ h q ∙ ap (λ b. cond b (Some n) (first_at es q)) ((eq_by_cmp_equiv pairs_total).symm s q)
    ∙ sym (get-insert pairs_total (from_entries es) s n q ∙ ap (cond (eq_by_cmp pair_cmp q s) (Some n)) (get_pair es q)))

-- a pair that is put in twice has the last of the two
back : (b : Bool) (o : Option First) (given first : First) → (b ≡ true → o ≡ Some first) → cond b (Some first) (cond b (Some given) o) ≡ o
back true o given first h = sym (h refl)
back false o given first h = refl

-- the first line that is put back
pub put_back : (m : FirstMap) (s : ℕ × ℕ) (given first : First) → get m s ≡ Some first → insert (insert m s given) s first ≡ m
put_back m s given first stands = same_map pairs_total exact_pair _ _ (λ q.
    get-insert pairs_total (insert m s given) s first q
    ∙ ap (cond (eq_by_cmp pair_cmp q s) (Some first)) (get-insert pairs_total m s given q)
    ∙ back (eq_by_cmp pair_cmp q s) (get m q) given first (λ h. ap (get m) (same_pair q s h) ∙ stands))

pub not_some : (o : Option First) → o ≡ None → IsSome o → ⊥
not_some None e h = cc
not_some (Some x) e h = cc

-- no pairs
pub no_pairs : ArePairs empty 0
no_pairs = record {
  lower = λ q h. absurd (not_some (get empty q) (get-empty {X = First} pair_cmp q) h);
  counted = sym (len-empty pair_cmp First);
  few = omega arith;
}

rising : (b : Bool) (o : Option First) (given : First) (q : ℕ × ℕ) (lo hi : ℕ) → (b ≡ true → q ≡ (lo, hi)) → (IsSome o → q.0 < q.1) → lo < hi → IsSome (cond b (Some given) o) → q.0 < q.1
rising true o given q lo hi same lower rises h = let e = same refl in rw e rises
rising false o given q lo hi same lower rises h = lower h

-- one pair more
pub one_more : (m : FirstMap) (count lo hi : ℕ) (given : First) → ArePairs m count → lo < hi → get m (lo, hi) ≡ None → count < 1500000 → ArePairs (insert m (lo, hi) given) (count + 1)
one_more m count lo hi given pairs rises new room = record {
  lower = λ q h. rising (eq_by_cmp pair_cmp q (lo, hi)) (get m q) given q lo hi (same_pair q (lo, hi)) (pairs.lower q) rises (rw (get-insert pairs_total m (lo, hi) given q) at h);
  counted = rw (len-insert pairs_total m (lo, hi) given, new, ← pairs.counted) refl;
  few = omega (arith, room);
}

-- what an answer says where it can't be an error
pub ok_part : {T E : Type 0} (r : Result T E) (P Q : Type 0) → OnOk r P → OnErr r Q → (Q → ⊥) → P
ok_part (Ok x) P Q ok err no_error = ok
ok_part (Err e) P Q ok err no_error = absurd (no_error err)

-- a pair stands once it is put in
pub stands_put : (m : FirstMap) (s : ℕ × ℕ) (given : First) → get (insert m s given) s ≡ Some given
stands_put m s given = get-insert pairs_total m s given s ∙ ap (λ r. cond (is_eq r) (Some given) (get m s)) (tied_itself pairs_total s)

-- what an answer says that is tested to be no error
pub ok_by_test : {T E : Type 0} (r : Result T E) (P : Type 0) → is_ok r ≡ true → OnOk r P → P
ok_by_test (Ok x) P is ok = ok
ok_by_test (Err e) P is ok = cc
