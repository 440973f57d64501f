-- Pairs that rise, each with its first line, as a map.
use Rattle.std.proofs.Common.{◌≡◌, ℕ, List, [], ◌∷◌, length, get_or, refl, sym, ap, subst, ◌∙◌, arith, T, Result, Ok, Err, OnOk, OnErr, Some, None, IsSome, cond, All, Bool, true, false}
use Rattle.std.specs.FinMap as fin
use Rattle.std.specs.Map.{keys_of}
use Rattle.std.specs.Ordering.{eq_by_cmp, is_eq, ordering_reverse}
use Rattle.std.proofs.lemmas.List.Elements.{All-tail}
use Rattle.std.specs.List.Sorted.{IsSearchInRange, IsBinarySearchResult, IsStrictlySortedBy}
use Rattle.std.specs.declared.cmp.Ordering.TheVariants.{Less}
use Rattle.net_names.specs.Links.{pair_cmp}
use Rattle.net_names.proofs.Pairs.{exact_pair, pairs_total}
use Rattle.net_names.proofs.Rising as rising
use Rattle.caida_reader.specs.Firsts.{FirstMap}
use Rattle.caida_reader.specs.Marks.{IsMarked}
use Rattle.caida_reader.specs.Runs.{IsPast, AreMarked}
use Rattle.caida_reader.proofs.PairLemmas.{same_pair}
use Rattle.caida_reader.specs.declared.firsts.First.{First}

abbrev pub Entry : Type 0
Entry = (ℕ × ℕ) × First

abbrev key : Entry → ℕ × ℕ
key e = e.0

abbrev first_of : Entry → First
first_of e = e.1

abbrev pub run_of : List Entry → FirstMap
run_of es = fin.from_sorted {R = pair_cmp} es

itself : (es : List Entry) → rising.pairs pair_cmp key first_of es ≡ es
itself [] = refl
itself (e ∷ es) = ap (λ fs. e ∷ fs) (itself es)

none_below : (es : List Entry) (k : ℕ × ℕ) → All (λ e. pair_cmp e.0 k ≡ Less) es → fin.find pair_cmp k es ≡ None
none_below [] k below = refl
none_below (e ∷ es) k below =
    ap (λ r. cond (is_eq r) (Some e.1) (fin.find pair_cmp k es)) (pairs_total.antisymm k e.0 ∙ ap ordering_reverse (below 0 e (omega arith)))
    ∙ none_below es k (All-tail (λ (d : Entry). pair_cmp d.0 k ≡ Less) e es below)

-- a pair above all doesn't stand
pub get-past : (m : FirstMap) (k : ℕ × ℕ) → IsPast m k → fin.get m k ≡ None
get-past m k is_past = fin.get-entries m k ∙ none_below (fin.entries m) k is_past

module _ (es : List Entry) (sorted : T (fin.is_sorted pair_cmp es)) where
  rises : rising.IsRising pair_cmp key first_of es
  rises = subst (λ fs. T (fin.is_sorted pair_cmp fs)) (sym (itself es)) sorted

  pub entries-run_of : fin.entries (run_of es) ≡ es
  entries-run_of = fin.entries-from_sorted pair_cmp es sorted

  -- what a search finds
  pub found : (k : ℕ × ℕ) (at : ℕ) (d : Entry) → IsSearchInRange (Ok at) (length es) → IsBinarySearchResult (λ e. pair_cmp e.0 k) es (Ok at) → fin.get (run_of es) k ≡ Some (get_or es at d).1
  found k at d inside here =
      ap (λ fs. fin.get (run_of fs) k) (sym (itself es))
      ∙ rising.get_place pair_cmp key first_of pairs_total exact_pair es k at d rises (rising.place_by pair_cmp key first_of pairs_total exact_pair es k at inside here)

pub run_of-entries : (m : FirstMap) → run_of (fin.entries m) ≡ m
run_of-entries m = fin.same_entries_map _ _ (entries-run_of (fin.entries m) (fin.entries_sorted m))

pub entries-from_entries : (es : List Entry) → IsStrictlySortedBy pair_cmp (keys_of es) → fin.entries (fin.from_entries {R = pair_cmp} es) ≡ es
entries-from_entries es h =
    let sorted = rising.rises_strictly pair_cmp es h in
    ap (λ (m : FirstMap). fin.entries m) (fin.same_map pairs_total exact_pair _ _ (λ q. fin.get-from_entries pairs_total es q ∙ sym (fin.get-from_sorted pair_cmp es q sorted))) ∙ entries-run_of es sorted

-- what holds of each pair in the list holds of one that is found
found_holds : (P : ℕ × ℕ → Type 0) (es : List Entry) (k : ℕ × ℕ) → All (λ e. P e.0) es → IsSome (fin.find pair_cmp k es) → P k
found_holds P [] k h is = cc
found_holds P (e ∷ es) k h is = by_first (eq_by_cmp pair_cmp k e.0) refl is (found_holds P es k (All-tail (λ (d : Entry). P d.0) e es h))
  where
    by_first : (b : Bool) → eq_by_cmp pair_cmp k e.0 ≡ b → IsSome (cond b (Some e.1) (fin.find pair_cmp k es)) → (IsSome (fin.find pair_cmp k es) → P k) → P k
    by_first true ties some later = subst P (sym (same_pair k e.0 ties)) (h 0 e (omega arith))
    by_first false ties some later = later some

are_marked : (m : FirstMap) (marks : List ℕ) → All (λ e. IsMarked marks e.0) (fin.entries m) → AreMarked m marks
are_marked m marks all k is = found_holds (IsMarked marks) (fin.entries m) k all (rw fin.get-entries at is)

-- they stay so where the marks are made anew, or memory ran out
pub marked_anew : {T E : Type 0} (m : FirstMap) (old new : List ℕ) (r : Result T E) → OnOk r (All (λ e. IsMarked new e.0) (fin.entries m)) → OnErr r (new ≡ old) → AreMarked m old → AreMarked m new
marked_anew m old new (Ok x) all same before = are_marked m new all
marked_anew m old new (Err e) all same before = subst (AreMarked m) (sym same) before
