-- The links of pairs that come in rising order.
use Rattle.std.proofs.Common.{◌≡◌, ℕ, ◌<◌, Bool, true, false, cond, List, [], ◌∷◌, ◌++◌, map, Option, Some, None, refl, sym, ap, ◌∙◌}
use Rattle.std.specs.List.{AllByRecursion}
use Rattle.std.specs.List.Sorted.{IsStrictlySortedBy}
use Rattle.std.specs.Map.{keys_of}
use Rattle.std.specs.Option.{option_map}
use Rattle.std.specs.Ordering.{eq_by_cmp, is_eq, ordering_reverse}
use Rattle.std.specs.declared.cmp.Ordering.TheVariants.{Less}
use Rattle.std.proofs.lemmas.Map.Keys.{sorted_head, sorted_tail}
use Rattle.std.proofs.lemmas.Bool.{lt-ltb}
use Rattle.std.proofs.lemmas.List.{map-append}
use Rattle.std.specs.FinMap.{find, get, entries, from_entries, get-from_entries, get-entries, same_map, from_entries_push}
use Rattle.net_names.specs.Links.{pair_cmp, with_relation}
use Rattle.net_names.proofs.Pairs.{exact_pair, pairs_total}
use Rattle.caida_reader.specs.Firsts.{FirstMap, relations, link_at}
use Rattle.caida_reader.specs.declared.firsts.First.{First}

abbrev Entries : Type 0
Entries = List ((ℕ × ℕ) × First)

key_in_the_middle : (P : ℕ × ℕ → Type 0) (es : Entries) (e : (ℕ × ℕ) × First) (fs : Entries) → AllByRecursion P (keys_of (es ++ e ∷ fs)) → P e.0
key_in_the_middle P [] e fs h = h.0
key_in_the_middle P (d ∷ es) e fs h = key_in_the_middle P es e fs h.1

-- among rising pairs, none before one is the same
none_before : (es : Entries) (e : (ℕ × ℕ) × First) (fs : Entries) → IsStrictlySortedBy pair_cmp (keys_of (es ++ e ∷ fs)) → find pair_cmp e.0 (map link_at es) ≡ None
none_before [] e fs h = refl
none_before (d ∷ es) e fs h =
    let less : pair_cmp d.0 e.0 ≡ Less = key_in_the_middle (λ pair. pair_cmp d.0 pair ≡ Less) es e fs (sorted_head pair_cmp d.0 (keys_of (es ++ e ∷ fs)) h) in
    ap (λ r. cond (is_eq r) (Some d.1.rel) (find pair_cmp e.0 (map link_at es))) (pairs_total.antisymm e.0 d.0 ∙ ap ordering_reverse less)
    ∙ none_before es e fs (sorted_tail pair_cmp d.0 (keys_of (es ++ e ∷ fs)) h)

-- the links of rising pairs with the next one
pub one_link_more : (all es fs : Entries) (e : (ℕ × ℕ) × First) → all ≡ es ++ e ∷ fs → IsStrictlySortedBy pair_cmp (keys_of all) → e.0.0 < e.0.1
    → with_relation (from_entries (map link_at es)) e.0.0 e.0.1 e.1.rel ≡ from_entries {R = pair_cmp} (map link_at (es ++ e ∷ []))
one_link_more all es fs e is rising lower =
    let none = none_before es e fs (rw is at rising) in
    rw (lt-ltb e.0.0 e.0.1 lower, map-append) (sym (from_entries_push pairs_total exact_pair (map link_at es) e.0 e.1.rel none))

cond-map : (b : Bool) (f : First) (o : Option First) → option_map (λ (g : First). g.rel) (cond b (Some f) o) ≡ cond b (Some f.rel) (option_map (λ (g : First). g.rel) o)
cond-map true f o = refl
cond-map false f o = refl

find-link_at : (es : Entries) (q : ℕ × ℕ) → find pair_cmp q (map link_at es) ≡ option_map (λ (f : First). f.rel) (find pair_cmp q es)
find-link_at [] q = refl
find-link_at (e ∷ es) q = ap (cond (eq_by_cmp pair_cmp q e.0) (Some e.1.rel)) (find-link_at es q) ∙ sym (cond-map (eq_by_cmp pair_cmp q e.0) e.1 (find pair_cmp q es))

-- what the links have at a pair
pub get-relations : (m : FirstMap) (q : ℕ × ℕ) → get (relations m) q ≡ option_map (λ (f : First). f.rel) (get m q)
get-relations m q = get-from_entries pairs_total (map link_at (entries m)) q ∙ find-link_at (entries m) q ∙ ap (option_map (λ (f : First). f.rel)) (sym (get-entries m q))

pub relations-from_entries : (es : Entries) → from_entries {R = pair_cmp} (map link_at es) ≡ relations (from_entries es)
relations-from_entries es = same_map pairs_total exact_pair _ _ (λ q.
    get-from_entries pairs_total (map link_at es) q ∙ find-link_at es q
    ∙ ap (option_map (λ (f : First). f.rel)) (sym (get-from_entries pairs_total es q))
    ∙ sym (get-relations (from_entries es) q))
