-- Entries whose pairs rise, as a map.
use Rattle.std.proofs.Common.{◌≡◌, ℕ, ◌-◌, ◌<◌, List, [], ◌∷◌, ◌++◌, map, length, get_or, sym, ap, subst, ◌∙◌, arith, T, Ok, Err, Some, None, All}
use Rattle.std.specs.FinMap as fin
use Rattle.std.specs.List.{insert, HoldsAt}
use Rattle.std.specs.List.Sorted.{IsSearchInRange, IsBinarySearchResult}
use Rattle.std.specs.declared.cmp.Ordering.TheVariants.{Less}
use Rattle.std.proofs.lemmas.List.{get_or-map, length-map}
use Rattle.std.proofs.lemmas.List.Edits.{insert_end}
use Rattle.std.proofs.lemmas.List.Elements.{All-map}
use Rattle.net_names.specs.Links.{pair_cmp}
use Rattle.net_names.proofs.Pairs.{exact_pair, pairs_total}
use Rattle.net_names.proofs.Rising as rising
use Rattle.caida_reader.specs.Firsts.{FirstMap}
use Rattle.caida_reader.specs.Entries.{entry_of, first_in}
use Rattle.caida_reader.specs.Marks.{IsMarked}
use Rattle.caida_reader.specs.Runs.{IsPast}
use Rattle.caida_reader.specs.declared.firsts.First.{First}
use Rattle.caida_reader.specs.declared.entry.Entry.{Entry}

abbrev key : Entry → ℕ × ℕ
key e = (e.a, e.b)

abbrev first : Entry → First
first e = first_in e.first

abbrev pub map_of : List Entry → FirstMap
map_of es = fin.from_sorted {R = pair_cmp} (map entry_of es)

module _ (es : List Entry) (sorted : T (fin.is_sorted pair_cmp (map entry_of es))) where
  pub entries-map_of : fin.entries (map_of es) ≡ map entry_of es
  entries-map_of = fin.entries-from_sorted pair_cmp (map entry_of es) sorted

  gap : (k : ℕ × ℕ) (at : ℕ) → IsSearchInRange (Err at) (length es) → IsBinarySearchResult (λ e. pair_cmp (key e) k) es (Err at) → rising.IsGap pair_cmp key first es k at
  gap k at inside here = rising.gap_by pair_cmp key first pairs_total exact_pair es k at sorted inside here

  -- a pair above the last one
  pub past : (k : ℕ × ℕ) → (0 < length es → HoldsAt (λ e. pair_cmp (key e) k ≡ Less) es (length es - 1)) → IsPast (map_of es) k
  past k last =
      let all : All (λ (e : Entry). pair_cmp (key e) k ≡ Less) es = λ j d lt. (gap k (length es) (omega arith) (rising.all_below (λ (e : Entry). pair_cmp (key e) k) es (last (omega (arith, lt))))).below j d lt lt in
      subst (λ (fs : List ((ℕ × ℕ) × First)). All (λ e. pair_cmp e.0 k ≡ Less) fs) (sym entries-map_of) (All-map (λ (e : (ℕ × ℕ) × First). pair_cmp e.0 k ≡ Less) entry_of es all)

  -- what a search finds
  pub found : (k : ℕ × ℕ) (at : ℕ) (d : Entry) → IsSearchInRange (Ok at) (length es) → IsBinarySearchResult (λ e. pair_cmp (key e) k) es (Ok at) → fin.get (map_of es) k ≡ Some (first_in (get_or es at d).first)
  found k at d inside here = rising.get_place pair_cmp key first pairs_total exact_pair es k at d sorted (rising.place_by pair_cmp key first pairs_total exact_pair es k at inside here)

  pub missed : (k : ℕ × ℕ) (at : ℕ) → IsSearchInRange (Err at) (length es) → IsBinarySearchResult (λ e. pair_cmp (key e) k) es (Err at) → fin.get (map_of es) k ≡ None
  missed k at inside here = rising.get_gap pair_cmp key first pairs_total exact_pair es k at sorted (gap k at inside here)

  module _ (e : Entry) (is_past : IsPast (map_of es) (key e)) where
    below : (j : ℕ) (d : Entry) → j < length es → pair_cmp (key (get_or es j d)) (key e) ≡ Less
    below j d lt =
        let all = subst (λ (fs : List ((ℕ × ℕ) × First)). All (λ f. pair_cmp f.0 (key e) ≡ Less) fs) entries-map_of is_past in
        let inside : j < length (map entry_of es) = omega (arith, lt, length-map es entry_of) in
        subst (λ (f : (ℕ × ℕ) × First). pair_cmp f.0 (key e) ≡ Less) (get_or-map entry_of es j d (entry_of d) lt) (all j (entry_of d) inside)

    at_end : rising.IsGap pair_cmp key first es (key e) (length es)
    at_end = record { inside = omega arith; below = λ j d lt inside. below j d inside; above = λ j d le inside. absurd (omega (arith, le, inside)) }

    pushed : insert es (length es) e ≡ es ++ e ∷ []
    pushed = insert_end es e

    pub sorted-push : T (fin.is_sorted pair_cmp (map entry_of (es ++ e ∷ [])))
    sorted-push = subst (λ (fs : List Entry). T (fin.is_sorted pair_cmp (map entry_of fs))) pushed (rising.rising_insert pair_cmp key first pairs_total exact_pair es e (length es) sorted at_end)

    pub map_of-push : map_of (es ++ e ∷ []) ≡ fin.insert (map_of es) (key e) (first e)
    map_of-push = ap map_of (sym pushed) ∙ rising.map_insert pair_cmp key first pairs_total exact_pair es e (length es) sorted at_end

pub map_of-nothing : map_of [] ≡ fin.empty
map_of-nothing = fin.empty_of_len (map_of []) (fin.len-entries (map_of []) ∙ ap (λ (es : List ((ℕ × ℕ) × First)). length es) (entries-map_of [] tt))

-- marks of all entries are marks of their pairs
pub marked_pairs : (marks : List ℕ) (es : List Entry) → All (λ e. IsMarked marks (e.a, e.b)) es → All (λ e. IsMarked marks e.0) (map entry_of es)
marked_pairs marks es all = All-map (λ (e : (ℕ × ℕ) × First). IsMarked marks e.0) entry_of es all
