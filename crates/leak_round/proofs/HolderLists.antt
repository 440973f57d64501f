-- The ASes that hold something are listed, and sorted by the length of their paths.
use Rattle.std.proofs.Common.{◌≡◌, inl, inr, ℕ, ◌+◌, Bool, true, false, ◌&&◌, ◌==◌, cond, nat_eq, Option, Some, None, List, [], ◌∷◌, ◌++◌, length, take, filter, refl, sym, ap, subst, ◌∙◌}
use Rattle.std.specs.Prelude.{IsSome, is_some, slice_get}
use Rattle.std.specs.List.Sorted.{IsPermutation}
use Rattle.std.proofs.lemmas.Bool.{eqb-true}
use Rattle.std.proofs.lemmas.Cmp.{nat_eq_equiv}
use Rattle.std.specs.Option.{option_to_list}
use Rattle.std.proofs.lemmas.List.{append-nil, map-append}
use Rattle.std.proofs.lemmas.List.Elements.{filter-append}
use Rattle.std.proofs.lemmas.List.Sorted.{Contains-permutation, IsPermutation-map, IsPermutation-sym, list_any-IsPermutation}
use Rattle.std.proofs.lemmas.Map.Keys.{IsDistinct-IsPermutation}
use Rattle.std.proofs.lemmas.Map.Views.{any-filter_same}
use Rattle.std.proofs.lemmas.Option.{slice_get_within, slice_get-get_or, get_or_from_slice_get}
use Rattle.net_names.specs.Numbers.{occurs, IsDistinct}
use Rattle.net_names.proofs.Distinct.{apart_from_distinct, distinct_from_apart}
use Rattle.stability_laws.specs.declared.entry.Entry.{Entry}
use Rattle.stability_laws.proofs.Listing.{take_next}
use Rattle.leak_round.specs.declared.holders.Holder.{Holder}
use Rattle.leak_round.specs.Moved.{asns_of, AreHolders, IsHolder}
use Rattle.leak_round.proofs.Listing.{got_either}

module _ (f : ℕ → Option Entry) where
  -- it holds something, with a path of the length
  abbrev pub IsLong : Holder → Type 0
  IsLong x = (e : Entry) × (f x.asn ≡ Some e) × (length e.path ≡ x.length)

  occurs_held : (a : ℕ) (xs : List ℕ) → occurs a (filter (λ b. is_some (f b)) xs) ≡ (is_some (f a) && occurs a xs)
  occurs_held a xs = any-filter_same (λ b. b == a) (λ b. is_some (f b)) (is_some (f a)) (λ b same. ap (λ c. is_some (f c)) (eqb-true b a same)) xs

  held_more : (x : ℕ) (xs : List ℕ) → occurs x xs ≡ false → IsDistinct (filter (λ b. is_some (f b)) xs) → (b : Bool) → is_some (f x) ≡ b → IsDistinct (cond b (x ∷ filter (λ c. is_some (f c)) xs) (filter (λ c. is_some (f c)) xs))
  held_more x xs fresh d true e = (occurs_held x xs ∙ ap (λ c. is_some (f x) && c) fresh ∙ ap (λ c. c && false) e, d)
  held_more x xs fresh d false e = d

  held_apart : (xs : List ℕ) → IsDistinct xs → IsDistinct (filter (λ b. is_some (f b)) xs)
  held_apart [] d = tt
  held_apart (x ∷ xs) d = held_more x xs d.0 (held_apart xs d.1) (is_some (f x)) refl

  -- one AS more is looked at
  pub more_holders : (ases : List ℕ) (i a : ℕ) (xs ys : List Holder) (o : Option Holder) → slice_get ases i ≡ Some a → IsHolder f a o → ys ≡ xs ++ option_to_list o
      → asns_of xs ≡ filter (λ b. is_some (f b)) (take i ases) → ((j : ℕ) (x : Holder) → slice_get xs j ≡ Some x → IsLong x)
      → (asns_of ys ≡ filter (λ b. is_some (f b)) (take (i + 1) ases)) × ((j : ℕ) (x : Holder) → slice_get ys j ≡ Some x → IsLong x)
  more_holders ases i a xs ys o at new is before long = (
    ap asns_of is ∙ map-append (λ (x : Holder). x.asn) xs (option_to_list o) ∙ ap (λ zs. zs ++ asns_of (option_to_list o)) before ∙ ap (λ zs. filter (λ b. is_some (f b)) (take i ases) ++ zs) (one o new)
        ∙ sym (filter-append (λ b. is_some (f b)) (take i ases) (a ∷ [])) ∙ ap (filter (λ b. is_some (f b))) (sym (take_next ases i a at)),
    λ j x there. also o new j x (sym (ap (λ zs. slice_get zs j) is) ∙ there),
  )
    where
      one : (p : Option Holder) → IsHolder f a p → asns_of (option_to_list p) ≡ filter (λ b. is_some (f b)) (a ∷ [])
      one None none = sym (ap (λ (b : Bool). cond b (a ∷ []) []) (ap is_some none))
      one (Some x) (same, (e, held, length_is)) = ap (λ b. b ∷ []) same ∙ sym (ap (λ (b : Bool). cond b (a ∷ []) []) (ap is_some held))

      also : (p : Option Holder) → IsHolder f a p → (j : ℕ) (x : Holder) → slice_get (xs ++ option_to_list p) j ≡ Some x → IsLong x
      also None none j x there = long j x (sym (ap (λ zs. slice_get zs j) (append-nil xs)) ∙ there)
      also (Some y) (same, (e, held, length_is)) j x there = elim (got_either xs y j x there) [ inl old ↦ long j x old | inr here ↦ subst IsLong here (e, ap f same ∙ held, length_is) ]

  -- all are looked at
  pub all_holders : (ases : List ℕ) (xs : List Holder) → IsDistinct ases → ((a : ℕ) → IsSome (f a) → occurs a ases ≡ true) → asns_of xs ≡ filter (λ b. is_some (f b)) ases → ((i : ℕ) (y : Holder) → slice_get xs i ≡ Some y → IsLong y) → AreHolders f xs
  all_holders ases xs apart among is long = record {
    whole = λ a h. ap (occurs a) is ∙ occurs_held a ases ∙ ap (λ b. b && occurs a ases) h ∙ among a h;
    apart = subst IsDistinct (sym is) (held_apart ases apart);
    entries = long;
  }

  -- in another order they are the same
  pub holders_sorted : (xs ys : List Holder) → IsPermutation xs ys → AreHolders f xs → AreHolders f ys
  holders_sorted xs ys moved h = record {
    whole = λ a held. sym (list_any-IsPermutation (λ b. b == a) (asns_of xs) (asns_of ys) same) ∙ h.whole a held;
    apart = distinct_from_apart (asns_of ys) (IsDistinct-IsPermutation nat_eq (λ x y. nat_eq_equiv.symm x y) (asns_of xs) (asns_of ys) same (apart_from_distinct (asns_of xs) h.apart));
    entries = λ i y at.
        (let (k, less, is) = Contains-permutation ys xs y (IsPermutation-sym xs ys moved) (i, slice_get_within ys i y at, get_or_from_slice_get ys i y y at) in
        h.entries k y (slice_get-get_or xs k y less ∙ ap (λ z. Some z) is));
  }
    where
      same : IsPermutation (asns_of xs) (asns_of ys)
      same = IsPermutation-map (λ (x : Holder). x.asn) xs ys moved
