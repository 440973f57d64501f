-- Lists of the links of pairs.
use Rattle.std.proofs.Common.{◌≡◌, ℕ, ◌<◌, ◌↔◌, ◌⊎◌, Bool, true, false, cond, T, List, [], ◌∷◌, ◌++◌, map, length, get_or, Contains, Option, Some, None, IsSome, refl, sym, ap, subst, ◌∙◌, arith, inl, inr}
use Rattle.std.specs.Option.{option_map}
use Rattle.std.specs.Ordering.{eq_by_cmp}
use Rattle.std.specs.Cmp.{tied_itself}
use Rattle.std.specs.List.Sorted.{IsStrictlySortedBy}
use Rattle.std.specs.Map.{keys_of}
use Rattle.std.specs.FinMap as fin
use Rattle.std.proofs.lemmas.List.{get_or-map, get_or_default, length-map}
use Rattle.std.proofs.lemmas.List.Elements.{Contains-append_left, Contains-append_right, Contains-append_cases}
use Rattle.std.specs.Option.{option_or}
use Rattle.net_names.specs.Links.{pair_cmp}
use Rattle.net_names.specs.declared.routes.Rel.{Rel}
use Rattle.net_names.specs.declared.links.Link.{Link}
use Rattle.net_names.proofs.Pairs.{pairs_total}
use Rattle.caida_reader.specs.Firsts.{FirstMap, relations}
use Rattle.caida_reader.specs.Runs.{joined, turned, all_turned, AreApart, link_of, Lists}
use Rattle.caida_reader.specs.declared.firsts.First.{First}
use Rattle.caida_reader.proofs.PairLemmas.{same_pair}
use Rattle.caida_reader.proofs.LinkLemmas.{get-relations}
use Rattle.caida_reader.proofs.RunLemmas.{Entry, run_of, run_of-entries, entries-from_entries, found}
use Rattle.caida_reader.proofs.JoinLemmas.{get-joined, get-all_turned}
use Rattle.caida_reader.proofs.Given.{Contains-here, Contains-there}

abbrev pub its_rel : Option First → Option Rel
its_rel o = option_map (λ (f : First). f.rel) o

-- links that are made of entries, and the one link that the entries at a pair with a relation make
module _ (make : Entry → Link) (q : ℕ × ℕ) (rel : Rel) (l : Link) (makes : (e : Entry) → e.0 ≡ q → e.1.rel ≡ rel → make e ≡ l) (gives : (e : Entry) → make e ≡ l → (e.0 ≡ q) × (e.1.rel ≡ rel)) where
  listed : (es : List Entry) → its_rel (fin.find pair_cmp q es) ≡ Some rel → Contains (map make es) l
  listed [] h = cc
  listed (e ∷ es) h = by_first (eq_by_cmp pair_cmp q e.0) refl h (listed es)
    where
      by_first : (b : Bool) → eq_by_cmp pair_cmp q e.0 ≡ b → its_rel (cond b (Some e.1) (fin.find pair_cmp q es)) ≡ Some rel → (its_rel (fin.find pair_cmp q es) ≡ Some rel → Contains (map make es) l) → Contains (make e ∷ map make es) l
      by_first true ties is later = let same : e.1.rel ≡ rel = cc in subst (Contains (make e ∷ map make es)) (makes e (sym (same_pair q e.0 ties)) same) (Contains-here (make e) (map make es))
      by_first false ties is later = Contains-there (make e) l (map make es) (later is)

  pub found_listed : (es : List Entry) (sorted : T (fin.is_sorted pair_cmp es)) → (its_rel (fin.get (run_of es) q) ≡ Some rel) ↔ Contains (map make es) l
  found_listed es sorted = (to, from)
    where
      to : its_rel (fin.get (run_of es) q) ≡ Some rel → Contains (map make es) l
      to h = listed es (ap its_rel (sym (fin.get-from_sorted pair_cmp es q sorted)) ∙ h)

      from : Contains (map make es) l → its_rel (fin.get (run_of es) q) ≡ Some rel
      from h =
          let none : Entry = (q, record { rel = rel; line = 0 }) in
          let inside : h.0 < length es = omega (arith, h.1, length-map es make) in
          let parts = gives (get_or es h.0 none) (sym (get_or-map make es h.0 none l inside) ∙ h.2) in
          let here = λ (d : Entry). ap (λ (e : Entry). pair_cmp e.0 q) (get_or_default es h.0 d none inside) ∙ ap (λ k. pair_cmp k q) parts.0 ∙ tied_itself pairs_total q in
          ap its_rel (found es sorted q h.0 none inside here) ∙ ap (λ r. Some r) parts.1

abbrev link : ℕ × ℕ → Rel → Link
link pair rel = record { lo = pair.0; hi = pair.1; rel = rel }

its_ends : (l m : Link) → l ≡ m → ◌≡◌ {A = ℕ × ℕ} (l.lo, l.hi) (m.lo, m.hi) × (l.rel ≡ m.rel)
its_ends l m e = (ap (λ (x : Link). (x.lo, x.hi)) e, ap (λ (x : Link). x.rel) e)

pub lists-entries : (m : FirstMap) → Lists (map link_of (fin.entries m)) m
lists-entries m lo hi rel = (λ h. listed.0 (ap its_rel at_run ∙ sym (get-relations m (lo, hi)) ∙ h), λ h. get-relations m (lo, hi) ∙ ap its_rel (sym at_run) ∙ listed.1 h)
  where
    at_run : fin.get (run_of (fin.entries m)) (lo, hi) ≡ fin.get m (lo, hi)
    at_run = ap (λ (n : FirstMap). fin.get n (lo, hi)) (run_of-entries m)

    listed : (its_rel (fin.get (run_of (fin.entries m)) (lo, hi)) ≡ Some rel) ↔ Contains (map link_of (fin.entries m)) (link (lo, hi) rel)
    listed = found_listed link_of (lo, hi) rel (link (lo, hi) rel)
        (λ e k r. ap (λ p. link p e.1.rel) k ∙ ap (link (lo, hi)) r)
        (λ e is. its_ends (link_of e) (link (lo, hi) rel) is)
        (fin.entries m) (fin.entries_sorted m)

pub lists-rising : (es : List Entry) → IsStrictlySortedBy pair_cmp (keys_of es) → Lists (map link_of es) (fin.from_entries es)
lists-rising es h = subst (λ fs. Lists (map link_of fs) (fin.from_entries es)) (entries-from_entries es h) (lists-entries (fin.from_entries es))

pub lists-all_turned : (m : FirstMap) → Lists (map (λ e. link_of (turned e)) (fin.entries m)) (all_turned m)
lists-all_turned m lo hi rel = (λ h. listed.0 (at_run ∙ h), λ h. sym at_run ∙ listed.1 h)
  where
    at_run : its_rel (fin.get (run_of (fin.entries m)) (hi, lo)) ≡ fin.get (relations (all_turned m)) (lo, hi)
    at_run = ap (λ (n : FirstMap). its_rel (fin.get n (hi, lo))) (run_of-entries m) ∙ ap its_rel (sym (get-all_turned m lo hi)) ∙ sym (get-relations (all_turned m) (lo, hi))

    listed : (its_rel (fin.get (run_of (fin.entries m)) (hi, lo)) ≡ Some rel) ↔ Contains (map (λ e. link_of (turned e)) (fin.entries m)) (link (lo, hi) rel)
    listed = found_listed (λ e. link_of (turned e)) (hi, lo) rel (link (lo, hi) rel)
        (λ e k r. ap (λ (p : ℕ × ℕ). link (p.1, p.0) e.1.rel) k ∙ ap (link (lo, hi)) r)
        (λ e is. let parts = its_ends (link_of (turned e)) (link (lo, hi) rel) is in (ap (λ (p : ℕ × ℕ). (p.1, p.0)) parts.0, parts.1))
        (fin.entries m) (fin.entries_sorted m)

either_rel : (o p : Option First) → its_rel (option_or o p) ≡ option_or (its_rel o) (its_rel p)
either_rel None p = refl
either_rel (Some x) p = refl

either_some : (o p : Option Rel) (rel : Rel) → option_or o p ≡ Some rel → (o ≡ Some rel) ⊎ (p ≡ Some rel)
either_some None p rel h = inr h
either_some (Some x) p rel h = inl h

pub some_rel : (o : Option First) (rel : Rel) → its_rel o ≡ Some rel → IsSome o
some_rel None rel h = cc
some_rel (Some x) rel h = refl

pub lists-joined : (xs ys : List Link) (a b : FirstMap) → AreApart a b → Lists xs a → Lists ys b → Lists (xs ++ ys) (joined a b)
lists-joined xs ys a b apart front back lo hi rel = (to, from)
  where
    l : Link
    l = link (lo, hi) rel

    rel_of : FirstMap → Option Rel
    rel_of m = fin.get (relations m) (lo, hi)

    both : rel_of (joined a b) ≡ option_or (rel_of a) (rel_of b)
    both =
        get-relations (joined a b) (lo, hi) ∙ ap its_rel (get-joined a b (lo, hi)) ∙ either_rel (fin.get a (lo, hi)) (fin.get b (lo, hi))
        ∙ ap (λ o. option_or o (its_rel (fin.get b (lo, hi)))) (sym (get-relations a (lo, hi))) ∙ ap (option_or (rel_of a)) (sym (get-relations b (lo, hi)))

    to : rel_of (joined a b) ≡ Some rel → Contains (xs ++ ys) l
    to h = elim (either_some (rel_of a) (rel_of b) rel (sym both ∙ h)) as (λ _. Contains (xs ++ ys) l) [
      | inl e ↦ Contains-append_left xs ys l ((front lo hi rel).0 e)
      | inr e ↦ Contains-append_right xs ys l ((back lo hi rel).0 e)
    ]

    from : Contains (xs ++ ys) l → rel_of (joined a b) ≡ Some rel
    from h = elim (Contains-append_cases xs ys l h) as (λ _. rel_of (joined a b) ≡ Some rel) [
      | inl in_front ↦ both ∙ ap (λ o. option_or o (rel_of b)) ((front lo hi rel).1 in_front)
      | inr behind ↦
          let there = (back lo hi rel).1 behind in
          let none = apart (lo, hi) (some_rel (fin.get b (lo, hi)) rel (sym (get-relations b (lo, hi)) ∙ there)) in
          both ∙ ap (λ o. option_or o (rel_of b)) (get-relations a (lo, hi) ∙ ap its_rel none) ∙ there
    ]
