-- Which lines have links: from the lines in front to all of them, and back.
use Rattle.std.proofs.Common.{◌≡◌, ◌≢◌, ℕ, ◌+◌, ◌≤◌, inl, inr, List, [], ◌∷◌, ◌++◌, length, length-append, All, Contains, Option, Some, None, refl, sym, ap, subst, ◌∙◌, arith, append-nil, append_assoc}
use Rattle.std.proofs.lemmas.List.Elements.{All-nil, All-push, All-contains, Contains-push, Contains-push_cases, Contains-append_left}
use Rattle.std.proofs.lemmas.List.{get_or_append_left}
use Rattle.std.specs.FinMap.{get, len, len-insert, len-empty}
use Rattle.std.specs.Option.{option_or}
use Rattle.net_names.specs.Links.{pair_cmp}
use Rattle.net_names.proofs.Pairs.{pairs_total}
use Rattle.net_names.specs.declared.routes.Rel.{Rel}
use Rattle.caida_reader.specs.Value.{links_in, fault_after}
use Rattle.caida_reader.specs.Firsts.{FirstMap, firsts, with_first, with_said}
use Rattle.caida_reader.specs.Laws.{HasLinks}
use Rattle.caida_reader.specs.declared.line.Line.{Line}
use Rattle.caida_reader.specs.declared.line.Line.TheVariants.{Skipped, Unreadable, SelfLink, Link}
use Rattle.caida_reader.specs.declared.firsts.First.{First}
use Rattle.caida_reader.proofs.Values.{first_fault, firsts-push}
use Rattle.caida_reader.proofs.Given.{len-links_in, agree_with, fine_if, few_if}

-- ---- the number of pairs
len-push : (before : List Line) (said : Line) → len (links_in (before ++ said ∷ [])) ≡ len (with_said (firsts before) (length before + 1) said)
len-push before said = len-links_in (before ++ said ∷ []) ∙ ap (λ (m : FirstMap). len m) (firsts-push before said)

-- ---- a line behind lines that have links
readable_if : (before : List Line) (said : Line) → fault_after before said ≡ None → (said ≢ Unreadable) × (said ≢ SelfLink)
readable_if before Skipped h = ((λ e. cc), λ e. cc)
readable_if before Unreadable h = cc
readable_if before SelfLink h = cc
readable_if before (Link lo hi rel) h = ((λ e. cc), λ e. cc)

few_push : (before : List Line) (said : Line) → len (firsts before) ≤ 1500000 → fault_after before said ≡ None → len (with_said (firsts before) (length before + 1) said) ≤ 1500000
few_push before Skipped few h = few
few_push before Unreadable few h = few
few_push before SelfLink few h = few
few_push before (Link lo hi rel) few h = few_if before lo hi rel (get (firsts before) (lo, hi)) refl few h

module _ (before : List Line) (h : HasLinks before) where
  new_agrees : (said : Line) (lo hi : ℕ) (rel other : Rel) → said ≡ Link lo hi rel → fault_after before said ≡ None → Contains before (Link lo hi other) → other ≡ rel
  new_agrees said lo hi rel other is fine given = agree_with before lo hi rel h other given (get (firsts before) (lo, hi)) refl (rw is at fine)

  agree_push : (said : Line) → fault_after before said ≡ None → (lo hi : ℕ) (rel other : Rel) → Contains (before ++ said ∷ []) (Link lo hi rel) → Contains (before ++ said ∷ []) (Link lo hi other) → rel ≡ other
  agree_push said fine lo hi rel other one two =
      elim (Contains-push_cases before said (Link lo hi rel) one) as (λ _. rel ≡ other) [
        | inl a ↦ elim (Contains-push_cases before said (Link lo hi other) two) as (λ _. rel ≡ other) [
          | inl b ↦ h.agree lo hi rel other a b
          | inr e ↦ new_agrees said lo hi other rel e fine a
        ]
        | inr d ↦ elim (Contains-push_cases before said (Link lo hi other) two) as (λ _. rel ≡ other) [
          | inl b ↦ sym (new_agrees said lo hi rel other d fine b)
          | inr e ↦ let same : Link lo hi rel ≡ Link lo hi other = sym d ∙ e in cc
        ]
      ]

  pub HasLinks-push : (said : Line) → fault_after before said ≡ None → HasLinks (before ++ said ∷ [])
  HasLinks-push said fine = record {
    readable = All-push (λ line. line ≢ Unreadable) before said h.readable (readable_if before said fine).0;
    apart = All-push (λ line. line ≢ SelfLink) before said h.apart (readable_if before said fine).1;
    agree = agree_push said fine;
    few = rw (len-push before said) (few_push before said (rw (len-links_in before) at h.few) fine);
  }

-- a line without a fault, where all lines up to it have links
pub fine_of_HasLinks : (before : List Line) (said : Line) → HasLinks (before ++ said ∷ []) → fault_after before said ≡ None
fine_of_HasLinks before Skipped h = refl
fine_of_HasLinks before Unreadable h = absurd (All-contains (λ line. line ≢ Unreadable) (before ++ Unreadable ∷ []) Unreadable h.readable (Contains-push before Unreadable) refl)
fine_of_HasLinks before SelfLink h = absurd (All-contains (λ line. line ≢ SelfLink) (before ++ SelfLink ∷ []) SelfLink h.apart (Contains-push before SelfLink) refl)
fine_of_HasLinks before (Link lo hi rel) h = fine_if before lo hi rel h (get (firsts before) (lo, hi)) refl (rw (len-push before (Link lo hi rel)) at h.few)

-- ---- lines in front
All-front : {X : Type 0} (P : X → Type 0) (xs ys : List X) → All P (xs ++ ys) → All P xs
All-front P xs ys h k d l = subst P (get_or_append_left xs ys d k l) (h k d (let n = length-append xs ys in omega (arith, l, n)))

len-with_first : (m : FirstMap) (k : ℕ × ℕ) (v : First) → len m ≤ len (with_first m k v)
len-with_first m k v = by_found (get m k) refl
  where
    by_found : (o : Option First) → get m k ≡ o → len m ≤ len (with_first m k v)
    by_found None is = rw (is, len-insert pairs_total m k v, is) (omega arith)
    by_found (Some x) is = rw is (omega arith)

len-with_said : (m : FirstMap) (line : ℕ) (said : Line) → len m ≤ len (with_said m line said)
len-with_said m line Skipped = omega arith
len-with_said m line Unreadable = omega arith
len-with_said m line SelfLink = omega arith
len-with_said m line (Link lo hi rel) = len-with_first m (lo, hi) (record { rel = rel; line = line })

len-front : (xs ys : List Line) → len (firsts xs) ≤ len (firsts (xs ++ ys))
len-front xs [] = rw (append-nil xs) (omega arith)
len-front xs (y ∷ ys) =
    let step : len (firsts xs) ≤ len (firsts (xs ++ y ∷ [])) = rw (firsts-push xs y) (len-with_said (firsts xs) (length xs + 1) y) in
    let rest : len (firsts (xs ++ y ∷ [])) ≤ len (firsts (xs ++ y ∷ ys)) = rw (append_assoc xs (y ∷ []) ys) at (len-front (xs ++ y ∷ []) ys) in
    omega (arith, step, rest)

pub HasLinks-front : (xs ys : List Line) → HasLinks (xs ++ ys) → HasLinks xs
HasLinks-front xs ys h = record {
  readable = All-front (λ line. line ≢ Unreadable) xs ys h.readable;
  apart = All-front (λ line. line ≢ SelfLink) xs ys h.apart;
  agree = λ lo hi rel other a b. h.agree lo hi rel other (Contains-append_left xs ys _ a) (Contains-append_left xs ys _ b);
  few = let all : len (firsts (xs ++ ys)) ≤ 1500000 = rw (len-links_in (xs ++ ys)) at h.few in rw (len-links_in xs) (let front = len-front xs ys in omega (arith, front, all));
}

pub nothing_has_links : HasLinks []
nothing_has_links = record {
  readable = All-nil (λ line. line ≢ Unreadable);
  apart = All-nil (λ line. line ≢ SelfLink);
  agree = λ lo hi rel other a b. absurd (omega (arith, a.1));
  few = rw (len-empty pair_cmp Rel) (omega arith);
}

-- ---- all lines
both_none : {A : Type 0} (f g : Option A) → option_or f g ≡ None → (f ≡ None) × (g ≡ None)
both_none None g h = (refl, h)
both_none (Some e) g h = cc

pub HasLinks-from_faultless : (before more : List Line) → HasLinks before → first_fault before more ≡ None → HasLinks (before ++ more)
HasLinks-from_faultless before [] h none = rw (append-nil before) h
HasLinks-from_faultless before (said ∷ more) h none =
    let parts = both_none (fault_after before said) (first_fault (before ++ said ∷ []) more) none in
    rw (append_assoc before (said ∷ []) more) at (HasLinks-from_faultless (before ++ said ∷ []) more (HasLinks-push before h said parts.0) parts.1)

pub faultless_of_HasLinks : (before more : List Line) → HasLinks (before ++ more) → first_fault before more ≡ None
faultless_of_HasLinks before [] h = refl
faultless_of_HasLinks before (said ∷ more) h =
    let all : HasLinks ((before ++ said ∷ []) ++ more) = rw (append_assoc before (said ∷ []) more) h in
    let here = fine_of_HasLinks before said (HasLinks-front (before ++ said ∷ []) more all) in
    rw here (faultless_of_HasLinks (before ++ said ∷ []) more all)
