-- The numbers of a path, one after the other.
use Rattle.std.proofs.Common.{◌≡◌, ℕ, ◌+◌, ◌<◌, ◌≤◌, Bool, true, false, List, [], ◌∷◌, ◌++◌, length, take, drop, map, Option, Some, None, option_map, refl, ap, sym, ◌∙◌, append_assoc, arith}
use Rattle.std.proofs.lemmas.List.{length-drop, length-take}
use Rattle.std.specs.Bool.{then_some}
use Rattle.std.specs.List.{list_all}
use Rattle.std.specs.Option.{is_some, some_prefix}
use Rattle.net_names.specs.Texts.{asn_of, cut_at, fields}
use Rattle.net_names.proofs.Cuts.{fields_uncut, fields_cut}
use Rattle.table_check.specs.Forms.{numbers_of}

-- the values, where each is one
abbrev pub all_some : List (Option ℕ) → Option (List ℕ)
all_some os = then_some (list_all is_some os) (some_prefix os)

-- the numbers that the rest of the text writes, behind those so far
abbrev pub numbers_on : List ℕ → List ℕ → Option (List ℕ)
numbers_on front text = option_map (λ ns. front ++ ns) (numbers_of text)

pub starts : (text : List ℕ) → numbers_on [] text ≡ numbers_of text
starts text = at_start (numbers_of text)
  where
    at_start : (o : Option (List ℕ)) → option_map (λ ns. [] ++ ns) o ≡ o
    at_start None = refl
    at_start (Some ns) = refl

push : (front : List ℕ) (n : ℕ) (b : Bool) (ns : List ℕ) → option_map (λ ns. front ++ ns) (then_some b (n ∷ ns)) ≡ option_map (λ ns. (front ++ n ∷ []) ++ ns) (then_some b ns)
push front n false ns = refl
push front n true ns = ap (λ (xs : List ℕ). Some xs) (sym (append_assoc front (n ∷ []) ns))

module _ (front rest word more : List ℕ) (whole : Option (List ℕ)) (c : Some (word, more) ≡ cut_at 32 rest) (so_far : numbers_on front rest ≡ whole) where
  pub goes_on : (n : ℕ) → Some n ≡ asn_of word → numbers_on (front ++ n ∷ []) more ≡ whole
  goes_on n e =
      let os = map asn_of (fields 32 more) in
      let one : numbers_on front rest ≡ option_map (λ ns. front ++ ns) (then_some (list_all is_some os) (n ∷ some_prefix os)) = rw (fields_cut 32 rest word more (sym c), ← e) refl in
      sym (push front n (list_all is_some os) (some_prefix os)) ∙ sym one ∙ so_far

  pub stops : None ≡ asn_of word → None ≡ whole
  stops e = let one : numbers_on front rest ≡ None = rw (fields_cut 32 rest word more (sym c), ← e) refl in sym one ∙ so_far

module _ (front rest : List ℕ) (whole : Option (List ℕ)) (c : None ≡ cut_at 32 rest) (so_far : numbers_on front rest ≡ whole) where
  pub unread : None ≡ asn_of rest → None ≡ whole
  unread e = let one : numbers_on front rest ≡ None = rw (fields_uncut 32 rest (sym c), ← e) refl in sym one ∙ so_far

  pub last : (n : ℕ) → Some n ≡ asn_of rest → Some (front ++ n ∷ []) ≡ whole
  last n e = let one : numbers_on front rest ≡ Some (front ++ n ∷ []) = rw (fields_uncut 32 rest (sym c), ← e) refl in sym one ∙ so_far

after_place : (text word more : List ℕ) (o : Option ℕ) → 0 < length text → ◌≡◌ {A = Option (List ℕ × List ℕ)} (Some (word, more)) (option_map (λ (i : ℕ). (take i text, drop (i + 1) text)) o) → (length word ≤ length text) × (length more < length text)
after_place text word more None some e = absurd cc
after_place text word more (Some i) some e =
    let both : ◌≡◌ {A = List ℕ × List ℕ} (word, more) (take i text, drop (i + 1) text) = cc in
    let front : word ≡ take i text = ap (λ (p : List ℕ × List ℕ). p.0) both in
    let back : more ≡ drop (i + 1) text = ap (λ (p : List ℕ × List ℕ). p.1) both in
    (omega (arith, ap length front, length-take i text), omega (arith, ap length back, length-drop (i + 1) text))

-- what stands before the cut is no longer, and what stands after it is shorter
pub cut_shorter : (byte : ℕ) (text word more : List ℕ) → Some (word, more) ≡ cut_at byte text → (length word ≤ length text) × (length more < length text)
cut_shorter byte [] word more e = absurd cc
cut_shorter byte (b ∷ bs) word more e = after_place (b ∷ bs) word more _ (omega arith) e
