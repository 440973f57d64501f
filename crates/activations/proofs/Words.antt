-- The numbers of a line, word by word.
use Rattle.std.proofs.Common.{◌≡◌, ℕ, ◌+◌, ◌<◌, true, false, List, [], ◌∷◌, ◌++◌, length, take, drop, Option, Some, None, option_map, append_assoc, append-nil, refl, ap, sym, ◌∙◌, arith}
use Rattle.std.proofs.lemmas.List.{length-drop}
use Rattle.std.proofs.lemmas.List.Splits.{join_with_byte-slice_split}
use Rattle.std.specs.Prelude.{bytes_eq, codes}
use Rattle.net_names.specs.Texts.{asn_of, cut_at, fields, numeral}
use Rattle.net_names.proofs.Cuts.{fields_uncut, fields_cut}
use Rattle.activations.specs.Files.{numbers_in}

-- nothing is no number
no_number : asn_of [] ≡ None
unfolding asn_of numeral
no_number = refl

-- the numbers so far, and then what further words give
abbrev pub behind : List ℕ → Option (List ℕ × Option ℕ) → Option (List ℕ × Option ℕ)
behind front more = option_map (λ x. (front ++ x.0, x.1)) more

pub behind-none : (more : Option (List ℕ × Option ℕ)) → behind [] more ≡ more
behind-none None = refl
behind-none (Some x) = refl

behind-one : (front : List ℕ) (n : ℕ) (more : Option (List ℕ × Option ℕ)) → behind front (option_map (λ x. (n ∷ x.0, x.1)) more) ≡ behind (front ++ n ∷ []) more
behind-one front n None = refl
behind-one front n (Some x) = ap (λ t. Some (t, x.1)) (sym (append_assoc front (n ∷ []) x.0))

module _ (front rest word more : List ℕ) (whole : Option (List ℕ × Option ℕ)) (c : Some (word, more) ≡ cut_at 32 rest) (so_far : behind front (numbers_in (fields 32 rest)) ≡ whole) where
  pub goes_on : (n : ℕ) → false ≡ bytes_eq word (codes "otc") → Some n ≡ asn_of word → behind (front ++ n ∷ []) (numbers_in (fields 32 more)) ≡ whole
  unfolding numbers_in
  goes_on n other e =
      let one : behind front (numbers_in (fields 32 rest)) ≡ behind front (option_map (λ x. (n ∷ x.0, x.1)) (numbers_in (fields 32 more))) = rw (fields_cut 32 rest word more (sym c), ← other, ← e) refl in
      sym (behind-one front n (numbers_in (fields 32 more))) ∙ sym one ∙ so_far

  pub stops : false ≡ bytes_eq word (codes "otc") → None ≡ asn_of word → None ≡ whole
  unfolding numbers_in
  stops other e =
      let one : behind front (numbers_in (fields 32 rest)) ≡ None = rw (fields_cut 32 rest word more (sym c), ← other, ← e) refl in
      sym one ∙ so_far

  pub then_otc : (m : Option ℕ) → true ≡ bytes_eq word (codes "otc") → m ≡ asn_of more → option_map (λ m. (front, Some m)) m ≡ whole
  unfolding numbers_in
  then_otc m is e = at_end m ∙ sym one ∙ so_far
    where
      at_end : (m : Option ℕ) → option_map (λ m. (front, Some m)) m ≡ behind front (option_map (λ m. ([], Some m)) m)
      at_end None = refl
      at_end (Some m) = ap (λ t. Some (t, Some m)) (sym (append-nil front))

      one : behind front (numbers_in (fields 32 rest)) ≡ behind front (option_map (λ m. ([], Some m)) m)
      one = rw (fields_cut 32 rest word more (sym c), ← is, join_with_byte-slice_split 32 more, ← e) refl

module _ (front rest : List ℕ) (whole : Option (List ℕ × Option ℕ)) (c : None ≡ cut_at 32 rest) (so_far : behind front (numbers_in (fields 32 rest)) ≡ whole) where
  pub only_otc : true ≡ bytes_eq rest (codes "otc") → None ≡ whole
  unfolding numbers_in
  only_otc is =
      let one : behind front (numbers_in (fields 32 rest)) ≡ None = rw (fields_uncut 32 rest (sym c), ← is, no_number) refl in
      sym one ∙ so_far

  pub unread : false ≡ bytes_eq rest (codes "otc") → None ≡ asn_of rest → None ≡ whole
  unfolding numbers_in
  unread other e =
      let one : behind front (numbers_in (fields 32 rest)) ≡ None = rw (fields_uncut 32 rest (sym c), ← other, ← e) refl in
      sym one ∙ so_far

  pub last : (n : ℕ) → false ≡ bytes_eq rest (codes "otc") → Some n ≡ asn_of rest → Some (front ++ n ∷ [], None) ≡ whole
  unfolding numbers_in
  last n other e =
      let one : behind front (numbers_in (fields 32 rest)) ≡ Some (front ++ n ∷ [], None) = rw (fields_uncut 32 rest (sym c), ← other, ← e) refl in
      sym one ∙ so_far

after_place : (text word more : List ℕ) (o : Option ℕ) → 0 < length text → ◌≡◌ {A = Option (List ℕ × List ℕ)} (Some (word, more)) (option_map (λ (i : ℕ). (take i text, drop (i + 1) text)) o) → length more < length text
after_place text word more None some e = absurd cc
after_place text word more (Some i) some e =
    let both : ◌≡◌ {A = List ℕ × List ℕ} (word, more) (take i text, drop (i + 1) text) = cc in
    let is : more ≡ drop (i + 1) text = ap (λ (p : List ℕ × List ℕ). p.1) both in
    omega (arith, ap length is, length-drop (i + 1) text)

-- what stands after the cut is shorter
pub cut_shorter : (text word more : List ℕ) → Some (word, more) ≡ cut_at 32 text → length more < length text
cut_shorter [] word more e = absurd cc
cut_shorter (b ∷ bs) word more e = after_place (b ∷ bs) word more _ (omega arith) e
